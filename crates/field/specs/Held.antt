-- That the times of a field are told when one place is held to a window of two signed 32-bit times.
use Rattle.std.specs.Prelude.{ℕ, zero, suc, ◌<◌, List, [], ◌∷◌, ℤ, pos, negsuc, slice_index_or, slice_set}
use Rattle.std.proofs.Common.{arith}
use Rattle.std.specs.Int.Signed.{mag}
use Rattle.std.proofs.lemmas.Int.{ints}
use Rattle.field.specs.Windows.{Window, outside, early_at, late_at, Told}

fits_told : (z : ℤ) → mag z < 2147483648 → Told z
fits_told (pos n) f = (omega (arith, ints), omega (arith, ints))
fits_told (negsuc n) f = (omega (arith, ints), omega (arith, ints))

-- what holds of the new element and of the old ones holds of a list in which one is set
set_keeps : {X : Type 0} (P : X → Type 0) (xs : List X) (i : ℕ) (y d : X) → P y → ((k : ℕ) → P (slice_index_or xs k d)) → (k : ℕ) → P (slice_index_or (slice_set xs i y) k d)
set_keeps P [] i y d p q k = q k
set_keeps P (x ∷ xs) zero y d p q zero = p
set_keeps P (x ∷ xs) zero y d p q (suc k) = q (suc k)
set_keeps P (x ∷ xs) (suc i) y d p q zero = q zero
set_keeps P (x ∷ xs) (suc i) y d p q (suc k) = set_keeps P xs i y d p (λ j. q (suc j)) k

pub held_told : (ws : List Window) (i : ℕ) (w : Window) → mag w.early < 2147483648 → mag w.late < 2147483648 → ((k : ℕ) → Told (early_at ws k) × Told (late_at ws k)) → (k : ℕ) → Told (early_at (slice_set ws i w) k) × Told (late_at (slice_set ws i w) k)
held_told ws i w f h q k = set_keeps (λ v. Told v.early × Told v.late) ws i w outside (fits_told w.early f, fits_told w.late h) q k
