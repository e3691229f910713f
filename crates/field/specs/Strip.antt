-- What the bytes of a strip mean: records of ten bytes, high byte first.
use Rattle.std.specs.Prelude.{ℕ, zero, suc, ◌+◌, ◌*◌, ◌/◌, List, map, length, ℤ, pos, slice_index, slice_index_or}
use Rattle.std.proofs.Common.{arith, to_z}
use Rattle.std.specs.Int.{w32}
use Rattle.std.proofs.lemmas.Int.{ints}
use Rattle.std.specs.List.{range_with_len}
use Rattle.field.specs.Windows.{Window, window, outside, early_at, late_at, Told}

-- the four bytes from i on, as a number in two's complement
abbrev pub word : List ℕ → ℕ → ℤ
word bs i = to_z w32 (slice_index bs i * 16777216 + slice_index bs (i + 1) * 65536 + slice_index bs (i + 2) * 256 + slice_index bs (i + 3))

-- record k begins at byte 10 k: number (two bytes), early and late (four each)
abbrev pub number_at : List ℕ → ℕ → ℕ
number_at bs k = slice_index bs (k * 10) * 256 + slice_index bs (k * 10 + 1)

abbrev pub record_at : List ℕ → ℕ → Window
record_at bs k = window (word bs (k * 10 + 2)) (word bs (k * 10 + 6))

-- a shorter tail is no record
abbrev pub records : List ℕ → List Window
records bs = map (record_at bs) (range_with_len 0 (length bs / 10))

abbrev pub numbers_of : List ℕ → List ℕ
numbers_of bs = map (number_at bs) (range_with_len 0 (length bs / 10))

word_told : (n : ℕ) → Told (to_z w32 n)
word_told n = (omega (arith, ints), omega (arith, ints))

zero_told : Told (pos 0)
zero_told = (omega (arith, ints), omega (arith, ints))

-- what holds of every f k and of the default holds all over a list made by f
made_keeps : {X : Type 0} (P : X → Type 0) (f : ℕ → X) (a n : ℕ) (d : X) → P d → ((k : ℕ) → P (f k)) → (k : ℕ) → P (slice_index_or (map f (range_with_len a n)) k d)
made_keeps P f a zero d p q k = p
made_keeps P f a (suc n) d p q zero = q a
made_keeps P f a (suc n) d p q (suc k) = made_keeps P f (a + 1) n d p q k

pub records_told : (bs : List ℕ) (k : ℕ) → Told (early_at (records bs) k) × Told (late_at (records bs) k)
records_told bs k = made_keeps (λ w. Told w.early × Told w.late) (record_at bs) 0 (length bs / 10) outside (zero_told, zero_told) (λ j. (word_told _, word_told _)) k
