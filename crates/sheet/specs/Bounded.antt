-- The times of sound rows are such as a field may tell.
use Rattle.std.specs.Prelude.{◌≡◌, ℕ, zero, suc, true, ◌&&◌, T, List, [], ◌∷◌, map, ℤ, pos, negsuc, ◌≤ℤ◌, int_le}
use Rattle.std.proofs.Common.{sym, subst, arith}
use Rattle.std.specs.Int.Signed.{le_z_yes}
use Rattle.std.proofs.lemmas.Int.{ints}
use Rattle.std.proofs.lemmas.Bool.{and_parts}
use Rattle.std.specs.List.{list_all}
use Rattle.field.specs.Windows.{early_at, late_at, Told}
use Rattle.reckoning.specs.Questions.{in_time}
use Rattle.sheet.specs.declared.row.Row.{Row}
use Rattle.sheet.specs.declared.row.Standing.{Standing}
use Rattle.sheet.specs.declared.row.Standing.TheVariants.{Waiting, Called, Away}
use Rattle.sheet.specs.Standings.{window_by, counts}
use Rattle.sheet.specs.Sound.{numbered, within, kept_time, sound}

at_most : (a b : ℤ) → int_le a b ≡ true → a ≤ℤ b
at_most a b e = le_z_yes (subst T (sym e) tt)

-- what lies between two times in time is told
between_told : (e l t : ℤ) → in_time e ≡ true → in_time l ≡ true → e ≤ℤ t → t ≤ℤ l → Told t
between_told e l t a b from to =
    let p = at_most (negsuc 86399) e (and_parts (int_le (negsuc 86399) e) (int_le e (pos 86400)) a).0 in
    let q = at_most l (pos 86400) (and_parts (int_le (negsuc 86399) l) (int_le l (pos 86400)) b).1 in
    (omega (arith, ints), omega (arith, ints))

alone_told : (e l t : ℤ) → in_time e ≡ true → in_time l ≡ true → within e l t ≡ true → Told t × Told t
alone_told e l t a b w =
    let p = and_parts (int_le e t) (int_le t l) w in
    let h = between_told e l t a b (at_most e t p.0) (at_most t l p.1) in
    (h, h)

counted_told : (s : Standing) (e l : ℤ) → in_time e ≡ true → in_time l ≡ true → int_le e l ≡ true → kept_time s e l ≡ true → Told (window_by s e l).early × Told (window_by s e l).late
counted_told Waiting e l a b u k =
    let h = at_most e l u in
    (between_told e l e a b (omega (arith, ints)) h, between_told e l l a b h (omega (arith, ints)))
counted_told (Called t) e l a b u k = alone_told e l t a b k
counted_told (Away t) e l a b u k = alone_told e l t a b k

row_told : (r : Row) → sound r ≡ true → Told (counts r).early × Told (counts r).late
row_told r h =
    let n = numbered r.number in
    let a = in_time r.early in
    let b = in_time r.late in
    let u = int_le r.early r.late in
    let p = and_parts (n && a && b && u) (kept_time r.standing r.early r.late) h in
    let q = and_parts (n && a && b) u p.0 in
    let s = and_parts (n && a) b q.0 in
    counted_told r.standing r.early r.late (and_parts n a s.0).1 s.1 q.1 p.1

pub rows_told : (rs : List Row) → list_all sound rs ≡ true → (k : ℕ) → Told (early_at (map counts rs) k) × Told (late_at (map counts rs) k)
rows_told [] h k = ((omega (arith, ints), omega (arith, ints)), (omega (arith, ints), omega (arith, ints)))
rows_told (r ∷ rs) h zero = row_told r (and_parts (sound r) (list_all sound rs) h).0
rows_told (r ∷ rs) h (suc k) = rows_told rs (and_parts (sound r) (list_all sound rs) h).1 k
