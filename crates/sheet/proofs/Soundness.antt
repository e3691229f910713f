-- Sound rows: their parts, and that no question of a field refuses them.
use Rattle.std.proofs.Common.{◌≡◌, ℕ, ◌≤◌, Bool, true, cond, ◌&&◌, leb, List, [], ◌∷◌, map, length, ℤ, pos, negsuc, ◌≤ℤ◌, Some, None, Option, refl, arith}
use lib.Signed.{le_z}
use Rattle.std.proofs.lemmas.List.{length-map}
use Rattle.std.proofs.lemmas.Int.{ints}
use Rattle.std.proofs.lemmas.Bool.{and_parts, and_from, le-leb}
use Rattle.std.specs.List.{list_all}
use Rattle.field.specs.declared.window.Window.{Window}
use Rattle.theory.proofs.Closed.{leZ_true}
use Rattle.reckoning.specs.Questions.{every, in_time, timed, upright, refused}
use Rattle.sheet.specs.declared.row.Row.{Row}
use Rattle.sheet.specs.declared.row.Standing.{Standing}
use Rattle.sheet.specs.declared.row.Standing.TheVariants.{Waiting, Called, Away}
use Rattle.sheet.specs.Standings.{window_by, counts}
use Rattle.sheet.specs.Sound.{numbered, within, kept_time, sound}
use Rattle.sheet.specs.Content.{paced, windows_of}
use Rattle.sheet.proofs.Passing.{pass_weaker}

pub record Parts (n : ℕ) (e l : ℤ) (s : Standing) : Type 0 where
  pub number : numbered n ≡ true
  pub early : in_time e ≡ true
  pub late : in_time l ≡ true
  pub forward : le_z e l ≡ true
  pub time : kept_time s e l ≡ true

pub parts : (r : Row) → sound r ≡ true → Parts r.number r.early r.late r.standing
parts r h =
    let n = numbered r.number in
    let a = in_time r.early in
    let b = in_time r.late in
    let u = le_z r.early r.late in
    let p = and_parts (n && a && b && u) (kept_time r.standing r.early r.late) h in
    let q = and_parts (n && a && b) u p.0 in
    let s = and_parts (n && a) b q.0 in
    let v = and_parts n a s.0 in
    record { number = v.0; early = v.1; late = s.1; forward = q.1; time = p.1 }

pub sound_from : (r : Row) → Parts r.number r.early r.late r.standing → sound r ≡ true
sound_from r p =
    let n = numbered r.number in
    let a = in_time r.early in
    let b = in_time r.late in
    let u = le_z r.early r.late in
    and_from (n && a && b && u) _ (and_from (n && a && b) u (and_from (n && a) b (and_from n a p.number p.early) p.late) p.forward) p.time

pub le_leZ : (a b : ℤ) → a ≤ℤ b → le_z a b ≡ true
le_leZ a b h = grind (arith, ints)

-- a time between two times in time is in time
pub between_in_time : (e l t : ℤ) → in_time e ≡ true → in_time l ≡ true → within e l t ≡ true → in_time t ≡ true
between_in_time e l t a b w =
    let p = leZ_true (negsuc 86399) e (and_parts (le_z (negsuc 86399) e) (le_z e (pos 86400)) a).0 in
    let q = leZ_true l (pos 86400) (and_parts (le_z (negsuc 86399) l) (le_z l (pos 86400)) b).1 in
    let v = and_parts (le_z e t) (le_z t l) w in
    let x = leZ_true e t v.0 in
    let y = leZ_true t l v.1 in
    and_from (le_z (negsuc 86399) t) (le_z t (pos 86400)) (le_leZ (negsuc 86399) t (omega (arith, ints))) (le_leZ t (pos 86400) (omega (arith, ints)))

alone : (t : ℤ) → in_time t ≡ true → (timed (record { early = t; late = t }) ≡ true) × (upright (record { early = t; late = t }) ≡ true)
alone t h = (and_from (in_time t) (in_time t) h h, le_leZ t t (omega (arith, ints)))

-- the window that counts gets a yes to 6 and 7
counted_passes : (n : ℕ) (e l : ℤ) (s : Standing) → Parts n e l s → (timed (window_by s e l) ≡ true) × (upright (window_by s e l) ≡ true)
counted_passes n e l Waiting p = (and_from (in_time e) (in_time l) p.early p.late, p.forward)
counted_passes n e l (Called t) p = alone t (between_in_time e l t p.early p.late p.time)
counted_passes n e l (Away t) p = alone t (between_in_time e l t p.early p.late p.time)

every_map : (t : Window → Bool) (rs : List Row) → list_all (λ r. t (counts r)) rs ≡ true → every t (map counts rs) ≡ true
every_map t [] h = refl
every_map t (r ∷ rs) h = let p = and_parts (t (counts r)) (list_all (λ (x : Row). t (counts x)) rs) h in and_from (t (counts r)) (every t (map counts rs)) p.0 (every_map t rs p.1)

four_yes : (a b c d : Bool) → a ≡ true → b ≡ true → c ≡ true → d ≡ true → ◌≡◌ {A = Option ℕ} (cond a (cond b (cond c (cond d None (Some 7)) (Some 6)) (Some 4)) (Some 3)) None
four_yes a b c d h i j k = grind arith

pub not_refused : (rs : List Row) (p : ℕ) → paced p ≡ true → length rs ≤ 64 → list_all sound rs ≡ true → refused p (windows_of rs) ≡ None
not_refused rs p h few all =
    let n = length-map rs counts in
    let six = every_map timed rs (pass_weaker sound (λ (r : Row). timed (counts r)) (λ r s. (counted_passes r.number r.early r.late r.standing (parts r s)).0) rs all) in
    let seven = every_map upright rs (pass_weaker sound (λ (r : Row). upright (counts r)) (λ r s. (counted_passes r.number r.early r.late r.standing (parts r s)).1) rs all) in
    four_yes (paced p) (leb (length (map counts rs)) 64) (every timed (map counts rs)) (every upright (map counts rs)) h (le-leb (length (map counts rs)) 64 (omega arith)) six seven
