-- Sound rows stay sound: what a step, or a group held at a time, makes of one.
use Rattle.std.proofs.Common.{◌≡◌, ℕ, ◌<◌, true, false, List, length, ℤ, is_ok, refl, arith}
use lib.Signed.{le_z}
use Rattle.std.proofs.lemmas.Int.{ints}
use Rattle.std.proofs.lemmas.Bool.{and_parts, and_from, false≢true, ltb-true}
use Rattle.std.specs.List.{list_all}
use Rattle.theory.proofs.Closed.{leZ_true}
use Rattle.reckoning.specs.Questions.{in_time}
use Rattle.sheet.specs.declared.row.Row.{Row}
use Rattle.sheet.specs.declared.row.Standing.{Standing}
use Rattle.sheet.specs.declared.row.Standing.TheVariants.{Waiting, Called, Away}
use Rattle.sheet.specs.declared.row.Step.TheVariants as step
use Rattle.sheet.specs.Standings.{counts, nobody, stood, step_by, stepped, window_by}
use Rattle.sheet.specs.Sound.{within, kept_time, sound}
use Rattle.sheet.specs.Calls.{made_or}
use Rattle.sheet.specs.Content.{on, place, row}
use Rattle.sheet.proofs.Passing.{pass_at}
use Rattle.sheet.proofs.Soundness.{parts, sound_from, le_leZ}

-- a group on the sheet has a place and a sound row
module _ (g : ℕ) (rs : List Row) (y : on g rs ≡ true) where
  pub placed : place g rs < length rs
  placed = ltb-true (place g rs) (length rs) y

  pub sound_row : list_all sound rs ≡ true → sound (row g rs) ≡ true
  sound_row all = pass_at sound rs (place g rs) nobody placed all

no_step : {A : Type 0} → false ≡ true → A
no_step h = absurd (false≢true h)

between : (e l u t : ℤ) → within e l u ≡ true → within u u t ≡ true → within e l t ≡ true
between e l u t k i =
    let p = and_parts (le_z e u) (le_z u l) k in
    let q = and_parts (le_z u t) (le_z t u) i in
    let a = leZ_true e u p.0 in
    let b = leZ_true u l p.1 in
    let c = leZ_true u t q.0 in
    let d = leZ_true t u q.1 in
    and_from (le_z e t) (le_z t l) (le_leZ e t (omega (arith, ints))) (le_leZ t l (omega (arith, ints)))

-- what is inside the window that counts is inside early..late
counted_within : (s : Standing) (e l t : ℤ) → kept_time s e l ≡ true → within (window_by s e l).early (window_by s e l).late t ≡ true → within e l t ≡ true
counted_within Waiting e l t k i = i
counted_within (Called u) e l t k i = between e l u t k i
counted_within (Away u) e l t k i = between e l u t k i

pub held_sound : (r : Row) (t : ℤ) → sound r ≡ true → within (counts r).early (counts r).late t ≡ true → sound (stood r (Called t)) ≡ true
held_sound r t h i =
    let p = parts r h in
    sound_from (stood r (Called t)) (record { number = p.number; early = p.early; late = p.late; forward = p.forward; time = counted_within r.standing r.early r.late t p.time i })

pub called_sound : (r : Row) (t : ℤ) → sound r ≡ true → within (counts r).early (counts r).late t ≡ true → is_ok (stepped r (step.CallUp t)) ≡ true → sound (made_or r (stepped r (step.CallUp t))) ≡ true
called_sound r t h i = go r.standing
  where
    go : (s : Standing) → is_ok (step_by s (step.CallUp t) r) ≡ true → sound (made_or r (step_by s (step.CallUp t) r)) ≡ true
    go Waiting k = held_sound r t h i
    go (Called u) k = no_step k
    go (Away u) k = no_step k

pub changed_sound : (r : Row) (e l : ℤ) → sound r ≡ true → in_time e ≡ true → in_time l ≡ true → le_z e l ≡ true → is_ok (stepped r (step.Change e l)) ≡ true → sound (made_or r (stepped r (step.Change e l))) ≡ true
changed_sound r e l h a b f = go r.standing
  where
    go : (s : Standing) → is_ok (step_by s (step.Change e l) r) ≡ true → sound (made_or r (step_by s (step.Change e l) r)) ≡ true
    go Waiting k = sound_from (record { number = r.number; early = e; late = l; standing = Waiting }) (record { number = (parts r h).number; early = a; late = b; forward = f; time = refl })
    go (Called u) k = no_step k
    go (Away u) k = no_step k
