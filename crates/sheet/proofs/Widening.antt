-- A wider window keeps an order of play: so a group may stand down, or go away at its time.
use Rattle.std.proofs.Common.{◌≡◌, ℕ, ◌<◌, true, false, List, length, get_or, set, ℤ, pos, is_ok, sym, refl, ◌∙◌, subst, ⊎_elim, arith}
use lib.ListN.{get_or-map}
use lib.Signed.{le_z}
use Rattle.std.proofs.lemmas.List.{length-set, get_or-set_same, get_or-set_other, map-set}
use Rattle.std.proofs.lemmas.Int.{ints}
use Rattle.std.proofs.lemmas.Bool.{and_parts, cases_eq, false≢true}
use Rattle.field.specs.declared.window.Window.{Window}
use Rattle.field.specs.Windows.{outside}
use Rattle.theory.specs.Orders.{In, OrderOfPlay, window_at, start_at}
use Rattle.theory.proofs.Closed.{leZ_true}
use Rattle.sheet.specs.declared.row.Row.{Row}
use Rattle.sheet.specs.declared.row.Standing.{Standing}
use Rattle.sheet.specs.declared.row.Standing.TheVariants.{Waiting, Called, Away}
use Rattle.sheet.specs.declared.row.Step.TheVariants as step
use Rattle.sheet.specs.Standings.{counts, nobody, stepped}
use Rattle.sheet.specs.Sound.{within, sound}
use Rattle.sheet.specs.Calls.{made_or}
use Rattle.sheet.specs.Content.{Content, Playable, windows_of}
use Rattle.sheet.proofs.Soundness.{Parts, parts, sound_from}

wider_order : (p : ℤ) (ws : List Window) (xs : List ℤ) (i : ℕ) (w : Window) → ((x : ℤ) → In (window_at ws i) x → In w x) → OrderOfPlay p ws xs → OrderOfPlay p (set ws i w) xs
wider_order p ws xs i w wider o =
    let len = length-set ws i w in
    record {
      same = o.same ∙ sym len;
      within =
          λ j l.
          let h : j < length ws = omega arith in
          ⊎_elim
          (λ e. subst (λ (u : Window). In u (start_at xs j)) (sym (subst (λ (k : ℕ). window_at (set ws i w) k ≡ w) (sym e) (get_or-set_same ws i w outside (subst (λ (k : ℕ). k < length ws) e h)))) (wider (start_at xs j) (subst (λ (k : ℕ). In (window_at ws k) (start_at xs j)) e (o.within j h))))
          (λ n. subst (λ (u : Window). In u (start_at xs j)) (sym (get_or-set_other ws i j w outside n)) (o.within j h))
          (cases_eq j i);
      apart = λ j k a b. o.apart j k a (omega arith);
    }

pub wider_play : (c : Content) (i : ℕ) (r : Row) → ((x : ℤ) → In (counts (get_or c.rows i nobody)) x → In (counts r) x) → Playable c → Playable (record { rows = set c.rows i r; pace = c.pace })
wider_play c i r wider o =
    let ws = windows_of c.rows in
    let at = get_or-map counts c.rows i nobody in
    (o.0, subst (λ (us : List Window). OrderOfPlay (pos c.pace) us o.0) (sym (map-set counts c.rows i r)) (wider_order (pos c.pace) ws o.0 i (counts r) (λ x h. wider x (subst (λ (u : Window). In u x) at h)) o.1))

-- what a step that needs no order of play does to a sound row: it stays sound, and its window holds what it held
pub record Eases (r new : Row) : Type 0 where
  pub sound : sound new ≡ true
  pub wider : (x : ℤ) → In (counts r) x → In (counts new) x

never : {A : Type 0} → false ≡ true → A
never h = absurd (false≢true h)

-- a time within a window is a narrower one
pub alone_within : (e l u x : ℤ) → within e l u ≡ true → In (record { early = u; late = u }) x → In (record { early = e; late = l }) x
alone_within e l u x k i =
    let p = and_parts (le_z e u) (le_z u l) k in
    let a = leZ_true e u p.0 in
    let b = leZ_true u l p.1 in
    let c = i.from in
    let d = i.to in
    record { from = omega (arith, ints); to = omega (arith, ints) }

module _ (n : ℕ) (e l : ℤ) where
  abbrev row_with : Standing → Row
  row_with s = record { number = n; early = e; late = l; standing = s }

  down : (s : Standing) → Parts n e l s → is_ok (stepped (row_with s) step.StandDown) ≡ true → Eases (row_with s) (made_or (row_with s) (stepped (row_with s) step.StandDown))
  down Waiting p k = never k
  down (Called u) p k = record { sound = sound_from (row_with Waiting) (record { number = p.number; early = p.early; late = p.late; forward = p.forward; time = refl }); wider = λ x i. alone_within e l u x p.time i }
  down (Away u) p k = never k

  away : (s : Standing) → Parts n e l s → is_ok (stepped (row_with s) step.SendAway) ≡ true → Eases (row_with s) (made_or (row_with s) (stepped (row_with s) step.SendAway))
  away Waiting p k = never k
  away (Called u) p k = record { sound = sound_from (row_with (Away u)) (record { number = p.number; early = p.early; late = p.late; forward = p.forward; time = p.time }); wider = λ x i. i }
  away (Away u) p k = never k

pub stands_down : (r : Row) → sound r ≡ true → is_ok (stepped r step.StandDown) ≡ true → Eases r (made_or r (stepped r step.StandDown))
stands_down r h k = down r.number r.early r.late r.standing (parts r h) k

pub goes_away : (r : Row) → sound r ≡ true → is_ok (stepped r step.SendAway) ≡ true → Eases r (made_or r (stepped r step.SendAway))
goes_away r h k = away r.number r.early r.late r.standing (parts r h) k
