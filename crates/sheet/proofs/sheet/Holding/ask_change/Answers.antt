use Rattle.std.proofs.Common.{◌≡◌, ℕ, List, [], ◌∷◌, set, ℤ, None, Ok, Err, Result, ap, ◌∙◌, w32, rules}
use Rattle.std.proofs.lemmas.Int.{to_z-of_z}
use Rattle.std.proofs.lemmas.Bool.{and_parts}
use Rattle.field.specs.Refusals.{number_of, Question, first_no}
use Rattle.reckoning.specs.Questions.{in_time}
use Rattle.sheet.specs.declared.row.Row.{Row}
use Rattle.sheet.specs.declared.row.Step.TheVariants as step
use Rattle.sheet.specs.declared.sheet.Holding.{Holding}
use Rattle.sheet.specs.Calls.{Change, change_made, stepped_at, with_rows}
use Rattle.sheet.specs.Content.{row}
use Rattle.sheet.specs.Questions.{answered, asked_13, q_on, q_order, q_standing, q_times, q_upright}
use Rattle.sheet.specs.Sheets.{content_of}
use Rattle.sheet.specs.Sound.{sound}
use Rattle.field.proofs.InARow.{all_yes, no_no}
use Rattle.sheet.proofs.Stepping.{sound_row, changed_sound}
use Rattle.sheet.proofs.Stopping.{all_passed, of_both, passed, stops, window_passed}
use Rattle.sheet.proofs.sheet.Holding.ask_change.Goals as goal

abbrev of_window : ℤ → ℤ → List Question
of_window e l = q_times e l ∷ q_upright e l ∷ []

abbrev of_group : ℕ → ℤ → ℤ → List Row → List Question
of_group g e l rs = q_on g rs ∷ q_standing g (step.Change e l) rs ∷ []

-- the questions before 13
abbrev before : ℕ → ℤ → ℤ → List Row → List Question
before g e l rs = q_times e l ∷ q_upright e l ∷ of_group g e l rs

-- what is known once they are passed
record Known (s : Holding) (g : ℕ) (e l : ℤ) (new : ℕ × Row) : Type 0 where
  none : first_no (before g e l (content_of s).rows) ≡ None
  same : new ≡ stepped_at g (step.Change e l) (content_of s).rows

-- of two times as they are passed on
known :
    (s : Holding) (g : ℕ) (d e k l : ℤ) (new : ℕ × Row) → d ≡ e → k ≡ l
    → ◌≡◌ {A = Result (Unit {0}) ℕ} (Ok tt) (answered (first_no (of_window d k)) tt)
    → ◌≡◌ {A = Result (ℕ × Row) ℕ} (Ok new) (answered (first_no (of_group g d k (content_of s).rows)) (stepped_at g (step.Change d k) (content_of s).rows))
    → Known s g e l new
known s g d e k l new x y window group =
    let rs = (content_of s).rows in
    let p = passed (first_no (of_group g e l rs)) (stepped_at g (step.Change e l) rs) new (of_both (λ d k. ◌≡◌ {A = Result (ℕ × Row) ℕ} (Ok new) (answered (first_no (of_group g d k rs)) (stepped_at g (step.Change d k) rs))) d e k l x y group) in
    let w = all_yes (of_window e l) (window_passed d e k l x y window) in
    let v = all_yes (of_group g e l rs) p.0 in
    record { none = no_no (before g e l rs) (w.0, (w.1.0, (v.0, (v.1.0, tt)))); same = p.1 }

-- what was tried is the change made
tried : (s : Holding) (g : ℕ) (e l : ℤ) (new : ℕ × Row) → Known s g e l new → asked_13 (with_rows (content_of s) (set (content_of s).rows new.0 new.1)) ≡ asked_13 (change_made (Change g e l) (content_of s))
tried s g e l new k = ap (λ (z : ℕ × Row). asked_13 (with_rows (content_of s) (set (content_of s).rows z.0 z.1))) k.same

pub returns-in_err-place : goal.returns-in_err-place
returns-in_err-place c =
    let s = c.args.self.now in
    let rs = (content_of s).rows in
    let g = c.args.number in
    let e = c.args.early in
    let l = c.args.late in
    let x = to_z-of_z w32 e c.ranges.early in
    let y = to_z-of_z w32 l c.ranges.late in
    let q = c.in_err-place.field-0.0 in
    let i : c.from_residual-in_err-place.result ≡ Err q = search rules in
    let refuses = of_both (λ d k. ◌≡◌ {A = Result (ℕ × Row) ℕ} (Err (number_of q)) (answered (first_no (of_group g d k rs)) (stepped_at g (step.Change d k) rs))) _ e _ l x y c.in_err-place.ensures in
    stops (of_window e l) (of_group g e l rs) (q_order (change_made (Change g e l) (content_of s)) ∷ []) c.from_residual-in_err-place.result q (stepped_at g (step.Change e l) rs) (stepped_at g (step.Change e l) rs) (window_passed _ e _ l x y c.in_ok-ask_window.ensures) i refuses

pub plays_with-requires : goal.plays_with-requires
plays_with-requires c =
    let s = c.args.self.now in
    let rs = (content_of s).rows in
    let g = c.args.number in
    let e = c.args.early in
    let l = c.args.late in
    let new : ℕ × Row = (c.in_ok-place.place, c.in_ok-place.row) in
    let k = known s g _ e _ l new (to_z-of_z w32 e c.ranges.early) (to_z-of_z w32 l c.ranges.late) c.in_ok-ask_window.ensures c.in_ok-place.ensures in
    let v = all_yes (before g e l rs) k.none in
    let times = and_parts (in_time e) (in_time l) v.0 in
    ap (λ (z : ℕ × Row). sound z.1) k.same ∙ changed_sound (row g rs) e l (sound_row g rs v.1.1.0 s.keeps.kept) times.0 times.1 v.1.0 v.1.1.1.0

pub returns-in_err-plays_with : goal.returns-in_err-plays_with
returns-in_err-plays_with c =
    let s = c.args.self.now in
    let rs = (content_of s).rows in
    let g = c.args.number in
    let e = c.args.early in
    let l = c.args.late in
    let new : ℕ × Row = (c.in_ok-place.place, c.in_ok-place.row) in
    let k = known s g _ e _ l new (to_z-of_z w32 e c.ranges.early) (to_z-of_z w32 l c.ranges.late) c.in_ok-ask_window.ensures c.in_ok-place.ensures in
    let last = q_order (change_made (Change g e l) (content_of s)) ∷ [] in
    stops (before g e l rs) last [] c.from_residual-in_err-plays_with.result c.in_err-plays_with.field-0.0 (stepped_at g (step.Change e l) rs) tt k.none (search rules) (c.in_err-plays_with.ensures ∙ tried s g e l _ k)

pub returns : goal.returns
returns c =
    let s = c.args.self.now in
    let rs = (content_of s).rows in
    let g = c.args.number in
    let e = c.args.early in
    let l = c.args.late in
    let new : ℕ × Row = (c.in_ok-place.place, c.in_ok-place.row) in
    let k = known s g _ e _ l new (to_z-of_z w32 e c.ranges.early) (to_z-of_z w32 l c.ranges.late) c.in_ok-ask_window.ensures c.in_ok-place.ensures in
    let last = q_order (change_made (Change g e l) (content_of s)) ∷ [] in
    all_passed (before g e l rs) last new (stepped_at g (step.Change e l) rs) k.none (passed (first_no last) tt tt (c.in_ok-plays_with.ensures ∙ tried s g e l _ k)).0 k.same
