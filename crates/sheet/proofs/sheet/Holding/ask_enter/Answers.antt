use Rattle.std.proofs.Common.{◌≡◌, ℕ, ◌<◌, true, not, ltb, [], ◌∷◌, List, length, ℤ, None, Ok, Err, Result, sym, ap, ◌∙◌, arith, w32, rules}
use Rattle.std.proofs.lemmas.Bool.{lt-ltb}
use Rattle.std.proofs.lemmas.Int.{to_z-of_z}
use Rattle.std.specs.List.{insert}
use Rattle.field.specs.Refusals.{number_of, Question, first_no}
use Rattle.field.proofs.InARow.{all_yes, no_no}
use Rattle.sheet.specs.declared.row.Row.{Row}
use Rattle.sheet.specs.declared.sheet.Holding.{Holding}
use Rattle.sheet.specs.Standings.{waiting}
use Rattle.sheet.specs.Sound.{numbered}
use Rattle.sheet.specs.Calls.{Enter, change_made, with_rows}
use Rattle.sheet.specs.Content.{place_for}
use Rattle.sheet.specs.Questions.{answered, asked_13, q_room, q_number, q_times, q_upright, q_new, q_order}
use Rattle.sheet.specs.Sheets.{content_of}
use Rattle.sheet.proofs.Searching.{first_inside, not_found, searched}
use Rattle.sheet.proofs.Stopping.{all_passed, of_both, passed, stops, window_passed}
use Rattle.sheet.proofs.sheet.Holding.ask_enter.Goals as goal

-- the questions before 13, and what is tried after them
module _ (h : Holding) (g : ℕ) (e l : ℤ) where
  abbrev before : List Question
  before = q_room (content_of h).rows ∷ q_number g ∷ q_times e l ∷ q_upright e l ∷ q_new g (content_of h).rows ∷ []

  abbrev last : List Question
  last = q_order (change_made (Enter g e l) (content_of h)) ∷ []

  record Known (i : ℕ) (r : Row) : Type 0 where
    none : first_no before ≡ None
    at : i ≡ place_for g (content_of h).rows
    tried : asked_13 (with_rows (content_of h) (insert (content_of h).rows i r)) ≡ asked_13 (change_made (Enter g e l) (content_of h))

  -- of two times as they are passed on
  known :
      (d k : ℤ) (i : ℕ) (r : Row) → d ≡ e → k ≡ l → length (content_of h).rows < 64 → numbered g ≡ true
      → ◌≡◌ {A = Result (Unit {0}) ℕ} (Ok tt) (answered (first_no (q_times d k ∷ q_upright d k ∷ [])) tt)
      → Err i ≡ searched g (content_of h).rows → r ≡ waiting g d k → Known i r
  known d k i r x y few number window found new =
      let rs = (content_of h).rows in
      let fresh = not_found g rs i found in
      let w = all_yes (q_times e l ∷ q_upright e l ∷ []) (window_passed d e k l x y window) in
      record {
        none = no_no before (lt-ltb (length rs) 64 few, (number, (w.0, (w.1.0, (ap not fresh.new, tt)))));
        at = fresh.at;
        tried = λ j. asked_13 (with_rows (content_of h) (insert rs (fresh.at j) ((new ∙ (λ n. waiting g (x n) (y n))) j)));
      }

pub returns-in_err-ask_window : goal.returns-in_err-ask_window
returns-in_err-ask_window c =
    let h = c.args.self.now in
    let rs = (content_of h).rows in
    let g = c.args.number in
    let e = c.args.early in
    let l = c.args.late in
    let q = c.in_err-ask_window.field-0.0 in
    let n = c.count.ensures in
    let few : length rs < 64 = omega (arith, c.if-count-ge-MOST_GROUPS.false) in
    let none = no_no (q_room rs ∷ q_number g ∷ []) (lt-ltb (length rs) 64 few, (sym c.if-not-is_number.ensures, tt)) in
    let no = of_both (λ d k. ◌≡◌ {A = Result (Unit {0}) ℕ} (Err (number_of q)) (answered (first_no (q_times d k ∷ q_upright d k ∷ [])) tt)) _ e _ l (to_z-of_z w32 e c.ranges.early) (to_z-of_z w32 l c.ranges.late) c.in_err-ask_window.ensures in
    stops (q_room rs ∷ q_number g ∷ []) (q_times e l ∷ q_upright e l ∷ []) (q_new g rs ∷ last h g e l) c.from_residual.result q (place_for g rs) tt none (search rules) no

pub plays_also-requires-clause-inside : goal.plays_also-requires-clause-inside
plays_also-requires-clause-inside c =
    let g = c.args.number in
    let rs = (content_of c.args.self.now).rows in
    let at = (not_found g rs c.in-Err.place c.in-Err.ensures).at in
    let inside = first_inside (λ (r : Row). ltb g r.number) rs in
    omega arith

pub returns-in_err-plays_also : goal.returns-in_err-plays_also
returns-in_err-plays_also c =
    let h = c.args.self.now in
    let g = c.args.number in
    let e = c.args.early in
    let l = c.args.late in
    let n = c.count.ensures in
    let few : length (content_of h).rows < 64 = omega (arith, c.if-count-ge-MOST_GROUPS.false) in
    let k = known h g e l _ _ c.in-Err.place c.waiting.result (to_z-of_z w32 e c.ranges.early) (to_z-of_z w32 l c.ranges.late) few (sym c.if-not-is_number.ensures) c.in_ok-ask_window.ensures c.in-Err.ensures c.waiting.ensures in
    stops (before h g e l) (last h g e l) [] c.from_residual-in_err-plays_also.result c.in_err-plays_also.field-0.0 (place_for g (content_of h).rows) tt k.none (search rules) (c.in_err-plays_also.ensures ∙ k.tried)

pub returns : goal.returns
returns c =
    let h = c.args.self.now in
    let g = c.args.number in
    let e = c.args.early in
    let l = c.args.late in
    let n = c.count.ensures in
    let few : length (content_of h).rows < 64 = omega (arith, c.if-count-ge-MOST_GROUPS.false) in
    let k = known h g e l _ _ c.in-Err.place c.waiting.result (to_z-of_z w32 e c.ranges.early) (to_z-of_z w32 l c.ranges.late) few (sym c.if-not-is_number.ensures) c.in_ok-ask_window.ensures c.in-Err.ensures c.waiting.ensures in
    all_passed (before h g e l) (last h g e l) c.in-Err.place (place_for g (content_of h).rows) k.none (passed (first_no (last h g e l)) tt tt (c.in_ok-plays_also.ensures ∙ k.tried)).0 k.at
