use Rattle.std.proofs.Common.{◌≡◌, ℕ, ltb, length, ℤ, Ok, Err, Result, refl, ap, ◌∙◌, arith, w32, rules}
use Rattle.std.proofs.lemmas.Bool.{ltb-true}
use Rattle.std.specs.List.{insert}
use Rattle.std.proofs.lemmas.Int.{to_z-of_z}
use Rattle.field.specs.Refusals.{number_of}
use Rattle.sheet.specs.declared.row.Row.{Row}
use Rattle.sheet.specs.declared.sheet.Sheet.{Sheet}
use Rattle.sheet.specs.Calls.{Enter, change_made, with_rows}
use Rattle.sheet.specs.Content.{place_for}
use Rattle.sheet.specs.Questions.{answered, questions, verdict}
use Rattle.sheet.specs.Sheets.{content}
use Rattle.sheet.specs.Standings.{waiting}
use Rattle.field.proofs.InARow.{all_yes}
use Rattle.sheet.proofs.Keeping.{kept_by_sheet, owed, enter_keeps}
use Rattle.sheet.proofs.Plain.{enter_plain}
use Rattle.sheet.proofs.Outcomes.{Passed, made, passes, refuses}
use Rattle.sheet.proofs.Searching.{first_inside}
use Rattle.sheet.proofs.Stopping.{of_both}
use Rattle.sheet.proofs.Thirteen.{enter_13}
use Rattle.sheet.proofs.sheet.Sheet.enter.Goals as goal

pub returns-in_err-place : goal.returns-in_err-place
returns-in_err-place c =
    let s = c.args.self.now in
    let k = content s in
    let g = c.args.number in
    let e = c.args.early in
    let l = c.args.late in
    let q = c.in_err-place.field-0.0 in
    let i : c.from_residual.result ≡ Err q = search rules in
    let x = to_z-of_z w32 e c.ranges.early in
    let y = to_z-of_z w32 l c.ranges.late in
    let no = of_both (λ d m. ◌≡◌ {A = Result ℕ ℕ} (Err (number_of q)) (answered (verdict k (Enter g d m) 0) (place_for g k.rows))) _ e _ l x y c.in_err-place.ensures in
    let m = refuses s (Enter g e l) (enter_plain g e l) (place_for g k.rows) c.from_residual.result q i no in
    record { makes = m; thirteen = enter_13 k s.holding.keeps.steady c.from_residual.result tt g e l m.answer }

-- every question is passed, and the place is the new number's
said : (s : Sheet) (g : ℕ) (d e m l : ℤ) (at : ℕ) → d ≡ e → m ≡ l → ◌≡◌ {A = Result ℕ ℕ} (Ok at) (answered (verdict (content s) (Enter g d m) 0) (place_for g (content s).rows)) → Passed s (Enter g e l) at (place_for g (content s).rows)
said s g d e m l at x y passed = passes s (Enter g e l) (place_for g (content s).rows) at (of_both (λ d m. ◌≡◌ {A = Result ℕ ℕ} (Ok at) (answered (verdict (content s) (Enter g d m) 0) (place_for g (content s).rows))) d e m l x y passed)

pub insert-requires : goal.insert-requires
insert-requires c =
    let s = c.args.self.now in
    let g = c.args.number in
    let e = c.args.early in
    let l = c.args.late in
    let p = said s g _ e _ l c.in_ok-place.place (to_z-of_z w32 e c.ranges.early) (to_z-of_z w32 l c.ranges.late) c.in_ok-place.ensures in
    let y = all_yes (questions (content s) (Enter g c.args.early c.args.late) 0) p.none in
    let inside = first_inside (λ (r : Row). ltb g r.number) (content s).rows in
    let few = ltb-true (length (content s).rows) 64 y.0 in
    let at = p.value in
    let len = s.holding.table.rows.ok.0 in
    record { inside = omega arith; room = omega arith }

pub invariant_of-self : goal.invariant_of-self
invariant_of-self c =
    let s = c.args.self.now in
    let k = content s in
    let g = c.args.number in
    let e = c.args.early in
    let l = c.args.late in
    let x = to_z-of_z w32 e c.ranges.early in
    let y = to_z-of_z w32 l c.ranges.late in
    let p = said s g _ e _ l c.in_ok-place.place x y c.in_ok-place.ensures in
    let new = c.waiting-row.ensures ∙ (λ j. waiting g (x j) (y j)) in
    let rows = c.insert.ensures ∙ (λ j. insert k.rows (p.value j) (new j)) in
    record { keeps = owed (change_made (Enter g e l) k) (enter_keeps k (kept_by_sheet s) g e l p.none) _ s.holding.pace rows refl }

pub returns : goal.returns
returns c =
    let s = c.args.self.now in
    let k = content s in
    let g = c.args.number in
    let e = c.args.early in
    let l = c.args.late in
    let x = to_z-of_z w32 e c.ranges.early in
    let y = to_z-of_z w32 l c.ranges.late in
    let p = said s g _ e _ l c.in_ok-place.place x y c.in_ok-place.ensures in
    let new = c.waiting-row.ensures ∙ (λ j. waiting g (x j) (y j)) in
    let rows = c.insert.ensures ∙ (λ j. insert k.rows (p.value j) (new j)) in
    let m = made s (Enter g e l) (enter_plain g e l) _ p.none (ap (with_rows k) rows) (record { number = refl; saved = refl }) in
    record { makes = m; thirteen = enter_13 k s.holding.keeps.steady (Ok tt) tt g e l m.answer }
