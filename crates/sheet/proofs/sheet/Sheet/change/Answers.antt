use Rattle.std.proofs.Common.{◌≡◌, ℕ, set, ℤ, Ok, Err, Result, refl, ap, arith, w32, rules}
use Rattle.std.proofs.lemmas.Int.{to_z-of_z}
use Rattle.field.specs.Refusals.{number_of}
use Rattle.sheet.specs.declared.row.Row.{Row}
use Rattle.sheet.specs.declared.sheet.Sheet.{Sheet}
use Rattle.sheet.specs.declared.row.Step.TheVariants as step
use Rattle.sheet.specs.Calls.{Change, change_made, stepped_at, with_rows}
use Rattle.sheet.specs.Questions.{answered, questions, verdict}
use Rattle.sheet.specs.Sheets.{content}
use Rattle.sheet.proofs.Keeping.{kept_by_sheet, owed, change_keeps}
use Rattle.sheet.proofs.Plain.{change_plain}
use Rattle.sheet.proofs.Outcomes.{Passed, made, passes, refuses}
use Rattle.sheet.proofs.Stopping.{of_both}
use Rattle.field.proofs.InARow.{all_yes}
use Rattle.sheet.proofs.Stepping.{placed}
use Rattle.sheet.proofs.Thirteen.{change_13}
use Rattle.sheet.proofs.sheet.Sheet.change.Goals as goal

-- every question is passed, and the row is the group's once it has taken the step
said : (s : Sheet) (g : ℕ) (d e m l : ℤ) (new : ℕ × Row) → d ≡ e → m ≡ l → ◌≡◌ {A = Result (ℕ × Row) ℕ} (Ok new) (answered (verdict (content s) (Change g d m) 0) (stepped_at g (step.Change d m) (content s).rows)) → Passed s (Change g e l) new (stepped_at g (step.Change e l) (content s).rows)
said s g d e m l new x y passed = passes s (Change g e l) (stepped_at g (step.Change e l) (content s).rows) new (of_both (λ d m. ◌≡◌ {A = Result (ℕ × Row) ℕ} (Ok new) (answered (verdict (content s) (Change g d m) 0) (stepped_at g (step.Change d m) (content s).rows))) d e m l x y passed)

pub returns-in_err-place : goal.returns-in_err-place
returns-in_err-place c =
    let s = c.args.self.now in
    let k = content s in
    let g = c.args.number in
    let e = c.args.early in
    let l = c.args.late in
    let q = c.in_err-place.field-0.0 in
    let i : c.from_residual.result ≡ Err q = search rules in
    let x = to_z-of_z w32 e c.ranges.early in
    let y = to_z-of_z w32 l c.ranges.late in
    let no = of_both (λ d m. ◌≡◌ {A = Result (ℕ × Row) ℕ} (Err (number_of q)) (answered (verdict k (Change g d m) 0) (stepped_at g (step.Change d m) k.rows))) _ e _ l x y c.in_err-place.ensures in
    let m = refuses s (Change g e l) (change_plain g e l) (stepped_at g (step.Change e l) k.rows) c.from_residual.result q i no in
    record { makes = m; thirteen = change_13 k s.holding.keeps.steady c.from_residual.result tt g e l m.answer }

pub row_mut-requires : goal.row_mut-requires
row_mut-requires c =
    let s = c.args.self.now in
    let k = content s in
    let g = c.args.number in
    let e = c.args.early in
    let l = c.args.late in
    let p = said s g _ e _ l (c.in_ok-place.place, c.in_ok-place.row) (to_z-of_z w32 e c.ranges.early) (to_z-of_z w32 l c.ranges.late) c.in_ok-place.ensures in
    let y = all_yes (questions k (Change g e l) 0) p.none in
    let inside = placed g k.rows y.1.1.0 in
    let at = ap (λ (x : ℕ × Row). x.0) p.value in
    let len = s.holding.table.rows.ok.0 in
    omega arith

pub invariant_of-self : goal.invariant_of-self
invariant_of-self c =
    let s = c.args.self.now in
    let k = content s in
    let g = c.args.number in
    let e = c.args.early in
    let l = c.args.late in
    let p = said s g _ e _ l (c.in_ok-place.place, c.in_ok-place.row) (to_z-of_z w32 e c.ranges.early) (to_z-of_z w32 l c.ranges.late) c.in_ok-place.ensures in
    record { keeps = owed (change_made (Change g e l) k) (change_keeps k (kept_by_sheet s) g e l p.none) _ s.holding.pace (λ j. set k.rows (p.value j).0 (p.value j).1) refl }

pub returns : goal.returns
returns c =
    let s = c.args.self.now in
    let k = content s in
    let g = c.args.number in
    let e = c.args.early in
    let l = c.args.late in
    let p = said s g _ e _ l (c.in_ok-place.place, c.in_ok-place.row) (to_z-of_z w32 e c.ranges.early) (to_z-of_z w32 l c.ranges.late) c.in_ok-place.ensures in
    let m = made s (Change g e l) (change_plain g e l) _ p.none (λ j. with_rows k (set k.rows (p.value j).0 (p.value j).1)) (record { number = refl; saved = refl }) in
    record { makes = m; thirteen = change_13 k s.holding.keeps.steady (Ok tt) tt g e l m.answer }
