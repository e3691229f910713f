use Rattle.std.proofs.Common.{refl, ap, ◌∙◌, rules}
use Rattle.std.specs.List.{remove}
use Rattle.sheet.specs.declared.row.Step.TheVariants as step
use Rattle.sheet.specs.Calls.{Withdraw, change_made, stepped_at, with_rows}
use Rattle.sheet.specs.Sheets.{content}
use Rattle.sheet.proofs.Keeping.{kept_by_sheet, owed, withdraw_keeps}
use Rattle.sheet.proofs.Outcomes.{made, passes, refuses}
use Rattle.sheet.proofs.Plain.{withdraw_plain}
use Rattle.sheet.proofs.sheet.Sheet.withdraw.Goals as goal

pub returns-in_err-place : goal.returns-in_err-place
returns-in_err-place c =
    let s = c.args.self.now in
    let g = c.args.number in
    refuses s (Withdraw g) (withdraw_plain g) (stepped_at g step.Withdraw (content s).rows) c.from_residual.result c.in_err-place.field-0.0 (search rules) c.in_err-place.ensures

pub invariant_of-self : goal.invariant_of-self
invariant_of-self c =
    let s = c.args.self.now in
    let k = content s in
    let g = c.args.number in
    let p = passes s (Withdraw g) (stepped_at g step.Withdraw k.rows) _ c.in_ok-place.ensures in
    let rows = c.remove.ensures ∙ (λ j. remove k.rows (p.value j).0) in
    record { keeps = owed (change_made (Withdraw g) k) (withdraw_keeps k (kept_by_sheet s) g p.none) _ k.pace rows refl }

pub returns : goal.returns
returns c =
    let s = c.args.self.now in
    let k = content s in
    let g = c.args.number in
    let p = passes s (Withdraw g) (stepped_at g step.Withdraw k.rows) _ c.in_ok-place.ensures in
    let rows = c.remove.ensures ∙ (λ j. remove k.rows (p.value j).0) in
    made s (Withdraw g) (withdraw_plain g) _ p.none (ap (with_rows k) rows) (record { number = refl; saved = refl })
