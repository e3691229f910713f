use Rattle.std.proofs.Common.{set, refl, rules}
use Rattle.sheet.specs.declared.row.Step.TheVariants as step
use Rattle.sheet.specs.Calls.{StandDown, change_made, stepped_at, with_rows}
use Rattle.sheet.specs.Sheets.{content}
use Rattle.sheet.proofs.Keeping.{kept_by_sheet, owed, stand_down_keeps}
use Rattle.sheet.proofs.Outcomes.{made, passes, refuses}
use Rattle.sheet.proofs.Plain.{stand_down_plain}
use Rattle.sheet.proofs.sheet.Sheet.stand_down.Goals as goal

pub returns-in_err-place : goal.returns-in_err-place
returns-in_err-place c =
    let s = c.args.self.now in
    let g = c.args.number in
    refuses s (StandDown g) (stand_down_plain g) (stepped_at g step.StandDown (content s).rows) c.from_residual.result c.in_err-place.field-0.0 (search rules) c.in_err-place.ensures

pub invariant_of-self : goal.invariant_of-self
invariant_of-self c =
    let s = c.args.self.now in
    let k = content s in
    let g = c.args.number in
    let p = passes s (StandDown g) (stepped_at g step.StandDown k.rows) (c.in_ok-place.place, c.in_ok-place.row) c.in_ok-place.ensures in
    record { keeps = owed (change_made (StandDown g) k) (stand_down_keeps k (kept_by_sheet s) g p.none) _ k.pace (λ j. set k.rows (p.value j).0 (p.value j).1) refl }

pub returns : goal.returns
returns c =
    let s = c.args.self.now in
    let k = content s in
    let g = c.args.number in
    let p = passes s (StandDown g) (stepped_at g step.StandDown k.rows) (c.in_ok-place.place, c.in_ok-place.row) c.in_ok-place.ensures in
    made s (StandDown g) (stand_down_plain g) _ p.none (λ j. with_rows k (set k.rows (p.value j).0 (p.value j).1)) (record { number = refl; saved = refl })
