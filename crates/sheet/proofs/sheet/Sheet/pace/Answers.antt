use Rattle.std.proofs.Common.{Ok, refl, rules}
use Rattle.sheet.specs.Calls.{Pace}
use Rattle.sheet.specs.Sheets.{content}
use Rattle.sheet.proofs.Outcomes.{made, passes, refuses}
use Rattle.sheet.proofs.Plain.{pace_plain}
use Rattle.sheet.proofs.Thirteen.{pace_13}
use Rattle.sheet.proofs.sheet.Sheet.pace.Goals as goal

pub returns-in_err-ask_pace : goal.returns-in_err-ask_pace
returns-in_err-ask_pace c =
    let s = c.args.self.now in
    let p = c.args.seconds in
    let r = c.from_residual.result in
    let m = refuses s (Pace p) (pace_plain p) tt r c.in_err-ask_pace.field-0.0 (search rules) c.in_err-ask_pace.ensures in
    record { makes = m; thirteen = pace_13 (content s) r tt p m.answer }

pub returns : goal.returns
returns c =
    let s = c.args.self.now in
    let p = c.args.seconds in
    let none = (passes s (Pace p) tt tt c.in_ok-ask_pace.ensures).none in
    let m = made s (Pace p) (pace_plain p) _ none refl (record { number = refl; saved = refl }) in
    record { makes = m; thirteen = pace_13 (content s) (Ok tt) tt p m.answer }
