use Rattle.std.proofs.Common.{◌≡◌, ℕ, Err, None, Option, sym, refl, ap, ◌∙◌, rules}
use Rattle.field.specs.Refusals.{number_of}
use Rattle.sheet.specs.Answers.{said_back, slip_by_number}
use Rattle.sheet.specs.Book.{no_lists}
use Rattle.sheet.specs.Calls.{Keep}
use Rattle.sheet.specs.Questions.{after}
use Rattle.sheet.specs.Sheets.{at_open, holds}
use Rattle.sheet.specs.Trials.{decision}
use Rattle.sheet.proofs.Slips.{accepted, handed_back}
use Rattle.sheet.proofs.Steps.{keep_goes_on}
use Rattle.sheet.proofs.sheet.Sheet.keep.Goals as goal

pub returns-in_err-spend : goal.returns-in_err-spend
returns-in_err-spend c =
    let s = c.args.self.now in
    let p = c.args.slip in
    let back = c.in_err-spend.field-0.0 in
    let i : c.from_residual.result ≡ Err back = search rules in
    let v = handed_back (decision (holds s) (Keep p) 0) p (number_of back.refusal, back.slip) c.in_err-spend.ensures in
    let answer = ap slip_by_number i ∙ c.in_err-spend.ensures in
    let saved = sym (ap (λ (o : Option ℕ). after o None (at_open s)) v) in
    record { answer = answer; held = refl; saved = saved; number = refl; law = (keep_goes_on s s no_lists _ (Keep p) p refl (ap said_back answer) refl saved refl).law }

pub returns : goal.returns
returns c =
    let s = c.args.self.now in
    let p = c.args.slip in
    let answer = c.in_ok-spend.ensures in
    let saved = sym (ap (λ (o : Option ℕ). after o None (at_open s)) (accepted (decision (holds s) (Keep p) 0) p answer)) in
    record { answer = answer; held = refl; saved = saved; number = refl; law = (keep_goes_on s _ no_lists _ (Keep p) p refl (ap said_back answer) refl saved refl).law }
