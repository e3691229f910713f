use Rattle.std.proofs.Common.{◌≡◌, ℕ, Bool, cond, Err, Some, None, Option, unwrap_or, sym, refl, ap, ◌∙◌, rules}
use Rattle.field.specs.Refusals.{number_of}
use Rattle.sheet.specs.Answers.{said_back, slip_by_number}
use Rattle.sheet.specs.Book.{no_lists}
use Rattle.sheet.specs.Calls.{Back}
use Rattle.sheet.specs.Questions.{after}
use Rattle.sheet.specs.Sheets.{at_open, content, content_of, holds}
use Rattle.sheet.specs.Trials.{decision}
use Rattle.sheet.proofs.Slips.{accepted, handed_back, trial_open}
use Rattle.sheet.proofs.Steps.{back_goes_on}
use Rattle.sheet.proofs.sheet.Sheet.back.Goals as goal

pub returns-in_err-spend : goal.returns-in_err-spend
returns-in_err-spend c =
    let s = c.args.self.now in
    let k = content s in
    let p = c.args.slip in
    let back = c.in_err-spend.field-0.0 in
    let i : c.from_residual.result ≡ Err back = search rules in
    let v = handed_back (decision (holds s) (Back p) 0) p (number_of back.refusal, back.slip) c.in_err-spend.ensures in
    let answer = ap slip_by_number i ∙ c.in_err-spend.ensures in
    let held = sym (ap (λ (o : Option ℕ). after o (unwrap_or (at_open s) k) k) v) in
    let saved = sym (ap (λ (o : Option ℕ). after o None (at_open s)) v) in
    record { answer = answer; held = held; saved = saved; number = refl; law = (back_goes_on s s no_lists _ (Back p) p refl (ap said_back answer) held saved refl).law }

pub returns : goal.returns
returns c =
    let s = c.args.self.now in
    let k = content s in
    let p = c.args.slip in
    let answer = c.in_ok-spend.ensures in
    let v = accepted (decision (holds s) (Back p) 0) p answer in
    let held =
    c.copy_from.ensures
    ∙ sym (ap (λ (b : Bool). unwrap_or (cond b (Some (content_of s.saved)) None) k) (trial_open s p.sheet v))
    ∙ sym (ap (λ (o : Option ℕ). after o (unwrap_or (at_open s) k) k) v) in
    let saved = sym (ap (λ (o : Option ℕ). after o None (at_open s)) v) in
    record { answer = answer; held = held; saved = saved; number = refl; law = (back_goes_on s _ no_lists _ (Back p) p refl (ap said_back answer) held saved refl).law }
