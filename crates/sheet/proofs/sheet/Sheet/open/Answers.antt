use Rattle.std.proofs.Common.{ℕ, [], Some, Option, sym, refl, ap, ◌∙◌}
use Rattle.sheet.specs.declared.sheet.trial.Slip.{Slip}
use Rattle.sheet.specs.Answers.{slip, said_by}
use Rattle.sheet.specs.Book.{no_lists}
use Rattle.sheet.specs.Calls.{Open}
use Rattle.sheet.specs.Questions.{after, answered}
use Rattle.sheet.specs.Sheets.{at_open, content}
use Rattle.sheet.proofs.Slips.{in_trial, outside_trial}
use Rattle.sheet.proofs.Steps.{open_goes_on}
use Rattle.sheet.proofs.sheet.Sheet.open.Goals as goal

pub returns-then-self : goal.returns-then-self
returns-then-self c =
    let s = c.args.self.now in
    let k = content s in
    let v = in_trial s [] c.if-self.true in
    let p : Slip = record { sheet = s.number } in
    let answer = sym (ap (λ (o : Option ℕ). answered o p) v) in
    let saved = sym (ap (λ (o : Option ℕ). after o (Some k) (at_open s)) v) in
    record { answer = answer; held = refl; saved = saved; number = refl; law = (open_goes_on s s no_lists _ Open refl (ap (said_by (λ (x : Slip). slip x.sheet)) answer) refl saved refl).law }

pub returns : goal.returns
returns c =
    let s = c.args.self.now in
    let k = content s in
    let v = outside_trial s [] c.if-self.false in
    let p : Slip = record { sheet = s.number } in
    let answer = sym (ap (λ (o : Option ℕ). answered o p) v) in
    let saved = ap Some c.copy_from.ensures ∙ sym (ap (λ (o : Option ℕ). after o (Some k) (at_open s)) v) in
    record { answer = answer; held = refl; saved = saved; number = refl; law = (open_goes_on s _ no_lists _ Open refl (ap (said_by (λ (x : Slip). slip x.sheet)) answer) refl saved refl).law }
