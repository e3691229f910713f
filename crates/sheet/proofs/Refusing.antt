-- What is said of a refusal that is passed on.
use Rattle.std.proofs.Common.{◌≡◌, Ok, Err, Result, ap}
use Rattle.std.specs.Result.{IsErrAnd}
use Rattle.field.specs.declared.refusal.Refusal.{Refusal}
use Rattle.field.specs.Refusals.{number_of}
use Rattle.sheet.specs.declared.call.Answer.{Answer}
use Rattle.sheet.specs.declared.call.Refused.{Refused}
use Rattle.sheet.specs.declared.call.Refused.TheVariants.{Alone, WithSlip}
use Rattle.sheet.specs.declared.sheet.trial.Returned.{Returned}
use Rattle.sheet.specs.Answers.{refusal, returned, said}

pub said_alone : (r : Result Answer Refused) (q : Refusal) → IsErrAnd r (λ e. e ≡ Alone q) → said r ≡ refusal (number_of q)
said_alone (Ok x) q h = absurd h
said_alone (Err e) q h = ap (λ (x : Refused). said (Err x)) h

pub said_with_slip : (r : Result Answer Refused) (p : Returned) → IsErrAnd r (λ e. e ≡ WithSlip p) → said r ≡ returned (number_of p.refusal) p.slip.sheet
said_with_slip (Ok x) p h = absurd h
said_with_slip (Err e) p h = ap (λ (x : Refused). said (Err x)) h
