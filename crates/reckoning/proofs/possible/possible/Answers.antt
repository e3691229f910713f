use Rattle.std.proofs.Common.{◌≡◌, ℕ, pos, Err, is_some, sym, ap, ◌∙◌, rules, arith}
use Rattle.field.specs.Refusals.{by_number}
use Rattle.theory.specs.Method.{forbidden}
use Rattle.theory.proofs.Deciding.{some_possible}
use Rattle.reckoning.proofs.Asked.{passed, impossible}
use Rattle.reckoning.proofs.possible.possible.Goals as goal

pub returns-in_err-reckon-clause-thirteen : goal.returns-in_err-reckon-clause-thirteen
returns-in_err-reckon-clause-thirteen g c =
    let ws = g.F.Field.windows c.args.field.now in
    let a = c.in_ok-taken.ensures in
    let told = c.in_err-reckon.ensures.told in
    let i : c.from_residual-in_err-reckon.result ≡ Err c.in_err-reckon.field-0.0 = search rules in
    let f = sym (ap (λ z. forbidden z c.in_ok-taken.taken.windows.items) a.2 ∙ ap (forbidden (pos c.args.pace)) a.1) ∙ told.1 in
    ((λ _. (a.0, impossible c.args.pace ws (passed c.args.pace ws a.0).0.0 f)), (λ _ _. ap by_number i ∙ ap Err told.0))

pub returns-clause-thirteen : goal.returns-clause-thirteen
returns-clause-thirteen g c =
    let ws = g.F.Field.windows c.args.field.now in
    let a = c.in_ok-taken.ensures in
    let f = sym (ap (λ z. forbidden z c.in_ok-taken.taken.windows.items) a.2 ∙ ap (forbidden (pos c.args.pace)) a.1) ∙ c.in_ok-reckon.ensures.told in
    ((λ z. let y : ◌≡◌ {A = ℕ} 0 1 = cc in absurd (omega arith)), (λ _ z. absurd (z (some_possible (pos c.args.pace) ws (passed c.args.pace ws a.0).0.0 (ap is_some f)))))
