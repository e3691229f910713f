use Rattle.std.proofs.Common.{◌≡◌, ◌++◌, drop, length, Err, pos, ap, ◌∙◌, rules}
use Rattle.reckoning.proofs.Asked.{asked_passed, thirteen_err, thirteen_ok}
use Rattle.reckoning.proofs.Unused.{unused}
use Rattle.reckoning.proofs.spans.spans.Goals as goal

pub returns-in_err-closed-clause-thirteen : goal.returns-in_err-closed-clause-thirteen
returns-in_err-closed-clause-thirteen g c =
    let q = c.in_err-closed.field-0.0 in
    let i : c.from_residual.result ≡ Err q = search rules in
    thirteen_err c.args.pace (g.F.Field.windows c.args.field.now) (length c.args.list.now) c.from_residual.result q i c.in_err-closed.ensures.told

pub returns-clause-thirteen : goal.returns-clause-thirteen
returns-clause-thirteen g c =
    let t = c.in_ok-closed.ensures.told in
    thirteen_ok c.args.pace (g.F.Field.windows c.args.field.now) (length c.args.list.now) c.copy.result _ t.0 t.3

pub returns-clause-unused : goal.returns-clause-unused
returns-clause-unused g c =
    let ws = g.F.Field.windows c.args.field.now in
    let t = c.in_ok-closed.ensures.told in
    let q = c.spans.ensures.spans in
    unused (pos c.args.pace) ws c.in_ok-closed.closed.spans.items c.args.list.now c.copy.new.list c.copy.result (asked_passed c.args.pace ws (length c.args.list.now) t.0).0.0 t.3 (c.copy.ensures.answer ∙ ap length q) (c.copy.ensures.list ∙ ap (λ z. z ++ drop (length z) c.args.list.now) q)
