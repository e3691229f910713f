use Rattle.std.proofs.Common.{◌≡◌, ◌<◌, length, pos, Err, sym, ap, ◌∙◌, subst, rules}
use Rattle.theory.specs.Method.{forbidden}
use Rattle.reckoning.specs.Range.{FirstTold}
use Rattle.reckoning.proofs.Placed.{by_order}
use Rattle.reckoning.proofs.range.first_start.Goals as goal

pub returns-in_err-reckon : goal.returns-in_err-reckon
returns-in_err-reckon g c =
    let ws = g.F.Field.windows c.args.field.now in
    let q = c.in_err-reckon.field-0.0 in
    let a = c.in_ok-taken.ensures in
    let told = c.in_err-reckon.ensures.told in
    let i : c.from_residual-in_err-reckon.result ≡ Err q = search rules in
    let f = sym (ap (λ z. forbidden z c.in_ok-taken.taken.windows.items) a.2 ∙ ap (forbidden (pos c.args.pace)) a.1) ∙ told.1 in
    let l = subst (λ z. c.args.place < length z) (c.windows.ensures.windows ∙ a.1) c.if-place-windows.false in
    subst (FirstTold c.args.pace ws c.args.place) (sym i) (by_order c.args.pace ws c.args.place q told.0 a.0 l f)
