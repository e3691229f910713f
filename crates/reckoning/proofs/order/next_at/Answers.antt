use Rattle.std.proofs.Common.{◌≡◌, ap, ◌∙◌, rules}
use Rattle.std.proofs.lemmas.Iterator.{YieldsList-from_slice}
use Rattle.std.proofs.lemmas.Iterator.Consumers.{YieldsList-from_filter}
use Rattle.std.specs.Ordering.{int_cmp}
use Rattle.std.specs.Option.{option_map}
use Rattle.reckoning.proofs.GoesFirst.{picked, released, first_released}
use Rattle.reckoning.proofs.order.next_at.Goals as goal

pub returns : goal.returns
returns c = λ l.
    let p = picked (λ x. x.now) _ int_cmp (λ g. g.win.late) _ (λ x k q h. search rules) _ c.min_by_key.result c.min_by_key.ensures.ran (YieldsList-from_filter _ (released c.args.time) (YieldsList-from_slice c.args.groups.now (cc)) c.filter.ensures.closure (λ x r q k. search rules)) in
    let m : c.map.result ≡ option_map (λ g. g.place) (option_map (λ x. x.now) c.min_by_key.result) = search rules in
    m ∙ ap (option_map (λ g. g.place)) (p ∙ first_released c.args.time c.args.groups.now l)
