use Rattle.std.proofs.Common.{◌∙◌, rules}
use Rattle.std.proofs.lemmas.Iterator.{YieldsList-from_slice, YieldsList-from_map}
use Rattle.std.proofs.lemmas.Iterator.Consumers.{reduce_from_yields_List}
use Rattle.reckoning.proofs.Playing.{lesser, least_among}
use Rattle.reckoning.proofs.order.least_early.Goals as goal

pub returns : goal.returns
returns c = reduce_from_yields_List lesser _ c.min.result c.min.ensures.ran (YieldsList-from_map _ (λ g. g.win.early) (YieldsList-from_slice c.args.groups.now (cc)) c.map.ensures.closure (λ x r q k. search rules)) ∙ least_among c.args.groups.now
