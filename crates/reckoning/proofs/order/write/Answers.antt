use Rattle.std.proofs.Common.{map, set, pos, sym, ap, ◌∙◌, arith, rules}
use Rattle.std.proofs.lemmas.List.{length-map, get_or-map}
use Rattle.theory.specs.declared.group.Played.{Played}
use Rattle.reckoning.specs.Order.{start_of}
use Rattle.reckoning.proofs.Asked.{filled_more}
use Rattle.reckoning.proofs.order.write.Goals as goal

pub loop-i-preserved : goal.loop-i-preserved
loop-i-preserved g c =
    let S = start_of (g.F.Numbered.numbers c.args.field.now) in
    let unplayed : Played = record { place = 0; time = pos 0 } in
    let ts = c.args.turns.now in
    let i = c.loop-i.i in
    let k = length-map ts S in
    ap (set c.loop-i.list i) (c.entry.ensures ∙ sym (get_or-map S ts i unplayed (S unplayed) c.loop-i-test.true))
    ∙ filled_more (map S ts) c.loop-i.list c.args.list.now i (S unplayed) (omega (arith, k)) (search rules) c.loop-i.invariant
