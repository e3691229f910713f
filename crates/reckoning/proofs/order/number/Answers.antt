use Rattle.std.proofs.Common.{◌<◌, length, take, sym, ap, ◌∙◌, lit<, arith}
use Rattle.std.proofs.lemmas.List.{length-take-le}
use Rattle.reckoning.proofs.Playing.{by_place_none, by_place_more, length_by_place}
use Rattle.reckoning.proofs.order.number.Goals as goal

pub loop-place-init : goal.loop-place-init
loop-place-init c = c.new-groups.ensures ∙ sym by_place_none

pub push-requires : goal.push-requires
push-requires c =
    let k = length_by_place 0 (take c.loop-place.place c.args.windows.now) in
    let n = length-take-le c.loop-place.place c.args.windows.now (omega arith) in
    let m : length c.loop-place.groups.items < 64 = omega (arith, ap length c.loop-place.invariant, k, n) in
    (lit< tt, m)

pub loop-place-preserved : goal.loop-place-preserved
loop-place-preserved c = c.push.ensures.items ∙ by_place_more c.args.windows.now c.loop-place.groups.items c.loop-place.place c.loop-place-test.true c.loop-place.invariant
