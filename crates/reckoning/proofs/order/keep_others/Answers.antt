use Rattle.std.proofs.Common.{rules}
use Rattle.reckoning.proofs.Playing.{remove_keep, remove_skip, removed}
use Rattle.reckoning.proofs.order.keep_others.Goals as goal
use Rattle.reckoning.proofs.order.keep_others.Goals.{then-groups-i, else-groups-i}

pub loop-i-preserved : goal.loop-i-preserved
loop-i-preserved c = elim c.if-groups-i.branch [
  | then-groups-i w ↦ remove_keep c.args.place c.args.groups.now c.loop-i.groups c.if-groups-i.groups c.loop-i.kept c.if-groups-i.kept c.loop-i.i (search rules) w.if-groups-i.true w.groups-is w.kept-is c.loop-i.invariant
  | else-groups-i w ↦ remove_skip c.args.place c.args.groups.now c.loop-i.groups c.if-groups-i.groups c.loop-i.kept c.if-groups-i.kept c.loop-i.i (search rules) w.if-groups-i.false w.groups-is w.kept-is c.loop-i.invariant
]

pub returns : goal.returns
returns c = removed c.args.place c.args.groups.now c.loop-i.groups c.loop-i.kept c.loop-i.i c.loop-i-test.false c.loop-i.invariant
