use Rattle.std.proofs.Common.{◌≡◌, ◌++◌, map, take, drop}
use Rattle.reckoning.specs.Order.{start_of}
use Rattle.reckoning.proofs.order.write.Given as goal

abbrev pub invariant-loop-i : goal.invariant-loop-i
invariant-loop-i g l = l.list ≡ take l.i (map (start_of (g.F.Numbered.numbers l.field)) l.turns) ++ drop l.i l.initial.list
