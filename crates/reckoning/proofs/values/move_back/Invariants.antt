use Rattle.std.proofs.Common.{◌≡◌, ◌++◌, map, take, drop, reverse}
use Rattle.reckoning.specs.Values.{paired, moved}
use Rattle.reckoning.proofs.values.move_back.Given as goal

abbrev pub invariant-loop-at : goal.invariant-loop-at
invariant-loop-at l = paired l.taken.windows.items l.values ≡ map (moved l.taken.pace (reverse l.closed.spans.items) l.late) (take l.at (paired l.taken.windows.items l.initial.values)) ++ drop l.at (paired l.taken.windows.items l.initial.values)
