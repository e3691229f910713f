use Rattle.std.proofs.Common.{◌≡◌, take}
use Rattle.reckoning.proofs.taken.gather.Given as goal

abbrev pub invariant-loop-place : goal.invariant-loop-place
invariant-loop-place g l = l.windows.items ≡ take l.place (g.F.Field.windows l.field)
