use Rattle.std.proofs.Common.{◌≡◌, take}
use Rattle.theory.specs.Written.{by_place}
use Rattle.reckoning.proofs.order.number.Given as goal

abbrev pub invariant-loop-place : goal.invariant-loop-place
invariant-loop-place l = l.groups.items ≡ by_place 0 (take l.place l.windows)
