use Rattle.std.proofs.Common.{◌≡◌, take}
use Rattle.theory.specs.Theorem.{cut}
use Rattle.reckoning.proofs.taken.Taken.cut.Given as goal

abbrev pub invariant-loop-at : goal.invariant-loop-at
invariant-loop-at l = l.windows.items ≡ take l.at (cut l.self.windows.items l.place l.late)
