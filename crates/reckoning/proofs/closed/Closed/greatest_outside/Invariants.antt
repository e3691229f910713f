use Rattle.std.proofs.Common.{◌≡◌, reverse, take}
use Rattle.theory.specs.Closed.{greatest_outside}
use Rattle.reckoning.proofs.closed.Closed.greatest_outside.Given as goal

abbrev pub invariant-loop-span : goal.invariant-loop-span
invariant-loop-span l = l.low ≡ greatest_outside (reverse (take l.span-index l.self.spans.items)) l.time
