use Rattle.reckoning.proofs.Bisecting.{Closing, width}
use Rattle.reckoning.proofs.range.bisect.Given as goal

abbrev pub invariant-loop-low : goal.invariant-loop-low
invariant-loop-low l = Closing l.taken.pace l.taken.windows.items l.place l.low l.high

abbrev pub decreases-loop-low : goal.decreases-loop-low
decreases-loop-low l = width l.low l.high
