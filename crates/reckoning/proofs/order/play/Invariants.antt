use Rattle.std.proofs.Common.{reverse, length}
use Rattle.reckoning.proofs.Playing.{Midway}
use Rattle.reckoning.proofs.order.play.Given as goal

abbrev pub invariant-loop-early : goal.invariant-loop-early
invariant-loop-early l = Midway l.taken.pace (reverse l.closed.spans.items) l.taken.windows.items l.turns.items l.free l.groups.items

abbrev pub decreases-loop-early : goal.decreases-loop-early
decreases-loop-early l = length l.groups.items
