use Rattle.std.proofs.Common.{◌≡◌, ◌≤◌, reverse, length}
use Rattle.reckoning.specs.Values.{rest, paired, kept}
use Rattle.reckoning.proofs.Turn.{Along}
use Rattle.reckoning.proofs.reckon.reckon.Given as goal

abbrev pub invariant-loop-early : goal.invariant-loop-early
invariant-loop-early l = record {
  along : Along l.taken.pace l.taken.windows.items l.bound (reverse l.closed.spans.items);
  room : length l.taken.windows.items ≤ length l.values.items;
  values : paired l.taken.windows.items l.values.items ≡ kept l.taken.pace l.taken.windows.items (reverse l.closed.spans.items) l.bound;
}

abbrev pub decreases-loop-early : goal.decreases-loop-early
decreases-loop-early l = length (rest l.taken.windows.items l.bound)
