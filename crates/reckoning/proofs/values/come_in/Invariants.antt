use Rattle.std.proofs.Common.{◌≡◌, reverse}
use Rattle.reckoning.specs.Values.{paired}
use Rattle.reckoning.proofs.StepsBack.{partly}
use Rattle.reckoning.proofs.values.come_in.Given as goal

abbrev pub invariant-loop-window : goal.invariant-loop-window
invariant-loop-window l = paired l.taken.windows.items l.values ≡ partly l.taken.pace l.taken.windows.items (reverse l.closed.spans.items) l.window-index l.early
