use Rattle.std.proofs.Common.{◌≡◌, map, take, ◌+ℤ◌}
use Rattle.reckoning.proofs.values.begin.Given as goal

abbrev pub invariant-loop-window : goal.invariant-loop-window
invariant-loop-window l = l.values.items ≡ map (λ w. w.late +ℤ l.taken.pace) (take l.window-index l.taken.windows.items)
