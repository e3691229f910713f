use Rattle.std.proofs.Common.{◌≡◌, fold, take}
use Rattle.std.specs.Int.{int_min}
use Rattle.reckoning.specs.Values.{paired, lows}
use Rattle.reckoning.proofs.values.least.Given as goal

abbrev pub invariant-loop-place : goal.invariant-loop-place
invariant-loop-place l = l.m ≡ fold int_min l.cap (lows (take l.place (paired l.windows l.values)))
