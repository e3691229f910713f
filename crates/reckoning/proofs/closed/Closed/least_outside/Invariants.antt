use Rattle.std.proofs.Common.{◌≡◌, reverse}
use Rattle.std.specs.List.{AllByRecursion}
use Rattle.theory.specs.Closed.{least_outside}
use Rattle.reckoning.specs.Values.{Falling, Fit}
use Rattle.reckoning.proofs.closed.Closed.least_outside.Given as goal

abbrev pub invariant-loop-span : goal.invariant-loop-span
invariant-loop-span l = record {
  falling : Falling (reverse l.span-iterator.iter.rest.now);
  fit : AllByRecursion Fit l.span-iterator.iter.rest.now;
  same : least_outside (reverse l.span-iterator.iter.rest.now) l.high ≡ least_outside (reverse l.self.spans.items) l.time;
}
