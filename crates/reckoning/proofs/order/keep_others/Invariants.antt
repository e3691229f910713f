use Rattle.std.proofs.lemmas.List.Filters.{FiltersInPlace}
use Rattle.reckoning.proofs.Playing.{others}
use Rattle.reckoning.proofs.order.keep_others.Given as goal

abbrev pub invariant-loop-i : goal.invariant-loop-i
invariant-loop-i l = FiltersInPlace (others l.place) l.initial.groups l.groups l.kept l.i
