use Rattle.std.proofs.Common.{sym, ap, ◌∙◌}
use Rattle.reckoning.specs.Questions.{every, timed}
use Rattle.reckoning.proofs.Every.{timed_all}
use Rattle.reckoning.proofs.taken.Taken.of.Goals as goal

pub invariant_of-result-clause-timed : goal.invariant_of-result-clause-timed
invariant_of-result-clause-timed g c = timed_all c.gather-windows.result.items (sym (ap (every timed) c.deref.ensures.0) ∙ sym c.if-not-all_timed.ensures)
