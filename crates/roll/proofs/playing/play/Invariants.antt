use Rattle.roll.specs.Meaning.{left}
use Rattle.roll.proofs.Underway.{Underway}
use Rattle.roll.proofs.playing.play.Given as goal

abbrev pub invariant-loop-entry : goal.invariant-loop-entry
invariant-loop-entry l =
    goal.iterator-loop-entry.can_next l.entry-iterator
    × goal.iterator-loop-entry.is_finite l.entry-iterator
    × Underway l.initial.sheet l.roll l.sheet (left l.entry-iterator)
