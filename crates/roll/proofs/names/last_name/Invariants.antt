use Rattle.std.proofs.Common.{◌≡◌}
use Rattle.roll.specs.Meaning.{left}
use Rattle.roll.specs.Names.{last_name, name_of, only_whole}
use Rattle.roll.proofs.names.last_name.Given as goal

abbrev pub invariant-loop-entry : goal.invariant-loop-entry
invariant-loop-entry l =
    goal.iterator-loop-entry.can_next l.entry-iterator
    × goal.iterator-loop-entry.is_finite l.entry-iterator
    × (name_of l.roll l.number ≡ only_whole (left l.entry-iterator).fault (last_name l.number l.name (left l.entry-iterator).records))
