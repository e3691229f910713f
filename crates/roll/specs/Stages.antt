-- How far a roll is read.
use Rattle.std.specs.Prelude.{ℕ, ◌+◌, ◌-◌}
use Rattle.roll.specs.declared.records.Stage.{Stage}
use Rattle.roll.specs.declared.records.Stage.TheVariants.{Heading, Record, Stopped}

-- the turn and the place of the next record, where they are known
abbrev pub turn_of : Stage → ℕ
turn_of Heading = 0
turn_of (Record at) = at.turn
turn_of Stopped = 0

abbrev pub place_of : Stage → ℕ
place_of Heading = 0
place_of (Record at) = at.place
place_of Stopped = 0

-- how many bytes of so many are still to be read
abbrev pub unread : Stage → ℕ → ℕ
unread Heading size = size
unread (Record at) size = size - at.place
unread Stopped size = 0

-- how many records and faults follow at most in so many bytes: one for each byte, and one for mark and version
abbrev pub tells_at_most : Stage → ℕ → ℕ
tells_at_most Heading size = size + 1
tells_at_most (Record at) size = size - at.place
tells_at_most Stopped size = 0
