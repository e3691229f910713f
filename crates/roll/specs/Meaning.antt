-- What the bytes of a roll mean: its records in order, and how they end.
use Rattle.std.specs.Prelude.{◌≡◌, ℕ, zero, suc, ◌+◌, ◌<◌, Bool, true, ◌&&◌, IfSome, is_ok, List, [], ◌∷◌, length, drop, Some, None, Ok, Err, Option, Result, ◌==◌, nat_le, slice_index}
use Rattle.field.specs.Refusals.{Question, question, first_no}
use Rattle.roll.specs.declared.fault.Fault.{Fault}
use Rattle.roll.specs.declared.records.Entry.{Entry}
use Rattle.roll.specs.declared.records.Records.{Records}
use Rattle.roll.specs.declared.records.Stage.{Stage}
use Rattle.roll.specs.declared.records.Stage.TheVariants.{Heading, Record, Stopped}
use Rattle.roll.specs.Stages.{unread, tells_at_most}
use Rattle.roll.specs.Faults.{Named, flawed, named}
use Rattle.roll.specs.Records.{Said, said, half, size, parsed}

-- a record in its place: what it says, its turn counted from 1, and the place of its kind byte
pub record Placed : Type 0 where
  pub said : Said
  pub turn : ℕ
  pub place : ℕ

-- the records before the first fault, and that fault if there is one
pub record Meaning : Type 0 where
  pub records : List Placed
  pub fault : Option Named

abbrev pub over : Option Named → Meaning
over f = record { records = []; fault = f }

abbrev pub followed : Placed → Meaning → Meaning
followed p m = record { records = p ∷ m.records; fault = m.fault }

-- a record that is read is followed by the rest, and one that is not ends the roll
abbrev pub continued : Result Said ℕ → ℕ → ℕ → Meaning → Meaning
continued (Ok s) turn place rest = followed (record { said = s; turn = turn; place = place }) rest
continued (Err n) turn place rest = over (Some (flawed n turn place))

-- at most so many records
unfoldable pub reading : ℕ → ℕ → ℕ → List ℕ → Meaning
reading zero turn place bs = over None
reading (suc most) turn place [] = over None
reading (suc most) turn place (b ∷ bs) =
    let rest = reading most (turn + 1) (place + size (b ∷ bs)) (drop (size (b ∷ bs)) (b ∷ bs)) in
    continued (parsed (b ∷ bs)) turn place rest

-- the records of these bytes, each at least one byte long, the first of which has this turn and place
abbrev pub read_from : ℕ → ℕ → List ℕ → Meaning
read_from turn place bs = reading (length bs) turn place bs

-- the mark is TEE
abbrev pub marked : List ℕ → Bool
marked bs = nat_le 3 (length bs) && slice_index bs 0 == 84 && slice_index bs 1 == 69 && slice_index bs 2 == 69

abbrev pub version_1 : List ℕ → Bool
version_1 bs = nat_le 5 (length bs) && half bs 3 == 1

-- 21: is it at most 4,096 bytes? 22: does it begin with the mark? 23: is the version present and 1?
abbrev pub questions : List ℕ → List Question
questions bs = question 21 (nat_le (length bs) 4096) ∷ question 22 (marked bs) ∷ question 23 (version_1 bs) ∷ []

-- for these three, record and place are 0; the first record begins after mark and version
abbrev pub begun : Option ℕ → Meaning → Meaning
begun None rest = rest
begun (Some n) rest = over (Some (flawed n 0 0))

abbrev pub meaning : List ℕ → Meaning
meaning bs = begun (first_no (questions bs)) (read_from 1 5 (drop 5 bs))

-- ---- as the code tells it

abbrev pub placed : Entry → Placed
placed e = record { said = said e.«record»; turn = e.at.turn; place = e.at.place }

-- what comes at a stage of reading these bytes
abbrev pub coming : Stage → List ℕ → Meaning
coming Heading roll = meaning roll
coming (Record at) roll = read_from at.turn at.place (drop at.place roll)
coming Stopped roll = over None

-- what a reader has before it
abbrev pub left : Records → Meaning
left r = coming r.stage r.roll.now

-- how many bytes are before it
abbrev pub ahead : Records → ℕ
ahead r = unread r.stage (length r.roll.now)

-- what a reader tells next, and what it then has before it
abbrev pub heard : Option (Result Entry Fault) → Meaning → Meaning
heard None rest = over None
heard (Some (Ok e)) rest = followed (placed e) rest
heard (Some (Err f)) rest = over (Some (named f))

-- how many records and faults a reader still tells at most
abbrev pub untold : Records → ℕ
untold r = tells_at_most r.stage (length r.roll.now)

-- a reader's turn: it tells what is next, and a record that is read leaves fewer bytes before it
pub record Tells (before : Records) (said : Option (Result Entry Fault)) (after : Records) : Type 0 where
  pub told : left before ≡ heard said (left after)
  pub shorter : IfSome said (λ e. is_ok e ≡ true → ahead after < ahead before)
