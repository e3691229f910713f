-- What a fault names: its layer, its number, the record counted from 1 and the place of its kind byte.
use Rattle.std.specs.Prelude.{ℕ, cond, List, ◌++◌, Ok, Err, codes, decimal, Result, nat_le}
use Rattle.field.specs.Refusals.{number_of}
use Rattle.roll.specs.declared.fault.Flaw.{Flaw}
use Rattle.roll.specs.declared.fault.Flaw.TheVariants.{TooLong, NoMark, WrongVersion, Torn, UnknownKind, WrongLength, UnprintableName}
use Rattle.roll.specs.declared.fault.Layer.{Layer}
use Rattle.roll.specs.declared.fault.Layer.TheVariants as layer
use Rattle.roll.specs.declared.fault.Cause.{Cause}
use Rattle.roll.specs.declared.fault.Cause.TheVariants.{Flawed, Refused}
use Rattle.roll.specs.declared.fault.Fault.{Fault}

abbrev pub flaw_number : Flaw → ℕ
flaw_number TooLong = 21
flaw_number NoMark = 22
flaw_number WrongVersion = 23
flaw_number Torn = 24
flaw_number UnknownKind = 25
flaw_number WrongLength = 26
flaw_number UnprintableName = 27

-- 21 to 24 are of layer roll, 25 to 27 of layer record
abbrev pub flaw_layer : ℕ → Layer
flaw_layer n = cond (nat_le n 24) layer.Roll layer.Record

pub record Named : Type 0 where
  pub layer : Layer
  pub number : ℕ
  pub turn : ℕ
  pub place : ℕ

-- a question about the bytes, or the sheet's own number
abbrev pub flawed : ℕ → ℕ → ℕ → Named
flawed n turn place = record { layer = flaw_layer n; number = n; turn = turn; place = place }

abbrev pub refused : ℕ → ℕ → ℕ → Named
refused n turn place = record { layer = layer.Sheet; number = n; turn = turn; place = place }

abbrev pub by_cause : Cause → ℕ → ℕ → Named
by_cause (Flawed f) turn place = flawed (flaw_number f) turn place
by_cause (Refused q) turn place = refused (number_of q) turn place

abbrev pub named : Fault → Named
named f = by_cause f.cause f.at.turn f.at.place

-- a result with its flaw told by number, or its fault by what it names
abbrev pub by_flaw : {X : Type 0} → Result X Flaw → Result X ℕ
by_flaw (Ok x) = Ok x
by_flaw (Err f) = Err (flaw_number f)

abbrev pub by_name : {X : Type 0} → Result X Fault → Result X Named
by_name (Ok x) = Ok x
by_name (Err f) = Err (named f)

-- what is printed of a fault
abbrev pub layer_word : Layer → List ℕ
layer_word layer.Roll = codes "roll"
layer_word layer.Record = codes "record"
layer_word layer.Sheet = codes "sheet"

abbrev pub fault_line : Named → List ℕ
fault_line f = codes "FAULT " ++ (layer_word f.layer ++ (codes " " ++ (decimal f.number ++ (codes " " ++ (decimal f.turn ++ (codes " " ++ decimal f.place))))))
