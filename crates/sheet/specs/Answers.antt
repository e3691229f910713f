-- What a call answers, a refusal by its number.
use Rattle.std.specs.Prelude.{ℕ, Some, None, Ok, Err, Option, Result}
use Rattle.field.specs.Refusals.{number_of}
use Rattle.reckoning.specs.declared.ends.Range.{Range}
use Rattle.sheet.specs.declared.call.Answer.{Answer}
use Rattle.sheet.specs.declared.call.Answer.TheVariants.{Done, Opened, Counted, Ranged}
use Rattle.sheet.specs.declared.call.Refused.{Refused}
use Rattle.sheet.specs.declared.call.Refused.TheVariants.{Alone, WithSlip}
use Rattle.sheet.specs.declared.sheet.trial.Returned.{Returned}
use Rattle.sheet.specs.declared.sheet.trial.Slip.{Slip}
use Rattle.sheet.specs.Trials.{Kind, joins, departs, opens, keeps, backs, tells}

-- done; a slip with a sheet number; a count; first and last start; the number of a refusal; that number and the slip
pub data Said : Type 0 where
  done : Said
  slip : (sheet : ℕ) → Said
  count : (n : ℕ) → Said
  range : (r : Range) → Said
  refusal : (n : ℕ) → Said
  returned : (n sheet : ℕ) → Said

abbrev pub said : Result Answer Refused → Said
said (Ok Done) = done
said (Ok (Opened s)) = slip s.sheet
said (Ok (Counted n)) = count n
said (Ok (Ranged r)) = range r
said (Err (Alone q)) = refusal (number_of q)
said (Err (WithSlip p)) = returned (number_of p.refusal) p.slip.sheet

-- a refusal returns its number alone; number 2 also hands the slip back
abbrev pub refused : Kind → ℕ → Said
refused joins n = refusal n
refused departs n = refusal n
refused opens n = refusal n
refused (keeps s) n = returned n s
refused (backs s) n = returned n s
refused tells n = refusal n

-- the number that an answer gives
abbrev pub got : Said → Option ℕ
got done = None
got (slip s) = None
got (count n) = None
got (range r) = None
got (refusal n) = Some n
got (returned n s) = Some n

-- what keep and back answer: nothing, or the number and the slip
abbrev pub ended : Option ℕ → Slip → Result (Unit {0}) (ℕ × Slip)
ended None s = Ok tt
ended (Some n) s = Err (n, s)

abbrev pub slip_by_number : Result (Unit {0}) Returned → Result (Unit {0}) (ℕ × Slip)
slip_by_number (Ok x) = Ok x
slip_by_number (Err p) = Err (number_of p.refusal, p.slip)

-- what is said of a result
abbrev pub said_by : {X : Type 0} → (X → Said) → Result X ℕ → Said
said_by f (Ok x) = f x
said_by f (Err n) = refusal n

abbrev pub said_back : Result (Unit {0}) (ℕ × Slip) → Said
said_back (Ok x) = done
said_back (Err p) = returned p.0 p.1.sheet
