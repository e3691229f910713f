-- The names that a roll gives.
use Rattle.std.specs.Prelude.{ℕ, cond, List, [], ◌∷◌, Some, None, Ok, Err, Option, Result, ◌==◌}
use Rattle.std.specs.Borrow.{Bor}
use Rattle.roll.specs.declared.fault.Fault.{Fault}
use Rattle.sheet.specs.declared.call.Call.{Call}
use Rattle.sheet.specs.declared.call.Call.TheVariants.{Enter, Change, Withdraw, Pace, CallUp, StandDown, SendAway, Open, Keep, Back, Order, Through, RangeOf, Spans}
use Rattle.roll.specs.Faults.{Named}
use Rattle.roll.specs.Meaning.{Placed, meaning}

-- the name after one call more: an enter of the group gives it another
abbrev pub renamed : ℕ → List ℕ → Call → List ℕ → List ℕ
renamed g given (Enter n e l) name = cond (n == g) given name
renamed g given (Change n e l) name = name
renamed g given (Withdraw n) name = name
renamed g given (Pace p) name = name
renamed g given (CallUp n t) name = name
renamed g given (StandDown n) name = name
renamed g given (SendAway n) name = name
renamed g given Open name = name
renamed g given (Keep s) name = name
renamed g given (Back s) name = name
renamed g given Order name = name
renamed g given (Through n t) name = name
renamed g given (RangeOf n) name = name
renamed g given Spans name = name

-- the name that the last enter of a group gives, and before any this one
abbrev pub last_name : ℕ → List ℕ → List Placed → List ℕ
last_name g name [] = name
last_name g name (p ∷ ps) = last_name g (renamed g p.said.name p.said.call name) ps

-- a roll that fails a roll or record question gives no names
abbrev pub only_whole : Option Named → List ℕ → List ℕ
only_whole None name = name
only_whole (Some f) name = []

-- the name of a group: that of the roll's last enter with its number, empty if there is none
abbrev pub name_of : List ℕ → ℕ → List ℕ
name_of roll g = only_whole (meaning roll).fault (last_name g [] (meaning roll).records)

-- a name that is found, and none where there is a fault
abbrev pub given : Result (Bor (List ℕ)) Fault → List ℕ
given (Ok name) = name.now
given (Err f) = []
