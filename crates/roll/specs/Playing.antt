-- What comes of playing a roll: its calls are made in order, up to the first fault.
use Rattle.std.specs.Prelude.{ℕ, List, [], ◌∷◌, Some, None, Ok, Err, Option, Result}
use Rattle.sheet.specs.declared.call.Call.{Call}
use Rattle.sheet.specs.Calls.{change_made}
use Rattle.sheet.specs.Trials.{Held, decision}
use Rattle.sheet.specs.Answers.{done, said_by}
use Rattle.sheet.specs.Questions.{answered}
use Rattle.sheet.specs.Book.{Event, History, more, no_lists}
use Rattle.roll.specs.Faults.{Named, refused}
use Rattle.roll.specs.Meaning.{Placed, meaning}

-- what is held with the change of a call made
abbrev pub changed : Held → Call → Held
changed h call = record { sheet = h.sheet; content = change_made call h.content; trials = h.trials }

-- what is held in the end, and the fault at which the roll stopped, if at one
pub record Outcome : Type 0 where
  pub held : Held
  pub fault : Option Named

-- by the number of a call's first no, if it has one
abbrev pub by_no : {X : Type 0} → Option ℕ → (ℕ → X) → X → X
by_no None stop go = go
by_no (Some n) stop go = stop n

-- a call that is refused stops the roll and changes nothing
unfoldable pub playing : Held → List Placed → Option Named → Outcome
playing h [] f = record { held = h; fault = f }
playing h (p ∷ ps) f =
    let call = p.said.call in
    let rest = playing (changed h call) ps f in
    by_no (decision h call 0) (λ n. record { held = h; fault = Some (refused n p.turn p.place) }) rest

-- a roll played on what is held
abbrev pub played : Held → List ℕ → Outcome
played h roll = playing h (meaning roll).records (meaning roll).fault

-- a fault, or none
abbrev pub unless : Option Named → Result (Unit {0}) Named
unless None = Ok tt
unless (Some f) = Err f

-- a call as it came and was answered, with no lists
abbrev pub event : Held → Call → Event
event h call = record { met = h; call = call; given = no_lists; answer = said_by (λ (_ : Unit {0}). done) (answered (decision h call 0) tt); left = no_lists }

-- a history with these calls after it, up to one that is refused
unfoldable pub logged : Held → List Placed → History → History
logged h [] es = es
logged h (p ∷ ps) es =
    let call = p.said.call in
    let now = more es (event h call) in
    let rest = logged (changed h call) ps now in
    by_no (decision h call 0) (λ n. now) rest
