-- A result as one record, which a caller in another language can read.
use Rattle.std.specs.Prelude.{ℕ, Ok, Err, Result}
use Rattle.exports.specs.declared.Outcome.{Outcome}

-- the count, or the number of the refusal
abbrev pub outcome : Result ℕ ℕ → Outcome
outcome (Ok n) = record { count = n; refusal = 0 }
outcome (Err k) = record { count = 0; refusal = k }
