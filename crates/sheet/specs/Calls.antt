-- The calls on a sheet, and the change that each makes of what the sheet holds.
use Rattle.std.specs.Prelude.{ℕ, List, Ok, Err, Result, slice_set}
use Rattle.std.specs.List.{remove}
use Rattle.sheet.specs.declared.row.Row.{Row}
use Rattle.sheet.specs.declared.row.Standing.TheVariants.{Called}
use Rattle.sheet.specs.declared.row.Step.{Step}
use Rattle.sheet.specs.declared.row.Step.TheVariants as step
-- what may be asked of a sheet
pub use Rattle.sheet.specs.declared.call.Call.{Call}
pub use Rattle.sheet.specs.declared.call.Call.TheVariants.{Enter, Change, Withdraw, Pace, CallUp, StandDown, SendAway, Open, Keep, Back, Order, Through, RangeOf, Spans}
use Rattle.sheet.specs.Standings.{stood, stepped, waiting}
use Rattle.sheet.specs.Content.{Content, place, row, joined}

-- what was made, or else what was there
abbrev pub made_or : {X : Type 0} → X → Result X ℕ → X
made_or old (Ok new) = new
made_or old (Err n) = old

-- the place of a group, and its row once it has taken a step
abbrev pub stepped_at : ℕ → Step → List Row → ℕ × Row
stepped_at g s rs = (place g rs, made_or (row g rs) (stepped (row g rs) s))

abbrev pub step_of : ℕ → Step → List Row → List Row
step_of g s rs = slice_set rs (stepped_at g s rs).0 (stepped_at g s rs).1

abbrev pub with_rows : Content → List Row → Content
with_rows c rs = record { rows = rs; pace = c.pace }

-- Enter adds a waiting group, change, call, stand down and away are a group's steps, withdraw removes one, pace
-- sets the pace. Through holds one group at one time, for the list that it writes alone. Order, range and spans
-- change nothing, and neither do open, keep and back: they say what the calls around them come to.
abbrev pub change_made : Call → Content → Content
change_made (Enter g e l) c = with_rows c (joined (waiting g e l) c.rows)
change_made (Change g e l) c = with_rows c (step_of g (step.Change e l) c.rows)
change_made (Withdraw g) c = with_rows c (remove c.rows (place g c.rows))
change_made (Pace p) c = record { rows = c.rows; pace = p }
change_made (CallUp g t) c = with_rows c (step_of g (step.CallUp t) c.rows)
change_made (StandDown g) c = with_rows c (step_of g step.StandDown c.rows)
change_made (SendAway g) c = with_rows c (step_of g step.SendAway c.rows)
change_made Open c = c
change_made (Keep slip) c = c
change_made (Back slip) c = c
change_made Order c = c
change_made (Through g t) c = with_rows c (slice_set c.rows (place g c.rows) (stood (row g c.rows) (Called t)))
change_made (RangeOf g) c = c
change_made Spans c = c
