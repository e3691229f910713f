-- Rows: the window that counts, and what each standing allows.
use Rattle.std.specs.Prelude.{ℕ, ℤ, pos, Ok, Err, Result}
use Rattle.field.specs.declared.window.Window.{Window}
use Rattle.field.specs.Windows.{window}
use Rattle.sheet.specs.declared.row.Row.{Row}
use Rattle.sheet.specs.declared.row.Standing.{Standing}
use Rattle.sheet.specs.declared.row.Standing.TheVariants.{Waiting, Called, Away}
use Rattle.sheet.specs.declared.row.Step.{Step}
use Rattle.sheet.specs.declared.row.Step.TheVariants.{Change, Withdraw, CallUp, StandDown, SendAway}

-- what is read at a place outside
abbrev pub nobody : Row
nobody = record { number = 0; early = pos 0; late = pos 0; standing = Waiting }

abbrev pub window_by : Standing → ℤ → ℤ → Window
window_by Waiting e l = window e l
window_by (Called t) e l = window t t
window_by (Away t) e l = window t t

-- the window that counts is early..late when waiting, and the time alone otherwise
abbrev pub counts : Row → Window
counts r = window_by r.standing r.early r.late

-- a waiting group's row, and a row with another standing
abbrev pub waiting : ℕ → ℤ → ℤ → Row
waiting g e l = record { number = g; early = e; late = l; standing = Waiting }

abbrev pub stood : Row → Standing → Row
stood r s = record { number = r.number; early = r.early; late = r.late; standing = s }

-- Change gives a waiting group a new window. Withdraw removes a waiting or called group. Call makes a waiting
-- group called at a time. Stand down makes a called group waiting in its old window. Away makes a called group
-- away at that time. To all else the standing says no: 10.
abbrev pub step_by : Standing → Step → Row → Result Row ℕ
step_by Waiting (Change e l) r = Ok (waiting r.number e l)
step_by Waiting Withdraw r = Ok r
step_by Waiting (CallUp t) r = Ok (stood r (Called t))
step_by Waiting StandDown r = Err 10
step_by Waiting SendAway r = Err 10
step_by (Called u) (Change e l) r = Err 10
step_by (Called u) Withdraw r = Ok r
step_by (Called u) (CallUp t) r = Err 10
step_by (Called u) StandDown r = Ok (stood r Waiting)
step_by (Called u) SendAway r = Ok (stood r (Away u))
step_by (Away u) (Change e l) r = Err 10
step_by (Away u) Withdraw r = Err 10
step_by (Away u) (CallUp t) r = Err 10
step_by (Away u) StandDown r = Err 10
step_by (Away u) SendAway r = Err 10

-- the row that a step makes of a row, or 10
abbrev pub stepped : Row → Step → Result Row ℕ
stepped r s = step_by r.standing s r
