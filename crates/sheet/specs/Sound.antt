-- What each row that stands on a sheet keeps to, whatever its standing.
use Rattle.std.specs.Prelude.{ℕ, Bool, true, ◌&&◌, ℤ, int_le, nat_le}
use Rattle.reckoning.specs.Questions.{in_time}
use Rattle.sheet.specs.declared.row.Row.{Row}
use Rattle.sheet.specs.declared.row.Standing.{Standing}
use Rattle.sheet.specs.declared.row.Standing.TheVariants.{Waiting, Called, Away}

-- a number is from 1 to 9,999
abbrev pub numbered : ℕ → Bool
numbered g = nat_le 1 g && nat_le g 9999

-- a time lies in early..late
abbrev pub within : ℤ → ℤ → ℤ → Bool
within e l t = int_le e t && int_le t l

-- the time of a group that is called or away lies in early..late
abbrev pub kept_time : Standing → ℤ → ℤ → Bool
kept_time Waiting e l = true
kept_time (Called t) e l = within e l t
kept_time (Away t) e l = within e l t

-- a row that may stand on a sheet: its number and its times in range, early at most late
abbrev pub sound : Row → Bool
sound r = numbered r.number && in_time r.early && in_time r.late && int_le r.early r.late && kept_time r.standing r.early r.late
