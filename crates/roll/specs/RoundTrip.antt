-- The round trip: what is written of a sheet, played on a blank one, gives the sheet again.
use Rattle.std.specs.Prelude.{◌≡◌, ℕ, List, None}
use Rattle.sheet.specs.Content.{Content, blank}
use Rattle.sheet.specs.Trials.{Held}
use Rattle.roll.specs.Playing.{played}

-- what the sheet with this number holds, with no trial open
abbrev pub outside_trial : ℕ → Content → Held
outside_trial n c = record { sheet = n; content = c; trials = 0 }

-- on a blank sheet with any number the roll meets no fault, and gives these rows, standings and pace
abbrev pub GivesBack : List ℕ → Content → Type 0
GivesBack roll c = (n : ℕ) → played (outside_trial n blank) roll ≡ record { held = outside_trial n c; fault = None }
