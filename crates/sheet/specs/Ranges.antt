-- The first and last start of a group on a sheet.
use Rattle.std.specs.Prelude.{◌≡◌, ℕ, pos, Some, None, Ok, Err, Result}
use Rattle.field.specs.declared.refusal.Refusal.{Refusal}
use Rattle.field.specs.Refusals.{number_of}
use Rattle.reckoning.specs.declared.ends.Range.{Range}
use Rattle.reckoning.specs.Range.{Bounds}
use Rattle.sheet.specs.Content.{Content, place, windows_of}
use Rattle.sheet.specs.Calls.{RangeOf}
use Rattle.sheet.specs.Questions.{verdict}

-- some order of play gives the group each of the two starts, and none one outside them
abbrev pub GroupBounds : Content → ℕ → Range → Type 0
GroupBounds c g r = Bounds (pos c.pace) (windows_of c.rows) (place g c.rows) r

-- a group on the sheet is told them, and another gets a number
abbrev pub GroupTold : Content → ℕ → Result Range Refusal → Type 0
GroupTold c g (Ok r) = (verdict c (RangeOf g) 0 ≡ None) × GroupBounds c g r
GroupTold c g (Err q) = verdict c (RangeOf g) 0 ≡ Some (number_of q)
