-- From a sheet to what it holds.
use Rattle.std.specs.Prelude.{◌≡◌, cond, Some, None, vec_items, Option}
use Rattle.sheet.specs.declared.sheet.Holding.{Holding}
use Rattle.sheet.specs.declared.sheet.Sheet.{Sheet}
use Rattle.sheet.specs.Content.{Content}
use Rattle.sheet.specs.Trials.{Held}

-- rows and pace
abbrev pub content_of : Holding → Content
content_of h = record { rows = vec_items h.table.rows; pace = h.pace }

abbrev pub content : Sheet → Content
content s = content_of s.holding

-- what the sheet was at open, while a trial is open
abbrev pub at_open : Sheet → Option Content
at_open s = cond s.trial (Some (content_of s.saved)) None

abbrev pub holds : Sheet → Held
holds s = record { sheet = s.number; content = content s; trials = cond s.trial 1 0 }

-- a call leaves the sheet its number, and what it was at open
pub record SameTrial (s t : Sheet) : Type 0 where
  pub number : t.number ≡ s.number
  pub saved : at_open t ≡ at_open s
