-- What one call comes to, on whatever sheet it meets.
use Rattle.std.specs.Prelude.{◌≡◌, ℕ, Some, None, Option}
use Rattle.std.specs.Option.{unwrap_or}
use Rattle.sheet.specs.declared.sheet.Sheet.{Sheet}
use Rattle.sheet.specs.Content.{Content}
use Rattle.sheet.specs.Calls.{Call, change_made}
use Rattle.sheet.specs.Trials.{Kind, joins, departs, opens, keeps, backs, tells, kind, decision}
use Rattle.sheet.specs.Sheets.{content, at_open, holds}
use Rattle.sheet.specs.Answers.{Said, refused}
use Rattle.sheet.specs.Book.{Lists, room, Told}

-- rows and pace after a call that is taken
abbrev pub moved : Kind → Call → Content → Option Content → Content
moved joins call c was = change_made call c
moved departs call c was = change_made call c
moved opens call c was = c
moved (keeps s) call c was = c
moved (backs s) call c was = unwrap_or was c
moved tells call c was = c

-- what back would bring, after it
abbrev pub remembered : Kind → Content → Option Content → Option Content
remembered joins c was = was
remembered departs c was = was
remembered opens c was = Some c
remembered (keeps s) c was = None
remembered (backs s) c was = None
remembered tells c was = was

-- a call with a no is refused by its number and leaves all as it was; one that passes its questions is answered and
-- leaves the lists as the book has it, and moves the sheet
abbrev pub Outcome : Option ℕ → Sheet → Call → Lists → Said → Lists → Sheet → Type 0
Outcome (Some n) s call given a left t = (a ≡ refused (kind call) n) × (left ≡ given) × (content t ≡ content s) × (at_open t ≡ at_open s)
Outcome None s call given a left t =
    Told (holds s) call given a left
    × (content t ≡ moved (kind call) call (content s) (at_open s))
    × (at_open t ≡ remembered (kind call) (content s) (at_open s))

-- the call on the sheet s, with these lists given, is answered so, leaves these lists, and makes the sheet t
pub record ComesTo (s : Sheet) (call : Call) (given : Lists) (a : Said) (left : Lists) (t : Sheet) : Type 0 where
  pub number : t.number ≡ s.number
  pub outcome : Outcome (decision (holds s) call (room call given)) s call given a left t
