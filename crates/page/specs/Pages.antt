-- What stands on a page, and what a list gets of it.
use Rattle.std.specs.Prelude.{ℕ, ◌+◌, ◌≤◌, List, [], ◌∷◌, length, Result, nat_le}
use Rattle.field.specs.Refusals.{Question, question, first_no}
use Rattle.sheet.specs.Questions.{answered}
use Rattle.page.specs.declared.page.Page.{Page}
use Rattle.page.specs.Room.{most}

-- what was added, from the beginning to the end
abbrev pub text : Page → List ℕ
text p = p.bytes.items

-- these bytes fit after the text
abbrev pub HasRoom : Page → List ℕ → Type 0
HasRoom p bytes = length (text p) + length bytes ≤ most

-- 12: is the list long enough for so many bytes?
abbrev pub q_list : List ℕ → ℕ → Question
q_list bytes room = question 12 (nat_le (length bytes) room)

-- the bytes for a list with so much room, or the number of a refusal
abbrev pub fitted : List ℕ → ℕ → Result (List ℕ) ℕ
fitted bytes room = answered (first_no (q_list bytes room ∷ [])) bytes
