-- What the calls promise, whatever they are.
use Rattle.std.specs.Prelude.{◌≡◌, ℕ, List, Option, Result}
use Rattle.field.specs.declared.refusal.Refusal.{Refusal}
use Rattle.field.specs.Refusals.{by_number}
use Rattle.reckoning.specs.Lists.{answer as count_of, leaves}
use Rattle.sheet.specs.declared.sheet.Sheet.{Sheet}
use Rattle.sheet.specs.Calls.{Call, change_made}
use Rattle.sheet.specs.Questions.{answered, after}
use Rattle.sheet.specs.Trials.{decision}
use Rattle.sheet.specs.Sheets.{content, holds, SameTrial}
use Rattle.sheet.specs.Answers.{done, said_by}
use Rattle.sheet.specs.Book.{no_lists}
use Rattle.sheet.specs.Law.{GoesOn}

-- a call that may change rows or pace: it is answered by its questions, and if they are all passed it makes its change
-- and nothing else; the sheet s is then t, and the run goes on by the law
pub record Makes (call : Call) (s : Sheet) (r : Result (Unit {0}) Refusal) (t : Sheet) : Type 0 where
  pub answer : by_number r ≡ answered (decision (holds s) call 0) tt
  pub held : content t ≡ after (decision (holds s) call 0) (change_made call (content s)) (content s)
  pub trial : SameTrial s t
  pub law : GoesOn s call no_lists (said_by (λ _. done) (by_number r)) no_lists t

-- a call that writes a list: by the first no, if there is one, it is refused and the list stays; else the entries are
-- written from its beginning, its rest is kept, and their count is answered
pub record Writes {X : Type 0} (no : Option ℕ) (entries before : List X) (r : Result ℕ Refusal) (after : List X) : Type 0 where
  pub answer : by_number r ≡ count_of (answered no entries)
  pub list : after ≡ leaves (answered no entries) before
