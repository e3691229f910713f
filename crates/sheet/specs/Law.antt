-- The law over runs, on a sheet that was blank before them and met nothing else.
use Rattle.std.specs.Prelude.{◌≡◌, ℕ, true, List, pos, Some, None, Option}
use Rattle.field.specs.declared.window.Window.{Window}
use Rattle.field.specs.Refusals.{first_no}
use Rattle.theory.specs.Orders.{Possible}
use Rattle.reckoning.specs.declared.ends.Range.{Range}
use Rattle.reckoning.specs.Range.{Bounds, placed}
use Rattle.sheet.specs.declared.sheet.Sheet.{Sheet}
use Rattle.sheet.specs.Content.{Content, on, Playable}
use Rattle.sheet.specs.Calls.{Call, RangeOf, change_made}
use Rattle.sheet.specs.Ranges.{GroupBounds}
use Rattle.sheet.specs.Sheets.{content, at_open, holds}
use Rattle.sheet.specs.Answers.{Said, range, refusal, got}
use Rattle.sheet.specs.Book.{made, taken_back, held, Lists, earlier, Reckons, Event, History, start, more, Book}

-- what P says of every event and the events before it
abbrev pub Throughout : (History → Event → Type 0) → History → Type 0
Throughout P start = Unit {0}
Throughout P (more es e) = Throughout P es × P es e

-- an enter, change, pace, call or through got number 13 exactly when it passed every earlier question and the sheet it
-- met had no order of play with its change made
abbrev pub ThirteenRightly : Event → Type 0
ThirteenRightly e =
    Reckons e.met e.call e.given →
    (got e.answer ≡ Some 13 → (first_no (earlier e.met e.call e.given) ≡ None) × (Playable (change_made e.call e.met.content) → ⊥))
    × (first_no (earlier e.met e.call e.given) ≡ None → (Playable (change_made e.call e.met.content) → ⊥) → got e.answer ≡ Some 13)

-- range told the first and last start of each group on the sheet it met: some order of play has each, and none has the
-- group outside them
abbrev pub RangeRightly : Event → Type 0
RangeRightly e =
    (g : ℕ) →
    e.call ≡ RangeOf g →
    on g e.met.content.rows ≡ true →
    (r : Range) × (e.answer ≡ range r) × GroupBounds e.met.content g r

-- the sheet met what the book held after the events before
abbrev pub MetRightly : ℕ → History → Event → Type 0
MetRightly n before e = (col : List Call) × Book n before col × (e.met ≡ held n col)

-- what the sheet would hold after back is what the book would
abbrev pub BackTo : Option Content → Content → Type 0
BackTo None d = Unit {0}
BackTo (Some c) d = c ≡ d

-- after these events, on the sheet n:
pub record Lawful (n : ℕ) (es : History) (s : Sheet) : Type 0 where
  -- the book, fed the same calls and lists, gave the same answers and lists; its column then
  pub column : List Call
  pub book : Book n es column
  -- and the sheet holds what the book holds, as it did whenever a call came;
  pub holding : holds s ≡ held n column
  pub met : Throughout (MetRightly n) es
  -- back would make it what it was at open;
  pub back : BackTo (at_open s) (made (taken_back column))
  -- all its groups together have an order of play;
  pub playable : Playable (content s)
  -- number 13 came exactly when it should;
  pub thirteen : Throughout (λ _ e. ThirteenRightly e) es
  -- and range told the truth
  pub range : Throughout (λ _ e. RangeRightly e) es

-- one call more: whatever history the sheet has, it goes on by the law
abbrev pub GoesOn : Sheet → Call → Lists → Said → Lists → Sheet → Type 0
GoesOn s call given a left t =
    (n : ℕ) (es : History) → Lawful n es s → Lawful n (more es (record { met = holds s; call = call; given = given; answer = a; left = left })) t

-- of every field that passes the questions for range it tells the first and last start of each place; another gets the
-- number of its first no
pub record FieldTold (ws : List Window) (p i : ℕ) (a : Said) : Type 0 where
  pub told : placed p ws i ≡ None → Possible (pos p) ws → (r : Range) × (a ≡ range r) × Bounds (pos p) ws i r
  pub failed : (n : ℕ) → placed p ws i ≡ Some n → a ≡ refusal n
  pub thirteen : placed p ws i ≡ None → (Possible (pos p) ws → ⊥) → a ≡ refusal 13
