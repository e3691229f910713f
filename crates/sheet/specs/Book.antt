-- The plain book: a column of calls. It is fed the sheet number and the calls with their arguments, slips and lists.
use Rattle.std.specs.Prelude.{◌≡◌, ℕ, suc, Bool, true, false, cond, ◌||◌, ◌⊎◌, List, [], ◌∷◌, length, Some, None, Ok, ◌==◌}
use Rattle.field.specs.Refusals.{Question, first_no}
use Rattle.theory.specs.declared.span.Span.{Span}
use Rattle.reckoning.specs.declared.ends.Range.{Range}
use Rattle.reckoning.specs.declared.start.Start.{Start}
use Rattle.reckoning.specs.Lists.{leaves}
use Rattle.sheet.specs.Content.{Content, blank, order_of, spans_of, Playable}
use Rattle.sheet.specs.Calls.{Call, Enter, Change, Withdraw, Pace, CallUp, StandDown, SendAway, Open, Keep, Back, Order, Through, RangeOf, Spans, change_made}
use Rattle.sheet.specs.Questions.{before_13}
use Rattle.sheet.specs.Ranges.{GroupBounds}
use Rattle.sheet.specs.Trials.{Held, Kind, joins, departs, opens, keeps, backs, tells, kind, asked}
use Rattle.sheet.specs.Answers.{Said, done, slip, count, range, refused}

-- ---- the column, read from its end: its last call is the head of the list

-- a blank sheet with these calls made in order
abbrev pub made : List Call → Content
made [] = blank
made (call ∷ col) = change_made call (made col)

abbrev pub is_open : Kind → Bool
is_open joins = false
is_open departs = false
is_open opens = true
is_open (keeps s) = false
is_open (backs s) = false
is_open tells = false

-- as many trials as opens stand in it
abbrev pub trials_in : List Call → ℕ
trials_in [] = 0
trials_in (call ∷ col) = cond (is_open (kind call)) (suc (trials_in col)) (trials_in col)

-- without its last open
abbrev pub kept : List Call → List Call
kept [] = []
kept (call ∷ col) = cond (is_open (kind call)) col (call ∷ kept col)

-- without its last open and all after it
abbrev pub taken_back : List Call → List Call
taken_back [] = []
taken_back (call ∷ col) = cond (is_open (kind call)) col (taken_back col)

-- keep strikes out the last open, back that and all after it; order, through, range and spans leave the column as it
-- stood, and every other call joins its end
abbrev pub marked : Kind → Call → List Call → List Call
marked joins call col = call ∷ col
marked departs call col = call ∷ col
marked opens call col = call ∷ col
marked (keeps s) call col = kept col
marked (backs s) call col = taken_back col
marked tells call col = col

-- what the book holds
abbrev pub held : ℕ → List Call → Held
held n col = record { sheet = n; content = made col; trials = trials_in col }

-- ---- its questions

-- the lists handed in: one for starts and one for spans
pub record Lists : Type 0 where
  pub starts : List Start
  pub spans : List Span

abbrev pub lists : List Start → List Span → Lists
lists xs ys = record { starts = xs; spans = ys }

abbrev pub no_lists : Lists
no_lists = lists [] []

-- the room in the list that a call fills
abbrev pub room : Call → Lists → ℕ
room (Enter g e l) given = 0
room (Change g e l) given = 0
room (Withdraw g) given = 0
room (Pace p) given = 0
room (CallUp g t) given = 0
room (StandDown g) given = 0
room (SendAway g) given = 0
room Open given = 0
room (Keep s) given = 0
room (Back s) given = 0
room Order given = length given.starts
room (Through g t) given = length given.starts
room (RangeOf g) given = 0
room Spans given = length given.spans

-- those before 13
abbrev pub earlier : Held → Call → Lists → List Question
earlier h call given = before_13 (asked h call (room call given))

abbrev has_13 : List Question → Bool
has_13 [] = false
has_13 (q ∷ qs) = q.number == 13 || has_13 qs

-- 13 concerns the call: enter, change, pace, call and through
abbrev pub Reckons : Held → Call → Lists → Type 0
Reckons h call given = has_13 (asked h call (room call given)) ≡ true

-- every question is answered yes, and 13 by an order of play with the change made
pub record Passes (h : Held) (call : Call) (given : Lists) : Type 0 where
  pub before : first_no (earlier h call given) ≡ None
  pub order : Reckons h call given → Playable (change_made call h.content)

-- the first no has the number n: one before 13, or 13 where there is no order of play with the change made
abbrev pub FirstNo : Held → Call → Lists → ℕ → Type 0
FirstNo h call given n =
    (first_no (earlier h call given) ≡ Some n)
    ⊎ ((first_no (earlier h call given) ≡ None) × (n ≡ 13) × Reckons h call given × (Playable (change_made call h.content) → ⊥))

-- ---- its answers

-- done, and the lists kept
abbrev pub JustDone : Lists → Said → Lists → Type 0
JustDone given a left = (a ≡ done) × (left ≡ given)

-- the list of starts is filled from its beginning, its rest kept, and the count answered
abbrev pub FillsStarts : List Start → Lists → Said → Lists → Type 0
FillsStarts list given a left = (a ≡ count (length list)) × (left ≡ lists (leaves (Ok list) given.starts) given.spans)

abbrev pub FillsSpans : List Span → Lists → Said → Lists → Type 0
FillsSpans list given a left = (a ≡ count (length list)) × (left ≡ lists given.starts (leaves (Ok list) given.spans))

-- what a call that passes every question answers, and how it leaves the lists
abbrev pub Told : Held → Call → Lists → Said → Lists → Type 0
Told h (Enter g e l) given a left = JustDone given a left
Told h (Change g e l) given a left = JustDone given a left
Told h (Withdraw g) given a left = JustDone given a left
Told h (Pace p) given a left = JustDone given a left
Told h (CallUp g t) given a left = JustDone given a left
Told h (StandDown g) given a left = JustDone given a left
Told h (SendAway g) given a left = JustDone given a left
Told h Open given a left = (a ≡ slip h.sheet) × (left ≡ given)
Told h (Keep s) given a left = JustDone given a left
Told h (Back s) given a left = JustDone given a left
Told h Order given a left = FillsStarts (order_of h.content) given a left
Told h (Through g t) given a left = FillsStarts (order_of (change_made (Through g t) h.content)) given a left
Told h (RangeOf g) given a left = (r : Range) × (a ≡ range r) × GroupBounds h.content g r × (left ≡ given)
Told h Spans given a left = FillsSpans (spans_of h.content) given a left

-- ---- its runs

-- A call as it came and was answered: what the sheet held, the call with its arguments and slip, the lists handed in,
-- the answer, and the lists as they were left.
pub record Event : Type 0 where
  pub met : Held
  pub call : Call
  pub given : Lists
  pub answer : Said
  pub left : Lists

pub data History : Type 0 where
  start : History
  more : History → Event → History

-- the book, holding h, refuses the call: its first no gives the answer, and the lists stay
pub record Refuses (h : Held) (e : Event) : Type 0 where
  pub number : ℕ
  pub first : FirstNo h e.call e.given number
  pub says : e.answer ≡ refused (kind e.call) number
  pub lists : e.left ≡ e.given

-- the book, holding h, takes the call
pub record Takes (h : Held) (e : Event) : Type 0 where
  pub passes : Passes h e.call e.given
  pub tells : Told h e.call e.given e.answer e.left

-- The book of the sheet n, fed these calls and lists, gives these answers and lists, and stands at this column. It is
-- at first empty; a refused call leaves the column as it stood.
pub data Book (n : ℕ) : History → List Call → Type 0 where
  empty : Book n start []
  refusal : {es : History} {col : List Call} {e : Event} → Book n es col → Refuses (held n col) e → Book n (more es e) col
  entry : {es : History} {col : List Call} {e : Event} → Book n es col → Takes (held n col) e → Book n (more es e) (marked (kind e.call) e.call col)
