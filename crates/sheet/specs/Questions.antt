-- The questions that a call gets, and what they decide.
use Rattle.std.specs.Prelude.{◌≡◌, ℕ, not, ◌&&◌, ltb, List, [], ◌∷◌, length, ℤ, is_ok, Some, None, Ok, Err, filter, Option, Result, int_le, nat_le, nat_lt}
use Rattle.field.specs.declared.refusal.Refusal.{Refusal}
use Rattle.field.specs.Refusals.{by_number, Question, question, first_no}
use Rattle.reckoning.specs.Questions.{in_time}
use Rattle.sheet.specs.declared.row.Row.{Row}
use Rattle.sheet.specs.declared.row.Step.{Step}
use Rattle.sheet.specs.declared.row.Step.TheVariants as step
use Rattle.sheet.specs.Standings.{counts, stepped}
use Rattle.sheet.specs.Sound.{numbered, within}
use Rattle.sheet.specs.Content.{Content, on, row, paced, playable, Playable}
use Rattle.sheet.specs.Calls.{Call, Enter, Change, Withdraw, Pace, CallUp, StandDown, SendAway, Open, Keep, Back, Order, Through, RangeOf, Spans, change_made}

-- 3: is the pace 1 to 3,600?
abbrev pub q_pace : ℕ → Question
q_pace p = question 3 (paced p)

-- 4: has the sheet fewer than 64 groups?
abbrev pub q_room : List Row → Question
q_room rs = question 4 (nat_lt (length rs) 64)

-- 5: is the number 1 to 9,999?
abbrev pub q_number : ℕ → Question
q_number g = question 5 (numbered g)

-- 6: is every time given from -86,400 to 86,400?
abbrev pub q_time : ℤ → Question
q_time t = question 6 (in_time t)

abbrev pub q_times : ℤ → ℤ → Question
q_times e l = question 6 (in_time e && in_time l)

-- 7: is early at most late?
abbrev pub q_upright : ℤ → ℤ → Question
q_upright e l = question 7 (int_le e l)

-- 8: is the named group on the sheet?
abbrev pub q_on : ℕ → List Row → Question
q_on g rs = question 8 (on g rs)

-- 9: is the number not yet on the sheet?
abbrev pub q_new : ℕ → List Row → Question
q_new g rs = question 9 (not (on g rs))

-- 10: does the standing allow the call?
abbrev pub q_standing : ℕ → Step → List Row → Question
q_standing g s rs = question 10 (is_ok (stepped (row g rs) s))

-- 11: is the time inside the window that counts?
abbrev pub q_inside : ℕ → ℤ → List Row → Question
q_inside g t rs = question 11 (within (counts (row g rs)).early (counts (row g rs)).late t)

-- 12: has the list as many entries as there are groups?
abbrev pub q_list : ℕ → List Row → Question
q_list room rs = question 12 (nat_le (length rs) room)

-- 13: is there an order of play with the change made?
abbrev pub q_order : Content → Question
q_order c = question 13 (playable c.rows c.pace)

-- the questions about groups and lists of each call in their order, where a list has so much room
abbrev pub questions : Content → Call → ℕ → List Question
questions c (Enter g e l) room = q_room c.rows ∷ q_number g ∷ q_times e l ∷ q_upright e l ∷ q_new g c.rows ∷ q_order (change_made (Enter g e l) c) ∷ []
questions c (Change g e l) room = q_times e l ∷ q_upright e l ∷ q_on g c.rows ∷ q_standing g (step.Change e l) c.rows ∷ q_order (change_made (Change g e l) c) ∷ []
questions c (Withdraw g) room = q_on g c.rows ∷ q_standing g step.Withdraw c.rows ∷ []
questions c (Pace p) room = q_pace p ∷ q_order (change_made (Pace p) c) ∷ []
questions c (CallUp g t) room = q_time t ∷ q_on g c.rows ∷ q_standing g (step.CallUp t) c.rows ∷ q_inside g t c.rows ∷ q_order (change_made (CallUp g t) c) ∷ []
questions c (StandDown g) room = q_on g c.rows ∷ q_standing g step.StandDown c.rows ∷ []
questions c (SendAway g) room = q_on g c.rows ∷ q_standing g step.SendAway c.rows ∷ []
questions c Open room = []
questions c (Keep slip) room = []
questions c (Back slip) room = []
questions c Order room = q_list room c.rows ∷ []
questions c (Through g t) room = q_time t ∷ q_on g c.rows ∷ q_inside g t c.rows ∷ q_list room c.rows ∷ q_order (change_made (Through g t) c) ∷ []
questions c (RangeOf g) room = q_on g c.rows ∷ []
questions c Spans room = q_list room c.rows ∷ []

-- the first no decides: its number, and none where all are yes
abbrev pub verdict : Content → Call → ℕ → Option ℕ
verdict c call room = first_no (questions c call room)

-- a refusal returns its number alone
abbrev pub answered : {X : Type 0} → Option ℕ → X → Result X ℕ
answered None x = Ok x
answered (Some n) x = Err n

-- what question 13 alone answers
abbrev pub asked_13 : Content → Result (Unit {0}) ℕ
asked_13 c = answered (first_no (q_order c ∷ [])) tt

abbrev pub after : {X : Type 0} → Option ℕ → X → X → X
after None new old = new
after (Some n) new old = old

abbrev pub before_13 : List Question → List Question
before_13 qs = filter (λ q. ltb q.number 13) qs

-- number 13 comes exactly when every earlier question is passed and no order of play exists for what is held with
-- the change made
pub record Thirteen {X : Type 0} (c : Content) (call : Call) (room : ℕ) (r : Result X Refusal) : Type 0 where
  pub only : by_number r ≡ Err 13 → (first_no (before_13 (questions c call room)) ≡ None) × (Playable (change_made call c) → ⊥)
  pub always : first_no (before_13 (questions c call room)) ≡ None → (Playable (change_made call c) → ⊥) → by_number r ≡ Err 13
