-- Trials: what is held, and the questions about it.
use Rattle.std.specs.Prelude.{ℕ, ◌&&◌, List, [], ◌∷◌, ◌++◌, Option, ◌==◌, nat_le}
use Rattle.field.specs.Refusals.{Question, question, first_no}
use Rattle.sheet.specs.Content.{Content}
use Rattle.sheet.specs.Calls.{Call, Enter, Change, Withdraw, Pace, CallUp, StandDown, SendAway, Open, Keep, Back, Order, Through, RangeOf, Spans}
use Rattle.sheet.specs.Questions.{questions}

-- what a sheet or a book holds: the sheet number, rows and pace, and how many trials are open
pub record Held : Type 0 where
  pub sheet : ℕ
  pub content : Content
  pub trials : ℕ

-- Calls that change join, and that departs which comes outside a trial alone; opens, keeps and backs are about the
-- trial, the last two with the number on the slip; tells leaves all as it is.
pub data Kind : Type 0 where
  joins : Kind
  departs : Kind
  opens : Kind
  keeps : (slip : ℕ) → Kind
  backs : (slip : ℕ) → Kind
  tells : Kind

abbrev pub kind : Call → Kind
kind (Enter g e l) = joins
kind (Change g e l) = joins
kind (Withdraw g) = joins
kind (Pace p) = joins
kind (CallUp g t) = joins
kind (StandDown g) = joins
kind (SendAway g) = departs
kind Open = opens
kind (Keep slip) = keeps slip.sheet
kind (Back slip) = backs slip.sheet
kind Order = tells
kind (Through g t) = tells
kind (RangeOf g) = tells
kind Spans = tells

-- 1: is no trial open?
abbrev pub q_no_trial : Held → Question
q_no_trial h = question 1 (h.trials == 0)

-- 2: is a trial open, and does the slip carry this sheet's number?
abbrev pub q_slip : Held → ℕ → Question
q_slip h slip = question 2 (nat_le 1 h.trials && slip == h.sheet)

abbrev pub trial_questions : Held → Kind → List Question
trial_questions h joins = []
trial_questions h departs = q_no_trial h ∷ []
trial_questions h opens = q_no_trial h ∷ []
trial_questions h (keeps slip) = q_slip h slip ∷ []
trial_questions h (backs slip) = q_slip h slip ∷ []
trial_questions h tells = []

-- all questions of a call in their order, where a list has so much room
abbrev pub asked : Held → Call → ℕ → List Question
asked h call room = trial_questions h (kind call) ++ questions h.content call room

-- the first no decides: its number, and none where all are yes
abbrev pub decision : Held → Call → ℕ → Option ℕ
decision h call room = first_no (asked h call room)
