-- The thirteen questions by number: a refusal returns the number of the first that is answered no.
use Rattle.std.specs.Prelude.{ℕ, Bool, cond, List, [], ◌∷◌, Some, None, Ok, Err, codes, Option, Result}
use Rattle.field.specs.declared.refusal.Refusal.{Refusal}
use Rattle.field.specs.declared.refusal.Refusal.TheVariants.{TrialOpen, WrongSlip, PaceOutOfRange, TooManyGroups, NumberOutOfRange, TimeOutOfRange, EarlyAfterLate, Unknown, NumberTaken, WrongStanding, OutsideWindow, ListTooShort, NoOrder}

abbrev pub number_of : Refusal → ℕ
number_of TrialOpen = 1
number_of WrongSlip = 2
number_of PaceOutOfRange = 3
number_of TooManyGroups = 4
number_of NumberOutOfRange = 5
number_of TimeOutOfRange = 6
number_of EarlyAfterLate = 7
number_of Unknown = 8
number_of NumberTaken = 9
number_of WrongStanding = 10
number_of OutsideWindow = 11
number_of ListTooShort = 12
number_of NoOrder = 13

-- what a person is told
abbrev pub words_of : Refusal → List ℕ
words_of TrialOpen = codes "a trial is open"
words_of WrongSlip = codes "no trial is open, or the slip is another sheet's"
words_of PaceOutOfRange = codes "the pace is not from 1 to 3600 seconds"
words_of TooManyGroups = codes "there are too many groups: 64 is the most"
words_of NumberOutOfRange = codes "the group number is not from 1 to 9999"
words_of TimeOutOfRange = codes "a time is not from -86400 to 86400"
words_of EarlyAfterLate = codes "an early start is after its late start"
words_of Unknown = codes "there is no such group or place"
words_of NumberTaken = codes "the group number is taken"
words_of WrongStanding = codes "the group's standing does not allow it"
words_of OutsideWindow = codes "the time is outside the group's window"
words_of ListTooShort = codes "the list is too short"
words_of NoOrder = codes "there is no order of play"

-- a result with its refusal told by number
abbrev pub by_number : {X : Type 0} → Result X Refusal → Result X ℕ
by_number (Ok x) = Ok x
by_number (Err q) = Err (number_of q)

-- a question by its number, and whether it is answered yes
pub record Question : Type 0 where
  pub number : ℕ
  pub yes : Bool

abbrev pub question : ℕ → Bool → Question
question n b = record { number = n; yes = b }

-- questions are put in their order, and the first no decides: its number
abbrev pub first_no : List Question → Option ℕ
first_no [] = None
first_no (q ∷ qs) = cond q.yes (first_no qs) (Some q.number)
