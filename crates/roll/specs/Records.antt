-- What the bytes of a record mean.
use Rattle.std.specs.Prelude.{ℕ, ◌+◌, ◌-◌, ◌*◌, Bool, cond, ◌&&◌, ◌||◌, List, [], ◌∷◌, length, take, drop, Ok, Err, Result, ◌==◌, nat_le, slice_index}
use Rattle.std.specs.List.{list_all}
use Rattle.field.specs.Refusals.{Question, question, first_no}
use Rattle.field.specs.Strip.{word}
use Rattle.sheet.specs.declared.call.Call.{Call}
use Rattle.sheet.specs.declared.call.Call.TheVariants.{Enter, Change, Withdraw, Pace, CallUp, StandDown, SendAway}
use Rattle.sheet.specs.Questions.{answered}
use Rattle.roll.specs.declared.fault.Flaw.{Flaw}
use Rattle.roll.specs.declared.record.Record.{Record}
use Rattle.roll.specs.declared.record.Record.TheVariants as code
use Rattle.roll.specs.Faults.{flaw_number}

-- what a record says: its call, and the name that it gives the group
pub record Said : Type 0 where
  pub call : Call
  pub name : List ℕ

abbrev pub plain : Call → Said
plain call = record { call = call; name = [] }

abbrev pub said : Record → Said
said (code.Pace p) = plain (Pace p)
said (code.Enter g e l name) = record { call = Enter g e l; name = name.now }
said (code.Change g e l) = plain (Change g e l)
said (code.Withdraw g) = plain (Withdraw g)
said (code.CallUp g t) = plain (CallUp g t)
said (code.StandDown g) = plain (StandDown g)
said (code.SendAway g) = plain (SendAway g)

-- what is read: what a record says, or the number of a flaw
abbrev pub told : Result Record Flaw → Result Said ℕ
told (Ok r) = Ok (said r)
told (Err f) = Err (flaw_number f)

-- ---- kinds: the letters P, E, C, X, K, S and A

abbrev pub pace_kind : ℕ
pace_kind = 80

abbrev pub enter_kind : ℕ
enter_kind = 69

abbrev pub change_kind : ℕ
change_kind = 67

abbrev pub withdraw_kind : ℕ
withdraw_kind = 88

abbrev pub call_kind : ℕ
call_kind = 75

abbrev pub stand_down_kind : ℕ
stand_down_kind = 83

abbrev pub away_kind : ℕ
away_kind = 65

abbrev pub known : ℕ → Bool
known k = k == pace_kind || k == enter_kind || k == change_kind || k == withdraw_kind || k == call_kind || k == stand_down_kind || k == away_kind

-- lengths: E 10 to 30, C 10, K 6, the others 2
abbrev pub has_length : ℕ → ℕ → Bool
has_length k n = cond (k == enter_kind) (nat_le 10 n && nat_le n 30) (n == cond (k == change_kind) 10 (cond (k == call_kind) 6 2))

-- ---- bodies

-- the two bytes from i on, as a number
abbrev pub half : List ℕ → ℕ → ℕ
half bs i = slice_index bs i * 256 + slice_index bs (i + 1)

-- pace; number, early, late and name; number, early and late; number and time; number
abbrev pub says : ℕ → List ℕ → Said
says k body =
    cond (k == pace_kind) (plain (Pace (half body 0)))
    (cond (k == enter_kind) (record { call = Enter (half body 0) (word body 2) (word body 6); name = drop 10 body })
    (cond (k == change_kind) (plain (Change (half body 0) (word body 2) (word body 6)))
    (cond (k == withdraw_kind) (plain (Withdraw (half body 0)))
    (cond (k == call_kind) (plain (CallUp (half body 0) (word body 2)))
    (cond (k == stand_down_kind) (plain (StandDown (half body 0))) (plain (SendAway (half body 0))))))))

-- a byte from 20 to 7E, hexadecimal
abbrev pub printable : ℕ → Bool
printable b = nat_le 32 b && nat_le b 126

abbrev pub name_in : ℕ → List ℕ → List ℕ
name_in k body = cond (k == enter_kind) (drop 10 body) []

-- 25: is the kind known? 26: is the length one that the kind has? 27: is each name byte 20 to 7E?
abbrev pub body_questions : ℕ → List ℕ → List Question
body_questions k body = question 25 (known k) ∷ question 26 (has_length k (length body)) ∷ question 27 (list_all printable (name_in k body)) ∷ []

abbrev pub body_read : ℕ → List ℕ → Result Said ℕ
body_read k body = answered (first_no (body_questions k body)) (says k body)

-- ---- a record: a kind byte, a length byte and a body of that many bytes

abbrev pub kind : List ℕ → ℕ
kind bs = slice_index bs 0

abbrev pub body_length : List ℕ → ℕ
body_length bs = slice_index bs 1

-- how many bytes it takes
abbrev pub size : List ℕ → ℕ
size bs = 2 + body_length bs

abbrev pub body : List ℕ → List ℕ
body bs = take (body_length bs) (drop 2 bs)

abbrev pub whole : List ℕ → Bool
whole bs = nat_le 2 (length bs) && nat_le (body_length bs) (length bs - 2)

-- 24: is the record whole? Then those about its body
abbrev pub questions : List ℕ → List Question
questions bs = question 24 (whole bs) ∷ body_questions (kind bs) (body bs)

-- the record at the beginning of some bytes, or the number of the first no
abbrev pub parsed : List ℕ → Result Said ℕ
parsed bs = answered (first_no (questions bs)) (says (kind bs) (body bs))
