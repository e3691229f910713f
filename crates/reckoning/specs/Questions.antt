-- The questions that a reckoning puts to a field, in their order. Each is put to the whole field before
-- the next.
use Rattle.std.specs.Prelude.{ℕ, Bool, ◌&&◌, List, [], ◌∷◌, ◌++◌, length, ℤ, pos, negsuc, Option, int_le, nat_le}
use Rattle.std.specs.List.{list_all}
use Rattle.field.specs.declared.window.Window.{Window}
use Rattle.field.specs.Refusals.{Question, question, first_no}

abbrev pub every : (Window → Bool) → List Window → Bool
every t ws = list_all t ws

-- a time lies from -86,400 to 86,400
abbrev pub in_time : ℤ → Bool
in_time z = int_le (negsuc 86399) z && int_le z (pos 86400)

abbrev pub timed : Window → Bool
timed w = in_time w.early && in_time w.late

-- early is at most late
abbrev pub upright : Window → Bool
upright w = int_le w.early w.late

-- 3: is the pace 1 to 3,600? 4: has the field at most 64 groups? 6: is every time from -86,400 to 86,400?
-- 7: is early at most late in every window?
abbrev pub questions : ℕ → List Window → List Question
questions p ws = question 3 (nat_le 1 p && nat_le p 3600) ∷ question 4 (nat_le (length ws) 64) ∷ question 6 (every timed ws) ∷ question 7 (every upright ws) ∷ []

abbrev pub refused : ℕ → List Window → Option ℕ
refused p ws = first_no (questions p ws)

-- and, of a list with so much room, 12: has it as many entries as there are groups?
abbrev pub asked : ℕ → List Window → ℕ → Option ℕ
asked p ws room = first_no (questions p ws ++ question 12 (nat_le (length ws) room) ∷ [])
