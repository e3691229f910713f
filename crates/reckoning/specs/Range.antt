-- The first and the last start of a place.
use Rattle.std.specs.Prelude.{◌≡◌, ℕ, ◌⊎◌, List, [], ◌∷◌, ◌++◌, length, ℤ, pos, Some, None, Ok, Err, Option, Result, nat_lt}
use Rattle.field.specs.declared.window.Window.{Window}
use Rattle.field.specs.declared.refusal.Refusal.{Refusal}
use Rattle.field.specs.Refusals.{number_of, question, first_no}
use Rattle.theory.specs.Orders.{Possible}
use Rattle.theory.specs.Theorem.{First, Last}
use Rattle.reckoning.specs.declared.ends.Range.{Range}
use Rattle.reckoning.specs.Questions.{questions}

-- some order of play gives the place that first start and none an earlier one, and some gives it that last
-- start and none a later one
abbrev pub Bounds : ℤ → List Window → ℕ → Range → Type 0
Bounds p ws i r = First p ws i r.first × Last p ws i r.last

-- the field's questions and, of a place, 8: is it in the field?
abbrev pub placed : ℕ → List Window → ℕ → Option ℕ
placed p ws i = first_no (questions p ws ++ question 8 (nat_lt i (length ws)) ∷ [])

-- a refusal is the first no; number 13 comes where the others are passed and no order of play exists
abbrev pub Refused : ℕ → List Window → ℕ → Refusal → Type 0
Refused p ws i q = (placed p ws i ≡ Some (number_of q)) ⊎ ((placed p ws i ≡ None) × (number_of q ≡ 13) × (Possible (pos p) ws → ⊥))

-- the first start alone
abbrev pub FirstTold : ℕ → List Window → ℕ → Result ℤ Refusal → Type 0
FirstTold p ws i (Ok x) = (placed p ws i ≡ None) × First (pos p) ws i x
FirstTold p ws i (Err q) = Refused p ws i q

abbrev pub RangeTold : ℕ → List Window → ℕ → Result Range Refusal → Type 0
RangeTold p ws i (Ok r) = (placed p ws i ≡ None) × Bounds (pos p) ws i r
RangeTold p ws i (Err q) = Refused p ws i q
