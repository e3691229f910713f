-- What a call that writes a list answers and leaves, and when it is refused for want of an order.
use Rattle.std.specs.Prelude.{◌≡◌, ℕ, List, ◌++◌, length, drop, pos, Some, None, Ok, Err, Option, Result}
use Rattle.field.specs.declared.window.Window.{Window}
use Rattle.field.specs.declared.refusal.Refusal.{Refusal}
use Rattle.field.specs.Refusals.{by_number}
use Rattle.theory.specs.declared.span.Span.{Span}
use Rattle.theory.specs.Orders.{Possible}
use Rattle.theory.specs.Method.{forbidden}
use Rattle.reckoning.specs.Questions.{asked}

-- the number of the first no; 13 where all were yes and there is no order; else what was made
abbrev pub decided : {X : Type 0} → Option ℕ → Option X → Result X ℕ
decided (Some n) o = Err n
decided None None = Err 13
decided None (Some x) = Ok x

-- what is made of the finished closed set, where there is one
abbrev pub mapped : {X : Type 0} → (List Span → X) → Option (List Span) → Option X
mapped g None = None
mapped g (Some f) = Some (g f)

-- a list made of the closed set of a field, once the questions are put, or the number of a refusal
abbrev pub told : {X : Type 0} → ℕ → List Window → ℕ → (List Span → List X) → Result (List X) ℕ
told p ws room g = decided (asked p ws room) (mapped g (forbidden (pos p) ws))

-- a call answers how many entries it wrote
abbrev pub answer : {X : Type 0} → Result (List X) ℕ → Result ℕ ℕ
answer (Ok xs) = Ok (length xs)
answer (Err n) = Err n

-- they fill the list from its beginning, and the rest is kept; a refusal leaves it as it was
abbrev pub leaves : {X : Type 0} → Result (List X) ℕ → List X → List X
leaves (Ok xs) before = xs ++ drop (length xs) before
leaves (Err n) before = before

-- number 13 comes exactly when every earlier question is passed and no order of play exists
pub record Thirteen (p : ℕ) (ws : List Window) (room : ℕ) (r : Result ℕ Refusal) : Type 0 where
  pub only : by_number r ≡ Err 13 → (asked p ws room ≡ None) × (Possible (pos p) ws → ⊥)
  pub always : asked p ws room ≡ None → (Possible (pos p) ws → ⊥) → by_number r ≡ Err 13
