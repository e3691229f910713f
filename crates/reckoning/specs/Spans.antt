-- The list of the closed spans.
use Rattle.std.specs.Prelude.{ℕ, ◌<◌, List, reverse, length, ℤ, Result}
use Rattle.field.specs.declared.window.Window.{Window}
use Rattle.theory.specs.declared.span.Span.{Span}
use Rattle.theory.specs.Orders.{OrderOfPlay, start_at}
use Rattle.theory.specs.Closed.{Outside}
use Rattle.reckoning.specs.Lists.{told}

-- the closed spans in the order found
abbrev pub spans_told : ℕ → List Window → ℕ → Result (List Span) ℕ
spans_told p ws room = told p ws room reverse

-- no order of play starts a group in one of the spans
abbrev pub Unused : ℤ → List Window → List Span → Type 0
Unused p ws ss = (xs : List ℤ) → OrderOfPlay p ws xs → (i : ℕ) → i < length ws → Outside ss (start_at xs i)
