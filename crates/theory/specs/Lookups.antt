-- What a look-up tells, by three laws each: its bound, that it is outside, and that none is nearer.
use Rattle.std.specs.Prelude.{ℕ, suc, List, ℤ, pos, ◌≤ℤ◌}
use Rattle.theory.specs.declared.span.Span.{Span}
use Rattle.theory.specs.Closed.{Outside, greatest_outside, least_outside, backward, forward}

-- x is the greatest time at or before t outside the spans
pub record Greatest (f : List Span) (t x : ℤ) : Type 0 where
  pub bound : x ≤ℤ t
  pub out : Outside f x
  pub most : (y : ℤ) → y ≤ℤ t → Outside f y → y ≤ℤ x

-- x is the least time at or after t outside the spans
pub record Least (f : List Span) (t x : ℤ) : Type 0 where
  pub bound : t ≤ℤ x
  pub out : Outside f x
  pub least : (y : ℤ) → t ≤ℤ y → Outside f y → x ≤ℤ y

abbrev pub LeastAndGreatest : Type 0
LeastAndGreatest = (f : List Span) (t : ℤ) → Greatest f t (greatest_outside f t) × Least f t (least_outside f t)

-- q starts from e on can end by l exactly when q starts back from l can begin at or after e
abbrev pub BackwardAndForward : Type 0
BackwardAndForward =
    (p : ℤ) (f : List Span) (e l : ℤ) (q : ℕ) →
    pos 1 ≤ℤ p →
    (forward p f e (suc q) ≤ℤ l → e ≤ℤ backward p f l (suc q)) × (e ≤ℤ backward p f l (suc q) → forward p f e (suc q) ≤ℤ l)
