-- A closed set of times, as a list of spans in any order, and starts that keep outside it.
use Rattle.std.specs.Prelude.{ℕ, zero, suc, Bool, cond, ◌&&◌, ◌⊎◌, List, [], ◌∷◌, ℤ, pos, ◌+ℤ◌, ◌-ℤ◌, ◌<ℤ◌, int_le}
use Rattle.std.specs.List.{AllByRecursion}
-- the times first..last, both included
use Rattle.theory.specs.declared.span.Span.{Span}

abbrev pub covers : Span → ℤ → Bool
covers s t = int_le s.first t && int_le t s.last

abbrev pub Off : ℤ → Span → Type 0
Off t s = (t <ℤ s.first) ⊎ (s.last <ℤ t)

-- t is in none of the spans
abbrev pub Outside : List Span → ℤ → Type 0
Outside f t = AllByRecursion (Off t) f

-- the greatest time at or before t outside the spans: u is it for the later spans, and where the first
-- span covers u, it is theirs from just before that span
unfoldable pub greatest_outside : List Span → ℤ → ℤ
greatest_outside [] t = t
greatest_outside (s ∷ f) t = let u = greatest_outside f t in let v = greatest_outside f (s.first -ℤ pos 1) in cond (covers s u) v u

-- the least time at or after t outside the spans
unfoldable pub least_outside : List Span → ℤ → ℤ
least_outside [] t = t
least_outside (s ∷ f) t = let u = least_outside f t in let v = least_outside f (s.last +ℤ pos 1) in cond (covers s u) v u

-- Backward(F, l, q): of q starts outside the spans, the first at or before l and each p before the last
-- one, the earliest. None of them is l + p, so that the first of all is p before that.
unfoldable pub backward : ℤ → List Span → ℤ → ℕ → ℤ
backward p f l zero = l +ℤ p
backward p f l (suc q) = greatest_outside f (backward p f l q -ℤ p)

-- Forward(F, e, q): of q starts outside the spans, the first at or after e and each p after the last
-- one, the latest. None of them is e - p.
unfoldable pub forward : ℤ → List Span → ℤ → ℕ → ℤ
forward p f e zero = e -ℤ p
forward p f e (suc q) = least_outside f (forward p f e q +ℤ p)
