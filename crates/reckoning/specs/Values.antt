-- Words of the code's own loops: the value that is kept for each place, and the earlies that are left.
use Rattle.std.specs.Prelude.{◌≡◌, cond, List, [], ◌∷◌, ℤ, pos, negsuc, ◌+ℤ◌, ◌-ℤ◌, ◌≤ℤ◌, ◌<ℤ◌, filter, int_le, int_lt, map}
use Rattle.std.specs.List.{AllByRecursion, AllByRecursion-prop}
use Rattle.std.specs.Coded.{×_prop, Unit-prop}
use Rattle.std.proofs.Props.{props}
use Rattle.theory.specs.Orders.{counted}
use Rattle.theory.specs.Closed.{greatest_outside, backward}
use Rattle.theory.specs.Method.{earlies}
use Rattle.field.specs.declared.window.Window.{Window}
use Rattle.theory.specs.declared.span.Span.{Span}

-- the newest span first: each ends before those found before it
abbrev pub Falling : List Span → Type 0
Falling [] = Unit {0}
Falling (s ∷ f) = AllByRecursion (λ o. s.last <ℤ o.last) f × Falling f

-- it has one proof at most
pub Falling-prop : (f : List Span) → IsProp (Falling f)
Falling-prop [] = Unit-prop
Falling-prop (s ∷ f) = ×_prop (AllByRecursion-prop (λ o. s.last <ℤ o.last) (λ o. Prim.hlevel props) f) (Falling-prop f)

-- -89999 is the least time that a span can begin at
abbrev pub Fit : Span → Type 0
Fit s = (negsuc 89998 ≤ℤ s.first) × (s.last ≤ℤ pos 86400)

abbrev pub InTime : ℤ → Type 0
InTime z = (negsuc 86399 ≤ℤ z) × (z ≤ℤ pos 86400)

abbrev pub Timed : Window → Type 0
Timed w = (negsuc 86399 ≤ℤ w.early) × (w.early ≤ℤ pos 86400) × (negsuc 86399 ≤ℤ w.late) × (w.late ≤ℤ pos 86400)

-- the earlies before b that are left, from greatest to least
unfoldable pub rest : List Window → ℤ → List ℤ
rest ws b = filter (λ x. int_lt x b) (earlies ws)

-- the late of a place, and the value kept for it
pub record Kept : Type 0 where
  pub late : ℤ
  pub value : ℤ

-- each value beside the late of its window
unfoldable pub paired : List Window → List ℤ → List Kept
paired [] vs = []
paired (w ∷ ws) [] = []
paired (w ∷ ws) (v ∷ vs) = record { late = w.late; value = v } ∷ paired ws vs

-- the value kept for a window once the windows from r on have come in
abbrev pub kept_of : ℤ → List Window → List Span → ℤ → Window → Kept
kept_of p ws f r w = record { late = w.late; value = backward p f w.late (counted ws r w.late) }

-- what is kept for each place
unfoldable pub kept : ℤ → List Window → List Span → ℤ → List Kept
kept p ws f r = map (kept_of p ws f r) ws

-- what is kept moves one step back where a window with the late l counts for it
abbrev pub moved : ℤ → List Span → ℤ → Kept → Kept
moved p f l k = record { late = k.late; value = cond (int_le l k.late) (greatest_outside f (k.value -ℤ p)) k.value }

-- the values that count a window: those at or before the late
unfoldable pub lows : List Kept → List ℤ
lows ks = map (λ k. k.value) (filter (λ k. int_le k.value k.late) ks)

-- r is the next early before b: what is left before b is r and what is left before r
pub record Next (ws : List Window) (b r : ℤ) : Type 0 where
  pub split : rest ws b ≡ r ∷ rest ws r
  pub under : r <ℤ b
  pub over : negsuc 86399 ≤ℤ r
  pub same : (l : ℤ) → counted ws b l ≡ counted ws (r +ℤ pos 1) l

-- far from the ends of 64 bits
abbrev pub Near : ℤ → Type 0
Near v = (negsuc 999999 ≤ℤ v) × (v ≤ℤ pos 1000000)

abbrev pub Pace : ℤ → Type 0
Pace p = (pos 1 ≤ℤ p) × (p ≤ℤ pos 3600)
