-- The method: the spans in which no order of play starts anything, or that there is no order of play.
use Rattle.std.specs.Prelude.{cond, List, [], ◌∷◌, ℤ, pos, ◌+ℤ◌, ◌-ℤ◌, Some, None, fold, Option, ◌==◌, int_lt}
use Rattle.std.specs.Int.{int_min}
use Rattle.field.specs.declared.window.Window.{Window}
use Rattle.theory.specs.declared.span.Span.{Span}
use Rattle.theory.specs.Orders.{counted}
use Rattle.theory.specs.Closed.{backward}

-- r put into a list that falls, unless it is there
unfoldable pub put : ℤ → List ℤ → List ℤ
put r [] = r ∷ []
put r (x ∷ xs) = let more = put r xs in cond (int_lt x r) (r ∷ x ∷ xs) (cond (int_lt r x) (x ∷ more) (x ∷ xs))

-- the distinct earlies, from greatest to least
unfoldable pub earlies : List Window → List ℤ
earlies [] = []
earlies (w ∷ ws) = put w.early (earlies ws)

-- Backward(F, l, n(r, l)) for the lates l of us. A late that encloses no group is not taken: it would
-- bound nothing, and could be before r.
unfoldable pub backwards : ℤ → List Window → ℤ → List Span → List Window → List ℤ
backwards p ws r f [] = []
backwards p ws r f (u ∷ us) =
    let n = counted ws r u.late in
    let b = backward p f u.late n in
    let more = backwards p ws r f us in
    cond (n == 0) more (b ∷ more)

-- what m says at the early r: below r there is no order; below r + p the span m - p + 1 .. r - 1 joins,
-- unless it is empty
unfoldable pub settle : ℤ → ℤ → ℤ → List Span → Option (List Span)
settle p r m f =
    let s : Span = record { first = (m -ℤ p) +ℤ pos 1; last = r -ℤ pos 1 } in
    cond (int_lt m r) None (cond (int_lt m (r +ℤ p)) (cond (int_lt s.last s.first) (Some f) (Some (s ∷ f))) (Some f))

-- the step at the early r: m is the least of them
unfoldable pub join : ℤ → ℤ → List ℤ → List Span → Option (List Span)
join p r [] f = Some f
join p r (b ∷ bs) f = settle p r (fold int_min b bs) f

-- what goes on from spans; with no order it stops
abbrev pub then : Option (List Span) → (List Span → Option (List Span)) → Option (List Span)
then None go = None
then (Some f) go = go f

-- the steps at the earlies rs, one after another, from the closed set f on
unfoldable pub steps : ℤ → List Window → List ℤ → List Span → Option (List Span)
steps p ws [] f = Some f
steps p ws (r ∷ rs) f = then (join p r (backwards p ws r f ws) f) (λ g. steps p ws rs g)

-- the finished closed set, the span found last at its head; None: the method fails
unfoldable pub forbidden : ℤ → List Window → Option (List Span)
forbidden p ws = steps p ws (earlies ws) []
