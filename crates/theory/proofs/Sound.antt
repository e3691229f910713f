-- If the method fails there is no order of play, and no order of play starts anything in its spans.
use Rattle.std.proofs.Common.{◌≡◌, ◌<◌, cond, eqb, ◌⊎◌, List, [], ◌∷◌, ℤ, pos, ◌+ℤ◌, ◌-ℤ◌, ◌≤ℤ◌, ◌<ℤ◌, Some, None, fold, Option, sym, refl, subst, inl, inr, ⊎_elim, arith}
use lib.Signed.{lt_z}
use Rattle.std.specs.Int.{int_min}
use Rattle.std.specs.List.{AllByRecursion}
use Rattle.std.proofs.lemmas.Int.{ints, by_lt_z}
use Rattle.std.proofs.ByRecursion.{folded_min_z_reached, All-weaker, all-has}
use Rattle.std.proofs.lemmas.Bool.{cond_both, eqb-false}
use Rattle.field.specs.declared.window.Window.{Window}
use Rattle.theory.specs.Orders.{Apart, OrderOfPlay, enclosed, counted}
use Rattle.theory.specs.declared.span.Span.{Span}
use Rattle.theory.specs.Closed.{Off, Outside, backward}
use Rattle.theory.specs.Method.{backwards, settle, join, then, steps, forbidden, earlies}
use Rattle.theory.proofs.Closed.{ltZ_true}
use Rattle.theory.proofs.Starts.{Ordered, from_order, taken, all_taken, taken_bounds, Rows, rows, order_back, all_both}

-- a step back that the method looks at
abbrev pub Back : ℤ → List Window → ℤ → List Span → ℤ → Type 0
Back p ws r f b = (l : ℤ) × (0 < counted ws r l) × (b ≡ backward p f l (counted ws r l))

pub backwards_are : (p : ℤ) (ws : List Window) (r : ℤ) (f : List Span) (us : List Window) → AllByRecursion (Back p ws r f) (backwards p ws r f us)
unfolding backwards
backwards_are p ws r f [] = tt
backwards_are p ws r f (u ∷ us) =
    let n = counted ws r u.late in
    let b = backward p f u.late n in
    let ih = backwards_are p ws r f us in
    cond_both (eqb n 0) (backwards p ws r f us) (b ∷ backwards p ws r f us) (AllByRecursion (Back p ws r f)) (λ e. ih) (λ e. ((u.late, omega (arith, eqb-false n 0 e), refl), ih))

-- what the method says, of starts: there are none, or they are outside its spans
abbrev pub Good : List ℤ → Option (List Span) → Type 0
Good xs None = ⊥
Good xs (Some f) = AllByRecursion (Outside f) xs

good_settle : (p r m : ℤ) (f : List Span) (xs : List ℤ) → AllByRecursion (Outside f) xs → r ≤ℤ m → AllByRecursion (λ x. (x <ℤ ((m -ℤ p) +ℤ pos 1)) ⊎ ((r -ℤ pos 1) <ℤ x)) xs → Good xs (settle p r m f)
unfolding settle
good_settle p r m f xs out h off =
    let s : Span = record { first = (m -ℤ p) +ℤ pos 1; last = r -ℤ pos 1 } in
    let a : Option (List Span) = cond (lt_z s.last s.first) (Some f) (Some (s ∷ f)) in
    let both = all_both (λ x. Off x s) (Outside f) (Outside (s ∷ f)) (λ x b c. (b, c)) xs off out in
    cond_both
    (lt_z m r)
    None
    (cond (lt_z m (r +ℤ p)) a (Some f))
    (Good xs)
    (λ e. let k = ltZ_true m r e in omega (arith, ints))
    (λ e.
    cond_both (lt_z m (r +ℤ p)) a (Some f) (Good xs) (λ d. cond_both (lt_z s.last s.first) (Some f) (Some (s ∷ f)) (Good xs) (λ c. out) (λ c. both)) (λ d. out))

module _ (p : ℤ) (pace : pos 1 ≤ℤ p) (ws : List Window) (xs : List ℤ) (o : Ordered p ws xs) where
  -- a start before r is p before all starts of the windows from r on
  early_start : (r l x : ℤ) → x <ℤ r → Rows p xs x → AllByRecursion (λ y. (x +ℤ p) ≤ℤ y) (taken (enclosed r l) ws xs)
  unfolding Rows
  early_start r l x h row =
      all_both
      (λ y. (x ≡ y) ⊎ Apart p x y)
      (λ y. (r ≤ℤ y) × (y ≤ℤ l))
      (λ y. (x +ℤ p) ≤ℤ y)
      (λ y a b. go y a b.0)
      (taken (enclosed r l) ws xs)
      (all_taken (λ y. (x ≡ y) ⊎ Apart p x y) (enclosed r l) ws xs row)
      (taken_bounds p r l ws xs o)
    where
      go : (y : ℤ) → (x ≡ y) ⊎ Apart p x y → r ≤ℤ y → (x +ℤ p) ≤ℤ y
      go y (inl e) b = omega (arith, ints)
      go y (inr (inl a)) b = a
      go y (inr (inr a)) b = omega (arith, ints)

  good_m : (r m : ℤ) (f : List Span) → AllByRecursion (Outside f) xs → Back p ws r f m → Good xs (settle p r m f)
  good_m r m f out b =
      let l = b.0 in
      let lo = order_back p f r l r ws xs pace o out b.1 (All-weaker (λ y. (r ≤ℤ y) × (y ≤ℤ l)) (λ y. r ≤ℤ y) (λ y w. w.0) (taken (enclosed r l) ws xs) (taken_bounds p r l ws xs o)) in
      let e = b.2 in
      good_settle
      p
      r
      m
      f
      xs
      out
      (subst (λ z. r ≤ℤ z) (sym e) lo)
      (All-weaker
      (Rows p xs)
      (λ x. (x <ℤ ((m -ℤ p) +ℤ pos 1)) ⊎ ((r -ℤ pos 1) <ℤ x))
      (λ x row.
      by_lt_z
      x
      r
      (λ h.
      let k = subst (λ z. (x +ℤ p) ≤ℤ z) (sym e) (order_back p f r l (x +ℤ p) ws xs pace o out b.1 (early_start r l x h row)) in
      inl (omega (arith, ints)))
      (λ h. inr (omega (arith, ints))))
      xs
      (rows p ws xs o))

  good_join : (r : ℤ) (f : List Span) (bs : List ℤ) → AllByRecursion (Outside f) xs → AllByRecursion (Back p ws r f) bs → Good xs (join p r bs f)
  unfolding join
  good_join r f [] out a = out
  good_join r f (b ∷ bs) out a =
      good_m
      r
      (fold int_min b bs)
      f
      out
      (⊎_elim
      (λ e. subst (Back p ws r f) (sym e) a.0)
      (λ h. all-has (Back p ws r f) bs (fold int_min b bs) a.1 h)
      (folded_min_z_reached b bs (fold int_min b bs) refl))

  good_then : (s : Option (List Span)) (go : List Span → Option (List Span)) → Good xs s → ((f : List Span) → AllByRecursion (Outside f) xs → Good xs (go f)) → Good xs (then s go)
  good_then None go g h = g
  good_then (Some f) go g h = h f g

  pub good_steps : (rs : List ℤ) (f : List Span) → AllByRecursion (Outside f) xs → Good xs (steps p ws rs f)
  unfolding steps
  good_steps [] f out = out
  good_steps (r ∷ rs) f out =
      good_then (join p r (backwards p ws r f ws) f) (λ g. steps p ws rs g) (good_join r f (backwards p ws r f ws) out (backwards_are p ws r f ws)) (λ g k. good_steps rs g k)

none_outside : (xs : List ℤ) → AllByRecursion (Outside []) xs
none_outside [] = tt
none_outside (x ∷ xs) = (tt, none_outside xs)

pub good : (p : ℤ) (ws : List Window) (xs : List ℤ) → pos 1 ≤ℤ p → OrderOfPlay p ws xs → Good xs (forbidden p ws)
unfolding forbidden
good p ws xs pace o = good_steps p pace ws xs (from_order p ws xs o) (earlies ws) [] (none_outside xs)
