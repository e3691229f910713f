-- What the method leaves behind where it does not fail: room for the windows from each time on.
use Rattle.std.proofs.Common.{◌≡◌, ℕ, zero, suc, ◌<◌, ◌≤◌, Bool, true, false, cond, eqb, ◌⊎◌, List, [], ◌∷◌, ℤ, pos, ◌+ℤ◌, ◌-ℤ◌, ◌≤ℤ◌, ◌<ℤ◌, Some, None, fold, Option, refl, subst, inl, inr, ⊎_elim, arith}
use lib.Signed.{le_z, lt_z}
use Rattle.std.specs.Int.{int_min}
use Rattle.std.specs.List.{AllByRecursion}
use Rattle.std.proofs.lemmas.Int.{ints, by_lt_z}
use Rattle.std.proofs.ByRecursion.{folded_min_z_bounds, All-weaker}
use Rattle.std.proofs.lemmas.Bool.{cond_both, eqb-true, and_parts, and_from}
use Rattle.field.specs.declared.window.Window.{Window}
use Rattle.theory.specs.Orders.{count, enclosed, counted}
use Rattle.theory.specs.declared.span.Span.{Span}
use Rattle.theory.specs.Closed.{Outside, backward}
use Rattle.theory.specs.Method.{put, earlies, backwards, settle, join, then, steps, forbidden}
use Rattle.theory.proofs.Closed.{leZ_true, ltZ_true, ltZ_false, Fits, fits_back, fits_down, fits_less, fits_more}

-- ---- the earlies

abbrev pub Falling : List ℤ → Type 0
Falling [] = Unit {0}
Falling (x ∷ xs) = AllByRecursion (λ y. y <ℤ x) xs × Falling xs

all_put : (P : ℤ → Type 0) (r : ℤ) (xs : List ℤ) → P r → AllByRecursion P xs → AllByRecursion P (put r xs)
unfolding put
all_put P r [] h a = (h, tt)
all_put P r (x ∷ xs) h a =
    cond_both
    (lt_z x r)
    (r ∷ x ∷ xs)
    (cond (lt_z r x) (x ∷ put r xs) (x ∷ xs))
    (AllByRecursion P)
    (λ e. (h, a))
    (λ e. cond_both (lt_z r x) (x ∷ put r xs) (x ∷ xs) (AllByRecursion P) (λ d. (a.0, all_put P r xs h a.1)) (λ d. a))

falling_put : (r : ℤ) (xs : List ℤ) → Falling xs → Falling (put r xs)
unfolding put
falling_put r [] h = (tt, tt)
falling_put r (x ∷ xs) h =
    cond_both
    (lt_z x r)
    (r ∷ x ∷ xs)
    (cond (lt_z r x) (x ∷ put r xs) (x ∷ xs))
    Falling
    (λ e.
    let k = ltZ_true x r e in
    ((k, All-weaker (λ y. y <ℤ x) (λ y. y <ℤ r) (λ y w. omega (arith, ints)) xs h.0), h))
    (λ e.
    cond_both
    (lt_z r x)
    (x ∷ put r xs)
    (x ∷ xs)
    Falling
    (λ d. (all_put (λ y. y <ℤ x) r xs (ltZ_true r x d) h.0, falling_put r xs h.1))
    (λ d. h))

pub falling_earlies : (ws : List Window) → Falling (earlies ws)
unfolding earlies
falling_earlies [] = tt
falling_earlies (w ∷ ws) = falling_put w.early (earlies ws) (falling_earlies ws)

has_put : (P : ℤ → Type 0) (r : ℤ) (xs : List ℤ) → AllByRecursion P (put r xs) → P r × AllByRecursion P xs
unfolding put
has_put P r [] a = (a.0, tt)
has_put P r (x ∷ xs) a = go (has_put P r xs) (lt_z x r) (lt_z r x) refl refl a
  where
    go : (AllByRecursion P (put r xs) → P r × AllByRecursion P xs) → (b c : Bool) → lt_z x r ≡ b → lt_z r x ≡ c → AllByRecursion P (cond b (r ∷ x ∷ xs) (cond c (x ∷ put r xs) (x ∷ xs))) → P r × AllByRecursion P (x ∷ xs)
    go ih true c d e a = (a.0, a.1)
    go ih false true d e a = let k = ih a.1 in (k.0, (a.0, k.1))
    go ih false false d e a =
        let h = ltZ_false x r d in
        let k = ltZ_false r x e in
        let q : x ≡ r = omega (arith, ints) in
        (subst P q a.0, a)

pub has_earlies : (P : ℤ → Type 0) (ws : List Window) → AllByRecursion P (earlies ws) → AllByRecursion (λ u. P u.early) ws
unfolding earlies
has_earlies P [] a = tt
has_earlies P (w ∷ ws) a = let k = has_put P w.early (earlies ws) a in (k.0, has_earlies P ws k.1)

-- ---- counts

pub count_le : (f g : Window → Bool) (ws : List Window) → AllByRecursion (λ u. f u ≡ true → g u ≡ true) ws → count f ws ≤ count g ws
count_le f g [] a = omega arith
count_le f g (w ∷ ws) a = go (f w) (g w) a.0 (count_le f g ws a.1)
  where
    go : (b c : Bool) → (b ≡ true → c ≡ true) → count f ws ≤ count g ws → cond b (suc (count f ws)) (count f ws) ≤ cond c (suc (count g ws)) (count g ws)
    go true true h k = omega arith
    go true false h k = let z : ◌≡◌ {A = Bool} false true = h refl in let y : ◌≡◌ {A = ℕ} 0 1 = cc in omega arith
    go false true h k = omega arith
    go false false h k = k

pub count_none : (f : Window → Bool) (ws : List Window) → AllByRecursion (λ u. f u ≡ true → ⊥) ws → count f ws ≤ 0
count_none f [] a = omega arith
count_none f (w ∷ ws) a = go (f w) a.0 (count_none f ws a.1)
  where
    go : (b : Bool) → (b ≡ true → ⊥) → count f ws ≤ 0 → cond b (suc (count f ws)) (count f ws) ≤ 0
    go true h k = absurd (h refl)
    go false h k = k

-- of the earlies from a on, the least, or there is none
pub least_from : (P : ℤ → Type 0) (a : ℤ) (ws : List Window) → AllByRecursion (λ u. P u.early) ws → AllByRecursion (λ u. u.early <ℤ a) ws ⊎ ((r : ℤ) × (a ≤ℤ r) × P r × AllByRecursion (λ u. (u.early <ℤ a) ⊎ (r ≤ℤ u.early)) ws)
least_from P a [] h = inl tt
least_from P a (w ∷ ws) h =
    ⊎_elim
    (λ n.
    by_lt_z
    w.early
    a
    (λ k. inl (k, n))
    (λ k. inr (w.early, k, h.0, (inr (omega (arith, ints)), All-weaker (λ u. u.early <ℤ a) (λ u. (u.early <ℤ a) ⊎ (w.early ≤ℤ u.early)) (λ u q. inl q) ws n))))
    (λ s.
    let r = s.0 in
    by_lt_z
    w.early
    a
    (λ k. inr (r, s.1, s.2, (inl k, s.3)))
    (λ k.
    by_lt_z
    w.early
    r
    (λ q. inr (w.early, k, h.0, (inr (omega (arith, ints)), All-weaker (λ u. (u.early <ℤ a) ⊎ (r ≤ℤ u.early)) (λ u. (u.early <ℤ a) ⊎ (w.early ≤ℤ u.early)) (λ u z. ⊎_elim inl (λ y. inr (omega (arith, ints))) z) ws s.3)))
    (λ q. inr (r, s.1, s.2, (inr q, s.3)))))
    (least_from P a ws h.1)

-- ---- an early that is dealt with

module _ (p : ℤ) (pace : pos 1 ≤ℤ p) (ws : List Window) where
  -- there is room at x for the windows from r on
  abbrev pub Room : List Span → ℤ → ℤ → Type 0
  Room f r x = AllByRecursion (λ u. Fits p f x (counted ws r u.late) u.late) ws

  -- there is room from r up to some m, and whatever starts before r outside the spans ends by m
  abbrev pub Settled : List Span → ℤ → Type 0
  Settled f r = (m : ℤ) × (r ≤ℤ m) × ((a : ℤ) → r ≤ℤ a → a ≤ℤ m → Room f r a) × ((t : ℤ) → Outside f t → t <ℤ r → (t +ℤ p) ≤ℤ m)

  room_more : (f : List Span) (s : Span) (r x : ℤ) → s.last <ℤ x → Room f r x → Room (s ∷ f) r x
  room_more f s r x h a =
      All-weaker
      (λ u. Fits p f x (counted ws r u.late) u.late)
      (λ u. Fits p (s ∷ f) x (counted ws r u.late) u.late)
      (λ u k. fits_more p pace f s u.late (counted ws r u.late) x h k)
      ws
      a

  settled_more : (f : List Span) (s : Span) (r : ℤ) → s.last <ℤ r → Settled f r → Settled (s ∷ f) r
  settled_more f s r h q = (q.0, q.1, (λ a k l. room_more f s r a (omega (arith, ints)) (q.2 a k l)), (λ t o k. q.3 t o.1 k))

  -- ---- one step

  fit_at : (f : List Span) (l m a : ℤ) (n : ℕ) → (0 < n → m ≤ℤ backward p f l n) → a ≤ℤ m → Fits p f a n l
  fit_at f l m a zero h k = tt
  fit_at f l m a (suc n) h k = let j = h (omega arith) in fits_back p pace f l (suc n) a (omega (arith, ints))

  room_backwards : (r m : ℤ) (f : List Span) (us : List Window) → AllByRecursion (λ b. m ≤ℤ b) (backwards p ws r f us) → (a : ℤ) → a ≤ℤ m → AllByRecursion (λ u. Fits p f a (counted ws r u.late) u.late) us
  unfolding backwards
  room_backwards r m f [] h a k = tt
  room_backwards r m f (u ∷ us) h a k = go (λ g. room_backwards r m f us g a k) (eqb (counted ws r u.late) 0) refl h
    where
      more : List ℤ
      more = backwards p ws r f us

      b : ℤ
      b = backward p f u.late (counted ws r u.late)

      go : (AllByRecursion (λ b. m ≤ℤ b) more → AllByRecursion (λ u. Fits p f a (counted ws r u.late) u.late) us) → (t : Bool) → eqb (counted ws r u.late) 0 ≡ t → AllByRecursion (λ b. m ≤ℤ b) (cond t more (b ∷ more)) → AllByRecursion (λ u. Fits p f a (counted ws r u.late) u.late) (u ∷ us)
      go ih true e g = (fit_at f u.late m a (counted ws r u.late) (λ z. absurd (omega (arith, eqb-true (counted ws r u.late) 0 e))) k, ih g)
      go ih false e g = (fit_at f u.late m a (counted ws r u.late) (λ z. g.0) k, ih g.1)

  -- r is settled, and so are those settled before, from r on
  abbrev Next : List Span → ℤ → List Span → Type 0
  Next f r g = Settled g r × ((q : ℤ) → r ≤ℤ q → Settled f q → Settled g q)

  abbrev Maybe : (List Span → Type 0) → Option (List Span) → Type 0
  Maybe P None = Unit {0}
  Maybe P (Some g) = P g

  next_settle : (r m : ℤ) (f : List Span) → ((a : ℤ) → a ≤ℤ m → Room f r a) → Maybe (Next f r) (settle p r m f)
  unfolding settle
  next_settle r m f room =
      let s : Span = record { first = (m -ℤ p) +ℤ pos 1; last = r -ℤ pos 1 } in
      let joined : Option (List Span) = cond (lt_z s.last s.first) (Some f) (Some (s ∷ f)) in
      let kept : (q : ℤ) → r ≤ℤ q → Settled f q → Settled f q = λ q k z. z in
      cond_both
      (lt_z m r)
      None
      (cond (lt_z m (r +ℤ p)) joined (Some f))
      (Maybe (Next f r))
      (λ e. tt)
      (λ e.
      let low = ltZ_false m r e in
      cond_both
      (lt_z m (r +ℤ p))
      joined
      (Some f)
      (Maybe (Next f r))
      (λ d.
      cond_both
      (lt_z s.last s.first)
      (Some f)
      (Some (s ∷ f))
      (Maybe (Next f r))
      (λ c. let h = ltZ_true s.last s.first c in ((m, low, (λ a k l. room a l), (λ t o k. omega (arith, ints))), kept))
      (λ c. (
        (m, low, (λ a k l. room_more f s r a (omega (arith, ints)) (room a l)), (λ t o k. omega (arith, ints, o.0))),
        (λ q k z. settled_more f s q (omega (arith, ints)) z),
      )))
      (λ d. let h = ltZ_false m (r +ℤ p) d in ((m, low, (λ a k l. room a l), (λ t o k. omega (arith, ints))), kept)))

  next_join : (r : ℤ) (f : List Span) (bs : List ℤ) → ((m : ℤ) → AllByRecursion (λ b. m ≤ℤ b) bs → (a : ℤ) → a ≤ℤ m → Room f r a) → Maybe (Next f r) (join p r bs f)
  unfolding join
  next_join r f [] room = ((r +ℤ p, omega (arith, ints), (λ a k l. room (r +ℤ p) tt a l), (λ t o k. omega (arith, ints))), (λ q k z. z))
  next_join r f (b ∷ bs) room =
      next_settle r (fold int_min b bs) f (room (fold int_min b bs) (folded_min_z_bounds b bs (fold int_min b bs) refl))

  -- ---- all steps

  abbrev Done : List ℤ → List Span → List Span → Type 0
  Done rs f g = AllByRecursion (Settled g) rs × ((q : ℤ) → AllByRecursion (λ r. r ≤ℤ q) rs → Settled f q → Settled g q)

  done_then : (r : ℤ) (rs : List ℤ) (f : List Span) → AllByRecursion (λ y. y <ℤ r) rs → (s : Option (List Span)) (go : List Span → Option (List Span)) → Maybe (Next f r) s → ((h : List Span) → Maybe (Done rs h) (go h)) → Maybe (Done (r ∷ rs) f) (then s go)
  done_then r rs f lower None go n k = tt
  done_then r rs f lower (Some h) go n k = last (go h) (k h)
    where
      last : (o : Option (List Span)) → Maybe (Done rs h) o → Maybe (Done (r ∷ rs) f) o
      last None d = tt
      last (Some g) d = (
        (d.1 r (All-weaker (λ y. y <ℤ r) (λ y. y ≤ℤ r) (λ y z. omega (arith, ints)) rs lower) n.0, d.0),
        (λ q a z. d.1 q a.1 (n.1 q a.0 z)),
      )

  done_steps : (rs : List ℤ) (f : List Span) → Falling rs → Maybe (Done rs f) (steps p ws rs f)
  unfolding steps
  done_steps [] f h = (tt, (λ q a z. z))
  done_steps (r ∷ rs) f h =
      done_then
      r
      rs
      f
      h.0
      (join p r (backwards p ws r f ws) f)
      (λ g. steps p ws rs g)
      (next_join r f (backwards p ws r f ws) (λ m b a k. room_backwards r m f ws b a k))
      (λ g. done_steps rs g h.1)

  pub settled : (f : List Span) → forbidden p ws ≡ Some f → AllByRecursion (λ u. Settled f u.early) ws
  unfolding forbidden
  settled f e =
      let d : Done (earlies ws) [] f = subst (Maybe (Done (earlies ws) [])) e (done_steps (earlies ws) [] (falling_earlies ws)) in
      has_earlies (Settled f) ws d.0

  -- ---- room at any time

  settled_room : (f : List Span) (r : ℤ) (q : Settled f r) (x : ℤ) → x ≤ℤ q.0 → Room f r x
  settled_room f r q x h =
      by_lt_z
      x
      r
      (λ k.
      All-weaker
      (λ u. Fits p f r (counted ws r u.late) u.late)
      (λ u. Fits p f x (counted ws r u.late) u.late)
      (λ u z. fits_down p pace f u.late (counted ws r u.late) x r (omega (arith, ints)) z)
      ws
      (q.2 r (omega (arith, ints)) q.1))
      (λ k. q.2 x k h)

  enclosed_early : (a l : ℤ) (u : Window) → enclosed a l u ≡ true → (a ≤ℤ u.early) × (le_z u.late l ≡ true)
  enclosed_early a l u e =
      let k = and_parts (le_z a u.early) (le_z u.late l) e in
      (leZ_true a u.early k.0, k.1)

  -- the windows from a on are those from r on, where no early lies between
  counted_le : (a r l : ℤ) → AllByRecursion (λ u. (u.early <ℤ a) ⊎ (r ≤ℤ u.early)) ws → counted ws a l ≤ counted ws r l
  counted_le a r l h =
      count_le
      (enclosed a l)
      (enclosed r l)
      ws
      (All-weaker
      (λ u. (u.early <ℤ a) ⊎ (r ≤ℤ u.early))
      (λ u. enclosed a l u ≡ true → enclosed r l u ≡ true)
      (λ u z e.
      let k = enclosed_early a l u e in
      let j : r ≤ℤ u.early = omega (arith, ints, k.0) in
      and_from (le_z r u.early) (le_z u.late l) (grind (arith, ints)) k.1)
      ws
      h)

  -- x is a time up to which there is room for the windows from the next early after a
  room_from : (f : List Span) (a x : ℤ) → AllByRecursion (λ u. Settled f u.early) ws → ((r : ℤ) → a ≤ℤ r → (q : Settled f r) → x ≤ℤ q.0) → Room f a x
  room_from f a x h k =
      ⊎_elim
      (λ none. all_each (λ u. fits_less p pace f u.late (counted ws a u.late) 0 x (count_none (enclosed a u.late) ws (none_enclosed u.late none)) tt) ws)
      (λ s.
      All-weaker
      (λ u. Fits p f x (counted ws s.0 u.late) u.late)
      (λ u. Fits p f x (counted ws a u.late) u.late)
      (λ u z. fits_less p pace f u.late (counted ws a u.late) (counted ws s.0 u.late) x (counted_le a s.0 u.late s.3) z)
      ws
      (settled_room f s.0 s.2 x (k s.0 s.1 s.2)))
      (least_from (Settled f) a ws h)
    where
      none_enclosed : (l : ℤ) → AllByRecursion (λ u. u.early <ℤ a) ws → AllByRecursion (λ u. enclosed a l u ≡ true → ⊥) ws
      none_enclosed l n = All-weaker (λ u. u.early <ℤ a) (λ u. enclosed a l u ≡ true → ⊥) (λ u z e. let k = enclosed_early a l u e in omega (arith, ints)) ws n

      all_each : {P : Window → Type 0} → ((u : Window) → P u) → (us : List Window) → AllByRecursion P us
      all_each g [] = tt
      all_each g (u ∷ us) = (g u, all_each g us)

  -- K1
  pub room_at : (f : List Span) → forbidden p ws ≡ Some f → (a : ℤ) → Room f a a
  room_at f e a = room_from f a a (settled f e) (λ r h q. omega (arith, ints, q.1))

  -- K2
  pub room_after : (f : List Span) → forbidden p ws ≡ Some f → (t : ℤ) → Outside f t → Room f (t +ℤ pos 1) (t +ℤ p)
  room_after f e t o = room_from f (t +ℤ pos 1) (t +ℤ p) (settled f e) (λ r h q. q.3 t o (omega (arith, ints)))
