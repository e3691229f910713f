-- One turn of the reckoning: the values stay right, and what is left to do is what was left before.
use Rattle.std.proofs.Common.{◌≡◌, ℕ, zero, suc, ◌+◌, ◌<◌, ◌≤◌, Bool, true, false, cond, List, [], ◌∷◌, ◌++◌, map, reverse, length, ℤ, pos, negsuc, ◌+ℤ◌, ◌-ℤ◌, ◌≤ℤ◌, ◌<ℤ◌, Some, None, fold, Option, sym, refl, ap, ◌∙◌, subst, arith, w64, to_z, of_z}
use Rattle.std.proofs.lemmas.List.{reverse-append}
use lib.Signed.{le_z, lt_z, mag}
use Rattle.std.specs.Int.{int_min}
use Rattle.std.specs.List.{AllByRecursion}
use Rattle.std.proofs.lemmas.Int.{ints}
use Rattle.std.proofs.ByRecursion.{folded_min_z_bounds, All-weaker}
use Rattle.std.proofs.lemmas.Bool.{cond-true, cond-false, and_parts}
use Rattle.field.specs.declared.window.Window.{Window}
use Rattle.theory.specs.declared.span.Span.{Span}
use Rattle.theory.specs.Orders.{counted, enclosed}
use Rattle.theory.specs.Closed.{backward}
use Rattle.theory.specs.Method.{backwards, then, steps, forbidden}
use Rattle.theory.proofs.Settled.{count_none}
use Rattle.theory.proofs.Closed.{leZ_true}
use Rattle.reckoning.specs.Values.{Fit, Timed, Kept, rest, kept, kept_of, lows, Next, Pace, Near}
use Rattle.reckoning.proofs.StepsBack.{back_stays, lows_all, lows_backwards, join_capped, closing, lt_z_yes, lt_z_no, back_le, map_alike, each, map_all, valued}
use Rattle.reckoning.proofs.Plain.{real}
use Rattle.reckoning.proofs.Rest.{all_left, left_length}

-- where the reckoning stands once the earlies from b on are done and f is closed
pub record Along (p : ℤ) (ws : List Window) (b : ℤ) (f : List Span) : Type 0 where
  pub left : steps p ws (rest ws b) f ≡ forbidden p ws
  pub ends : AllByRecursion (λ s. b ≤ℤ (s.last +ℤ pos 1)) f
  pub room : length f + length (rest ws b) ≤ length ws
  pub high : b ≤ℤ pos 86401

module _ (p : ℤ) (pace : Pace p) (ws : List Window) (timed : AllByRecursion Timed ws) where
  early_high : AllByRecursion (λ w. w.early <ℤ pos 86401) ws
  early_high = All-weaker Timed (λ w. w.early <ℤ pos 86401) (λ w t. omega (arith, ints, t.1)) ws timed

  pub setting_out : Along p ws (pos 86401) []
  unfolding forbidden
  setting_out = record {
    left = ap (λ rs. steps p ws rs []) (all_left ws early_high);
    ends = tt;
    room = let a = left_length ws early_high in omega (arith, a);
    high = omega (arith, ints);
  }

  -- the values before any window has come in
  pub first_kept : map (λ w. valued w.late (w.late +ℤ p)) ws ≡ kept p ws [] (pos 86401)
  unfolding kept backward
  first_kept = map_alike (λ w. valued w.late (w.late +ℤ p)) (kept_of p ws [] (pos 86401)) ws (each (λ w. valued w.late (w.late +ℤ p) ≡ kept_of p ws [] (pos 86401) w) (λ w. ap (λ n. valued w.late (backward p [] w.late n)) (sym (none w.late))) ws)
    where
      none : (l : ℤ) → counted ws (pos 86401) l ≡ 0
      none l =
          let h = count_none (enclosed (pos 86401) l) ws (All-weaker (λ w. w.early <ℤ pos 86401) (λ w. enclosed (pos 86401) l w ≡ true → ⊥) (λ w k e. let q = leZ_true (pos 86401) w.early (and_parts (le_z (pos 86401) w.early) (le_z w.late l) e).0 in omega (arith, ints)) ws early_high) in
          omega (arith, h)

  -- the values once the windows at r may come in
  pub coming : (b r : ℤ) (f : List Span) → Next ws b r → kept p ws f b ≡ kept p ws f (r +ℤ pos 1)
  unfolding kept
  coming b r f n = map_alike (kept_of p ws f b) (kept_of p ws f (r +ℤ pos 1)) ws (each (λ w. kept_of p ws f b w ≡ kept_of p ws f (r +ℤ pos 1) w) (λ w. ap (λ n. valued w.late (backward p f w.late n)) (n.same w.late)) ws)

  -- what the step at r leaves to do
  after_step : (b r m : ℤ) (f : List Span) → Along p ws b f → Next ws b r → m ≡ fold int_min (r +ℤ p) (lows (kept p ws f r)) → then (closing p r m f) (λ g. steps p ws (rest ws r) g) ≡ forbidden p ws
  unfolding steps kept
  after_step b r m f a n e =
      let go : List Span → Option (List Span) = λ g. steps p ws (rest ws r) g in
      let x = lows_backwards p ws f r ws pace.0 in
      let y = join_capped p r (backwards p ws r f ws) f pace.0 in
      ap (λ z. then (closing p r z f) go) (e ∙ ap (fold int_min (r +ℤ p)) x)
      ∙ ap (λ z. then z go) (sym y)
      ∙ ap (λ rs. steps p ws rs f) (sym n.split)
      ∙ a.left

  pub failing : (b r m : ℤ) (f : List Span) → Along p ws b f → Next ws b r → m ≡ fold int_min (r +ℤ p) (lows (kept p ws f r)) → m <ℤ r → forbidden p ws ≡ None
  failing b r m f a n e h =
      let go : List Span → Option (List Span) = λ g. steps p ws (rest ws r) g in
      let s : Span = record { first = (m -ℤ p) +ℤ pos 1; last = r -ℤ pos 1 } in
      let o : Option (List Span) = None in
      let c : closing p r m f ≡ None = cond-true (lt_z m r) o (cond (lt_z s.last s.first) (Some f) (Some (s ∷ f))) (lt_z_yes m r h) in
      sym (after_step b r m f a n e) ∙ ap (λ z. then z go) c

  -- the span that joins
  abbrev pub joining : ℤ → ℤ → Span
  joining m r = record { first = (m -ℤ p) +ℤ pos 1; last = r -ℤ pos 1 }

  -- it joins unless it is empty
  abbrev pub grown : ℤ → ℤ → List Span → List Span
  grown m r f = cond (lt_z (joining m r).last (joining m r).first) f (joining m r ∷ f)

  -- at r: all that is kept is at r or after it, so that the span which joins leaves it as it is
  pub stays : (r m : ℤ) (f : List Span) (s : Span) → m ≡ fold int_min (r +ℤ p) (lows (kept p ws f r)) → r ≤ℤ m → s.last <ℤ r → kept p ws f r ≡ kept p ws (s ∷ f) r
  unfolding kept backward
  stays r m f s e h l =
      map_alike (kept_of p ws f r) (kept_of p ws (s ∷ f) r) ws
      (All-weaker
      (λ w. backward p f w.late (counted ws r w.late) ≤ℤ w.late → m ≤ℤ backward p f w.late (counted ws r w.late))
      (λ w. kept_of p ws f r w ≡ kept_of p ws (s ∷ f) r w)
      (λ w k. ap (valued w.late) (sym (go w.late (counted ws r w.late) k)))
      ws
      (map_all (λ k. k.value ≤ℤ k.late → m ≤ℤ k.value) (kept_of p ws f r) ws (lows_all (λ x. m ≤ℤ x) (map (kept_of p ws f r) ws) (folded_min_z_bounds (r +ℤ p) (lows (map (kept_of p ws f r) ws)) m e).1)))
    where
      go : (t : ℤ) (n : ℕ) → (backward p f t n ≤ℤ t → m ≤ℤ backward p f t n) → backward p (s ∷ f) t n ≡ backward p f t n
      go t zero k = refl
      go t (suc n) k = let v = k (back_le p f t n pace.0) in back_stays p s f t (suc n) pace.0 (omega (arith, ints, v))

  -- what the code keeps stays right as the span joins
  pub stays_grown : (r m : ℤ) (f : List Span) → m ≡ fold int_min (r +ℤ p) (lows (kept p ws f r)) → r ≤ℤ m → kept p ws f r ≡ kept p ws (grown m r f) r
  stays_grown r m f e h = go (lt_z (joining m r).last (joining m r).first)
    where
      go : (b : Bool) → kept p ws f r ≡ kept p ws (cond b f (joining m r ∷ f)) r
      go true = refl
      go false = stays r m f (joining m r) e h (omega (arith, ints))

  pub going_on : (b r m : ℤ) (f : List Span) → Along p ws b f → Next ws b r → m ≡ fold int_min (r +ℤ p) (lows (kept p ws f r)) → r ≤ℤ m → Along p ws r (grown m r f)
  going_on b r m f a n e h =
      let s = joining m r in
      let go : List Span → Option (List Span) = λ g. steps p ws (rest ws r) g in
      let o : Option (List Span) = None in
      let c = cond-false (lt_z m r) o (cond (lt_z s.last s.first) (Some f) (Some (s ∷ f))) (lt_z_no m r h) in
      let on = sym (ap (λ z. then z go) c) ∙ after_step b r m f a n e in
      choose (lt_z s.last s.first) on (ap length n.split)
    where
      ended : AllByRecursion (λ s. r ≤ℤ (s.last +ℤ pos 1)) f
      ended = All-weaker (λ s. b ≤ℤ (s.last +ℤ pos 1)) (λ s. r ≤ℤ (s.last +ℤ pos 1)) (λ s z. omega (arith, ints, n.under)) f a.ends

      choose : (t : Bool) → then (cond t (Some f) (Some (joining m r ∷ f))) (λ g. steps p ws (rest ws r) g) ≡ forbidden p ws → length (rest ws b) ≡ suc (length (rest ws r)) → Along p ws r (cond t f (joining m r ∷ f))
      choose true on len = record { left = on; ends = ended; room = omega (arith, a.room, len); high = omega (arith, ints, n.under, a.high) }
      choose false on len = record { left = on; ends = (omega (arith, ints), ended); room = omega (arith, a.room, len); high = omega (arith, ints, n.under, a.high) }

  -- the span that joins ends before the others, and fits
  pub joins : (b r m : ℤ) (f : List Span) → Along p ws b f → Next ws b r → r ≤ℤ m → AllByRecursion (λ o. (joining m r).last <ℤ o.last) f × Fit (joining m r)
  joins b r m f a n h = (
    All-weaker (λ s. b ≤ℤ (s.last +ℤ pos 1)) (λ o. (joining m r).last <ℤ o.last) (λ s z. omega (arith, ints, n.under)) f a.ends,
    (omega (arith, ints, n.over, h, pace.1), omega (arith, ints, n.under, a.high)),
  )

  pub done : (b : ℤ) (f : List Span) → Along p ws b f → rest ws b ≡ [] → forbidden p ws ≡ Some f
  unfolding steps
  done b f a e = sym a.left ∙ ap (λ rs. steps p ws rs f) e

-- ---- the same for what the code holds

pub near_real : (z : ℤ) → negsuc 999999 ≤ℤ z → z ≤ℤ pos 1000000 → to_z w64 (of_z w64 z) ≡ z
near_real z a b = omega (arith, ints)

pub early_real : (p : ℤ) (ws : List Window) (b r : ℤ) (f : List Span) → Along p ws b f → Next ws b r → to_z w64 (of_z w64 r) ≡ r
early_real p ws b r f a n = near_real r (omega (arith, ints, n.over)) (omega (arith, ints, n.under, a.high))

pub next_real : (p : ℤ) (ws : List Window) (b r : ℤ) (f : List Span) → Along p ws b f → Next ws b r → Next ws b (to_z w64 (of_z w64 r))
next_real p ws b r f a n = subst (Next ws b) (sym (early_real p ws b r f a n)) n

pub cap_real : (p : ℤ) (ws : List Window) (b r : ℤ) (f : List Span) → Pace p → Along p ws b f → Next ws b r → to_z w64 (of_z w64 (r +ℤ p)) ≡ r +ℤ p
cap_real p ws b r f h a n = near_real (r +ℤ p) (omega (arith, ints, n.over, h.0)) (omega (arith, ints, n.under, a.high, h.1))

pub capped_high : (p r m : ℤ) (xs : List ℤ) → m ≡ fold int_min (r +ℤ p) xs → m ≤ℤ (r +ℤ p)
capped_high p r m xs e = (folded_min_z_bounds (r +ℤ p) xs m e).0

pub grown_is : (xs ys : List Span) (s : Span) (t : Bool) → ys ≡ cond t xs (xs ++ s ∷ []) → reverse ys ≡ cond t (reverse xs) (s ∷ reverse xs)
grown_is xs ys s true e = ap reverse e
grown_is xs ys s false e = ap reverse e ∙ reverse-append xs (s ∷ [])

pub near_all : (p b r m : ℤ) → Pace p → negsuc 86399 ≤ℤ r → r <ℤ b → b ≤ℤ pos 86401 → m ≤ℤ (r +ℤ p) → r ≤ℤ m → Near m × Near p × Near r
near_all p b r m h o u k l g = ((omega (arith, ints), omega (arith, ints, h.1)), (omega (arith, ints, h.0), omega (arith, ints, h.1)), (omega (arith, ints), omega (arith, ints)))

-- the least value, as the code finds it among what is kept
pub least_real : (p q : ℤ) (ws : List Window) (b r m : ℤ) (f : List Span) (ks : List Kept) → Pace p → mag q < 9223372036854775808 → q ≡ p → Along p ws b f → Next ws b r → ks ≡ kept p ws f r → mag m < 9223372036854775808 → m ≡ fold int_min (to_z w64 (of_z w64 (r +ℤ to_z w64 (of_z w64 q)))) (lows ks) → to_z w64 (of_z w64 m) ≡ fold int_min (r +ℤ p) (lows (kept p ws f r))
least_real p q ws b r m f ks h i d a n k j e =
    real m j
    ∙ e
    ∙ ap (λ z. fold int_min (to_z w64 (of_z w64 (r +ℤ z))) (lows ks)) (real q i ∙ d)
    ∙ ap (λ z. fold int_min z (lows ks)) (cap_real p ws b r f h a n)
    ∙ ap (λ z. fold int_min (r +ℤ p) (lows z)) k
