-- The look-ups tell the greatest and the least time outside the spans; steps back and forth.
use Rattle.std.proofs.Common.{◌≡◌, ℕ, zero, suc, ◌≤◌, true, false, List, [], ◌∷◌, ℤ, pos, ◌+ℤ◌, ◌-ℤ◌, ◌≤ℤ◌, ◌<ℤ◌, sym, ap, ◌∙◌, subst, inl, inr, ⊎_elim, arith}
use lib.Signed.{le_z, lt_z}
use Rattle.std.proofs.lemmas.Int.{ints}
use Rattle.std.proofs.lemmas.Bool.{cond_both, and_parts, and_cases}
use Rattle.theory.specs.declared.span.Span.{Span}
use Rattle.theory.specs.Closed.{covers, Off, Outside, greatest_outside, least_outside, backward, forward}

pub leZ_true : (a b : ℤ) → le_z a b ≡ true → a ≤ℤ b
leZ_true a b e = grind (arith, ints)

pub leZ_false : (a b : ℤ) → le_z a b ≡ false → b <ℤ a
leZ_false a b e = grind (arith, ints)

pub ltZ_true : (a b : ℤ) → lt_z a b ≡ true → a <ℤ b
ltZ_true a b e = grind (arith, ints)

pub ltZ_false : (a b : ℤ) → lt_z a b ≡ false → b ≤ℤ a
ltZ_false a b e = grind (arith, ints)

pub covers_true : (s : Span) (t : ℤ) → covers s t ≡ true → (s.first ≤ℤ t) × (t ≤ℤ s.last)
covers_true s t e =
    let h = and_parts (le_z s.first t) (le_z t s.last) e in
    (leZ_true s.first t h.0, leZ_true t s.last h.1)

pub covers_false : (s : Span) (t : ℤ) → covers s t ≡ false → Off t s
covers_false s t e =
    ⊎_elim (λ a. inl (leZ_false s.first t a)) (λ a. inr (leZ_false t s.last a)) (and_cases (le_z s.first t) (le_z t s.last) e)

pub greatest_le : (f : List Span) (t : ℤ) → greatest_outside f t ≤ℤ t
unfolding greatest_outside
greatest_le [] t = omega (arith, ints)
greatest_le (s ∷ f) t =
    let u = greatest_outside f t in
    let v = greatest_outside f (s.first -ℤ pos 1) in
    let hu = greatest_le f t in
    let hv = greatest_le f (s.first -ℤ pos 1) in
    cond_both (covers s u) v u (λ z. z ≤ℤ t) (λ e. omega (arith, ints, covers_true s u e)) (λ e. hu)

pub greatest_out : (f : List Span) (t : ℤ) → Outside f (greatest_outside f t)
unfolding greatest_outside
greatest_out [] t = tt
greatest_out (s ∷ f) t =
    let u = greatest_outside f t in
    let v = greatest_outside f (s.first -ℤ pos 1) in
    let hv = greatest_le f (s.first -ℤ pos 1) in
    cond_both (covers s u) v u (Outside (s ∷ f)) (λ e. (inl (omega (arith, ints)), greatest_out f (s.first -ℤ pos 1))) (λ e. (covers_false s u e, greatest_out f t))

-- a time outside the span and at most one that it covers is before it
before_span : (s : Span) (u y : ℤ) → (s.first ≤ℤ u) × (u ≤ℤ s.last) → y ≤ℤ u → Off y s → y ≤ℤ (s.first -ℤ pos 1)
before_span s u y c h (inl o) = omega (arith, ints)
before_span s u y c h (inr o) = omega (arith, ints)

after_span : (s : Span) (u y : ℤ) → (s.first ≤ℤ u) × (u ≤ℤ s.last) → u ≤ℤ y → Off y s → (s.last +ℤ pos 1) ≤ℤ y
after_span s u y c h (inl o) = omega (arith, ints)
after_span s u y c h (inr o) = omega (arith, ints)

pub greatest_most : (f : List Span) (t y : ℤ) → y ≤ℤ t → Outside f y → y ≤ℤ greatest_outside f t
unfolding greatest_outside
greatest_most [] t y h o = h
greatest_most (s ∷ f) t y h o =
    let u = greatest_outside f t in
    let v = greatest_outside f (s.first -ℤ pos 1) in
    let k = greatest_most f t y h o.1 in
    cond_both
    (covers s u)
    v
    u
    (λ z. y ≤ℤ z)
    (λ e. greatest_most f (s.first -ℤ pos 1) y (before_span s u y (covers_true s u e) k o.0) o.1)
    (λ e. k)

pub least_ge : (f : List Span) (t : ℤ) → t ≤ℤ least_outside f t
unfolding least_outside
least_ge [] t = omega (arith, ints)
least_ge (s ∷ f) t =
    let u = least_outside f t in
    let v = least_outside f (s.last +ℤ pos 1) in
    let hu = least_ge f t in
    let hv = least_ge f (s.last +ℤ pos 1) in
    cond_both (covers s u) v u (λ z. t ≤ℤ z) (λ e. omega (arith, ints, covers_true s u e)) (λ e. hu)

pub least_out : (f : List Span) (t : ℤ) → Outside f (least_outside f t)
unfolding least_outside
least_out [] t = tt
least_out (s ∷ f) t =
    let u = least_outside f t in
    let v = least_outside f (s.last +ℤ pos 1) in
    let hv = least_ge f (s.last +ℤ pos 1) in
    cond_both (covers s u) v u (Outside (s ∷ f)) (λ e. (inr (omega (arith, ints)), least_out f (s.last +ℤ pos 1))) (λ e. (covers_false s u e, least_out f t))

pub least_least : (f : List Span) (t y : ℤ) → t ≤ℤ y → Outside f y → least_outside f t ≤ℤ y
unfolding least_outside
least_least [] t y h o = h
least_least (s ∷ f) t y h o =
    let u = least_outside f t in
    let v = least_outside f (s.last +ℤ pos 1) in
    let k = least_least f t y h o.1 in
    cond_both
    (covers s u)
    v
    u
    (λ z. z ≤ℤ y)
    (λ e. least_least f (s.last +ℤ pos 1) y (after_span s u y (covers_true s u e) k o.0) o.1)
    (λ e. k)

pub least_mono : (f : List Span) (t u : ℤ) → t ≤ℤ u → least_outside f t ≤ℤ least_outside f u
least_mono f t u h =
    let k = least_ge f u in
    least_least f t (least_outside f u) (omega (arith, ints)) (least_out f u)

-- k starts from t on, outside the spans and p apart, all at most l
abbrev pub Fits : ℤ → List Span → ℤ → ℕ → ℤ → Type 0
Fits p f t zero l = Unit {0}
Fits p f t (suc k) l = (least_outside f t ≤ℤ l) × Fits p f (least_outside f t +ℤ p) k l

module _ (p : ℤ) (pace : pos 1 ≤ℤ p) where
  pub backward_le : (f : List Span) (l : ℤ) (k : ℕ) → backward p f l k ≤ℤ (l +ℤ p)
  unfolding backward
  backward_le f l zero = omega (arith, ints)
  backward_le f l (suc k) =
      let h = greatest_le f (backward p f l k -ℤ p) in
      let ih = backward_le f l k in
      omega (arith, ints)

  pub fits_back : (f : List Span) (l : ℤ) (k : ℕ) (t : ℤ) → t ≤ℤ backward p f l k → Fits p f t k l
  unfolding backward
  fits_back f l zero t h = tt
  fits_back f l (suc k) t h =
      let c = backward p f l k in
      let a = least_least f t (greatest_outside f (c -ℤ p)) h (greatest_out f (c -ℤ p)) in
      let b = greatest_le f (c -ℤ p) in
      let d = backward_le f l k in
      (omega (arith, ints), fits_back f l k (least_outside f t +ℤ p) (omega (arith, ints)))

  one_back : (f : List Span) (l : ℤ) (k : ℕ) (t : ℤ) → (least_outside f t +ℤ p) ≤ℤ backward p f l k → t ≤ℤ backward p f l (suc k)
  unfolding backward
  one_back f l k t h =
      let a = least_ge f t in
      let b = greatest_most f (backward p f l k -ℤ p) (least_outside f t) (omega (arith, ints)) (least_out f t) in
      omega (arith, ints)

  pub back_fits : (f : List Span) (l : ℤ) (k : ℕ) (t : ℤ) → Fits p f t (suc k) l → t ≤ℤ backward p f l (suc k)
  unfolding backward
  back_fits f l zero t h = one_back f l zero t (omega (arith, ints, h.0))
  back_fits f l (suc k) t h = one_back f l (suc k) t (back_fits f l k (least_outside f t +ℤ p) h.1)

  pub fits_down : (f : List Span) (l : ℤ) (k : ℕ) (t u : ℤ) → t ≤ℤ u → Fits p f u k l → Fits p f t k l
  fits_down f l zero t u h w = tt
  fits_down f l (suc k) t u h w =
      let a = least_mono f t u h in
      (omega (arith, ints), fits_down f l k (least_outside f t +ℤ p) (least_outside f u +ℤ p) (omega (arith, ints)) w.1)

  pub fits_less : (f : List Span) (l : ℤ) (j k : ℕ) (t : ℤ) → j ≤ k → Fits p f t k l → Fits p f t j l
  fits_less f l zero k t h w = tt
  fits_less f l (suc j) zero t h w = absurd (omega arith)
  fits_less f l (suc j) (suc k) t h w = (w.0, fits_less f l j k (least_outside f t +ℤ p) (omega arith) w.1)

  -- a span that ends before t changes nothing from t on
  pub fits_more : (f : List Span) (s : Span) (l : ℤ) (k : ℕ) (t : ℤ) → s.last <ℤ t → Fits p f t k l → Fits p (s ∷ f) t k l
  fits_more f s l zero t h w = tt
  fits_more f s l (suc k) t h w =
      let g = least_ge f t in
      let a = least_least (s ∷ f) t (least_outside f t) g (inr (omega (arith, ints)), least_out f t) in
      let ih = fits_more f s l k (least_outside f t +ℤ p) (omega (arith, ints)) w.1 in
      (omega (arith, ints), fits_down (s ∷ f) l k (least_outside (s ∷ f) t +ℤ p) (least_outside f t +ℤ p) (omega (arith, ints)) ih)

  -- the forward starts from e on go on from the second
  forward_on : (f : List Span) (e : ℤ) (k : ℕ) → forward p f e (suc k) ≡ forward p f (least_outside f e +ℤ p) k
  unfolding forward
  forward_on f e zero =
      let a : (e -ℤ p) +ℤ p ≡ e = omega (arith, ints) in
      let b : (least_outside f e +ℤ p) -ℤ p ≡ least_outside f e = omega (arith, ints) in
      ap (least_outside f) a ∙ sym b
  forward_on f e (suc k) = ap (λ z. least_outside f (z +ℤ p)) (forward_on f e k)

  first_forward : (f : List Span) (e : ℤ) → forward p f e 1 ≡ least_outside f e
  unfolding forward
  first_forward f e = let a : (e -ℤ p) +ℤ p ≡ e = omega (arith, ints) in ap (least_outside f) a

  forward_ge : (f : List Span) (e : ℤ) (k : ℕ) → least_outside f e ≤ℤ forward p f e (suc k)
  unfolding forward
  forward_ge f e zero = omega (arith, ints, first_forward f e)
  forward_ge f e (suc k) =
      let h = least_ge f (forward p f e (suc k) +ℤ p) in
      let ih = forward_ge f e k in
      omega (arith, ints)

  pub forward_fits : (f : List Span) (l : ℤ) (k : ℕ) (e : ℤ) → Fits p f e (suc k) l → forward p f e (suc k) ≤ℤ l
  forward_fits f l zero e h = subst (λ z. z ≤ℤ l) (sym (first_forward f e)) h.0
  forward_fits f l (suc k) e h = subst (λ z. z ≤ℤ l) (sym (forward_on f e (suc k))) (forward_fits f l k (least_outside f e +ℤ p) h.1)

  pub fits_forward : (f : List Span) (l : ℤ) (k : ℕ) (e : ℤ) → forward p f e (suc k) ≤ℤ l → Fits p f e (suc k) l
  fits_forward f l zero e h = (subst (λ z. z ≤ℤ l) (first_forward f e) h, tt)
  fits_forward f l (suc k) e h =
      let g = forward_ge f e (suc k) in
      (omega (arith, ints), fits_forward f l k (least_outside f e +ℤ p) (subst (λ z. z ≤ℤ l) (forward_on f e (suc k)) h))
