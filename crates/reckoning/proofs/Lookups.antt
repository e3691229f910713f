-- One pass over spans whose ends fall finds the time outside.
use Rattle.std.proofs.Common.{◌≡◌, ℕ, ◌+◌, ◌<◌, Bool, true, false, cond, ◌⊎◌, List, [], ◌∷◌, ◌++◌, reverse, length, get_or, take, drop, ℤ, pos, ◌+ℤ◌, ◌-ℤ◌, ◌≤ℤ◌, ◌<ℤ◌, sym, refl, ap, ◌∙◌, subst, inl, inr, ⊎_elim, arith}
use Rattle.std.specs.List.{AllByRecursion}
use Rattle.std.proofs.ByRecursion.{All-append}
use Rattle.std.proofs.lemmas.Int.{ints}
use Rattle.std.proofs.lemmas.List.{take_more, reverse-append, take-append-drop}
use Rattle.std.proofs.lemmas.Bool.{cond_both}
use Rattle.theory.specs.declared.span.Span.{Span}
use Rattle.theory.specs.Closed.{covers, Off, Outside, greatest_outside, least_outside}
use Rattle.theory.proofs.Closed.{covers_true, covers_false, greatest_le, greatest_out, greatest_most, least_ge, least_out, least_least}
use Rattle.reckoning.specs.Values.{Falling}

pub falling_right : (f g : List Span) → Falling (f ++ g) → Falling g
falling_right [] g h = h
falling_right (s ∷ f) g h = falling_right f g h.1

pub falling_take : (xs : List Span) (i : ℕ) → Falling (reverse xs) → Falling (reverse (take i xs))
falling_take xs i h =
    let e = reverse-append (take i xs) (drop i xs) in
    let d = ap reverse (take-append-drop i xs) in
    falling_right (reverse (drop i xs)) (reverse (take i xs)) (subst Falling (sym d ∙ e) h)

pub all_reverse : {X : Type 0} (P : X → Type 0) (xs : List X) → AllByRecursion P xs → AllByRecursion P (reverse xs)
all_reverse P [] a = tt
all_reverse P (x ∷ xs) a = subst (AllByRecursion P) (sym (reverse-append (x ∷ []) xs)) (All-append P (reverse xs) (x ∷ []) (all_reverse P xs a.1) (a.0, tt))

pub all_front : {X : Type 0} (P : X → Type 0) (xs : List X) (x : X) → AllByRecursion P (xs ++ x ∷ []) → AllByRecursion P xs × P x
all_front P [] x a = (tt, a.0)
all_front P (y ∷ xs) x a = let r = all_front P xs x a.1 in ((a.0, r.0), r.1)

pub falling_push : (xs : List Span) (s : Span) → AllByRecursion (λ o. s.last <ℤ o.last) xs → Falling (reverse xs) → Falling (reverse (xs ++ s ∷ []))
falling_push xs s a h = subst Falling (sym (reverse-append xs (s ∷ []))) (all_reverse (λ o. s.last <ℤ o.last) xs a, h)

pub reverse_more : (xs : List Span) (i : ℕ) (d : Span) → i < length xs → reverse (take (i + 1) xs) ≡ get_or xs i d ∷ reverse (take i xs)
reverse_more xs i d h = ap reverse (take_more xs i d h) ∙ reverse-append (take i xs) (get_or xs i d ∷ [])

off_before : (s : Span) (u : ℤ) (f : List Span) → AllByRecursion (λ o. s.last <ℤ o.last) f → (s.first ≤ℤ u) × (u ≤ℤ s.last) → Outside f u → Outside f (s.first -ℤ pos 1)
off_before s u [] a c o = tt
off_before s u (x ∷ f) a c o = (⊎_elim (λ k. inl (omega (arith, ints))) (λ k. absurd (omega (arith, ints, a.0))) o.0, off_before s u f a.1 c o.1)

-- the newest span, looked at last: from just before it nothing older is in the way
pub greatest_last : (s : Span) (f : List Span) (t : ℤ) → Falling (s ∷ f) → greatest_outside (s ∷ f) t ≡ cond (covers s (greatest_outside f t)) (s.first -ℤ pos 1) (greatest_outside f t)
unfolding greatest_outside
greatest_last s f t h = go (covers s u) refl
  where
    u : ℤ
    u = greatest_outside f t

    go : (b : Bool) → covers s u ≡ b → cond b (greatest_outside f (s.first -ℤ pos 1)) u ≡ cond b (s.first -ℤ pos 1) u
    go true e =
        let z = s.first -ℤ pos 1 in
        let o = off_before s (greatest_outside f t) f h.0 (covers_true s (greatest_outside f t) e) (greatest_out f t) in
        let a = greatest_le f z in
        let b = greatest_most f z z (omega (arith, ints)) o in
        omega (arith, ints)
    go false e = refl

pub greatest_more : (xs : List Span) (i : ℕ) (d : Span) (t : ℤ) → i < length xs → Falling (reverse xs) → greatest_outside (reverse (take (i + 1) xs)) t ≡ cond (covers (get_or xs i d) (greatest_outside (reverse (take i xs)) t)) ((get_or xs i d).first -ℤ pos 1) (greatest_outside (reverse (take i xs)) t)
greatest_more xs i d t l h =
    let e = reverse_more xs i d l in
    ap (λ f. greatest_outside f t) e ∙ greatest_last (get_or xs i d) (reverse (take i xs)) t (subst Falling e (falling_take xs (i + 1) h))

-- a jump up goes to the end of some span
least_jump : (z t : ℤ) (f : List Span) → AllByRecursion (λ o. z <ℤ o.last) f → (least_outside f t ≡ t) ⊎ (z <ℤ least_outside f t)
unfolding least_outside
least_jump z t [] a = inl refl
least_jump z t (s ∷ f) a =
    let u = least_outside f t in
    let v = least_outside f (s.last +ℤ pos 1) in
    let hv = least_ge f (s.last +ℤ pos 1) in
    cond_both (covers s u) v u (λ x. (x ≡ t) ⊎ (z <ℤ x)) (λ e. inr (omega (arith, ints, a.0))) (λ e. least_jump z t f a.1)

-- the newest span, looked at first
pub least_first : (s : Span) (f : List Span) (t : ℤ) → Falling (s ∷ f) → least_outside (s ∷ f) t ≡ least_outside f (cond (covers s t) (s.last +ℤ pos 1) t)
least_first s f t h = go (covers s t) refl
  where
    go : (b : Bool) → covers s t ≡ b → least_outside (s ∷ f) t ≡ least_outside f (cond b (s.last +ℤ pos 1) t)
    go true e =
        let c = covers_true s t e in
        let y = s.last +ℤ pos 1 in
        let x = least_outside f y in
        let g = least_ge f y in
        let a = least_least (s ∷ f) t x (omega (arith, ints)) (inr (omega (arith, ints)), least_out f y) in
        let o = least_out (s ∷ f) t in
        let k = least_ge (s ∷ f) t in
        let w = least_outside (s ∷ f) t in
        let q : y ≤ℤ w = ⊎_elim (λ z. omega (arith, ints)) (λ z. omega (arith, ints)) o.0 in
        let b = least_least f y w q o.1 in
        omega (arith, ints)
    go false e =
        let c = covers_false s t e in
        let x = least_outside f t in
        let g = least_ge f t in
        let j = least_jump s.last t f h.0 in
        let off : Off x s = ⊎_elim (λ i. ⊎_elim (λ z. inl (omega (arith, ints))) (λ z. inr (omega (arith, ints))) c) (λ i. inr i) j in
        let a = least_least (s ∷ f) t x g (off, least_out f t) in
        let o = least_out (s ∷ f) t in
        let k = least_ge (s ∷ f) t in
        let b = least_least f t (least_outside (s ∷ f) t) k o.1 in
        omega (arith, ints)

pub greatest_none : (t : ℤ) → greatest_outside [] t ≡ t
unfolding greatest_outside
greatest_none t = refl

pub least_none : (t : ℤ) → least_outside [] t ≡ t
unfolding least_outside
least_none t = refl

pub greatest_step : (xs : List Span) (i : ℕ) (d : Span) (t u r : ℤ) → i < length xs → Falling (reverse xs) → u ≡ greatest_outside (reverse (take i xs)) t → r ≡ cond (covers (get_or xs i d) u) ((get_or xs i d).first -ℤ pos 1) u → r ≡ greatest_outside (reverse (take (i + 1) xs)) t
greatest_step xs i d t u r l h e q = q ∙ ap (λ z. cond (covers (get_or xs i d) z) ((get_or xs i d).first -ℤ pos 1) z) e ∙ sym (greatest_more xs i d t l h)

-- one step from the newest span on
pub least_step : (xs ys : List Span) (s : Span) (w u r : ℤ) → xs ≡ ys ++ s ∷ [] → Falling (reverse xs) → least_outside (reverse xs) u ≡ w → r ≡ cond (covers s u) (s.last +ℤ pos 1) u → least_outside (reverse ys) r ≡ w
least_step xs ys s w u r d h e q =
    let z = ap reverse d ∙ reverse-append ys (s ∷ []) in
    ap (least_outside (reverse ys)) q ∙ sym (least_first s (reverse ys) u (subst Falling z h)) ∙ ap (λ f. least_outside f u) (sym z) ∙ e

pub fall_on : (xs ys : List Span) (s : Span) → xs ≡ ys ++ s ∷ [] → Falling (reverse xs) → Falling (reverse ys)
fall_on xs ys s d h = (subst Falling (ap reverse d ∙ reverse-append ys (s ∷ [])) h).1

pub least_end : (xs : List Span) (w u : ℤ) → length xs ≡ 0 → least_outside (reverse xs) u ≡ w → u ≡ w
least_end [] w u h e = sym (least_none u) ∙ e
least_end (x ∷ xs) w u h e = absurd (omega arith)
