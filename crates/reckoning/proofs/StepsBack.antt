-- The value kept for each place: it moves by one step for each window that comes in, and stays right as spans join.
use Rattle.std.proofs.Common.{◌≡◌, ℕ, zero, suc, ◌+◌, ◌-◌, ◌*◌, ◌<◌, ◌≤◌, Bool, true, false, cond, ◌&&◌, eqb, List, [], ◌∷◌, ◌++◌, map, filter, length, get_or, set, take, drop, ℤ, pos, negsuc, ◌+ℤ◌, ◌-ℤ◌, neg_ℤ, ◌≤ℤ◌, ◌<ℤ◌, Some, None, fold, Option, sym, refl, ap, ◌∙◌, subst, inl, append-nil, arith, w64, to_z, of_z}
use lib.Signed.{le_z, lt_z}
use Rattle.std.specs.Int.{int_min}
use Rattle.std.specs.List.{AllByRecursion, refill}
use Rattle.std.proofs.lemmas.Int.{ints, clamps, by_lt_z}
use Rattle.std.proofs.ByRecursion.{All-weaker, All-get_or}
use Rattle.std.proofs.lemmas.List.{take_more, drop_more, take_all, drop_all, length-append, take-append-drop, map-append, get_or-append_right, length-map, length-take-le, set_at, append_assoc}
use Rattle.std.proofs.lemmas.Simd.{map-map}
use Rattle.std.proofs.lemmas.Bool.{cond-true, cond-false, and_right, and_left, and_from, ne_eqb}
use Rattle.field.specs.declared.window.Window.{Window}
use Rattle.theory.specs.declared.span.Span.{Span}
use Rattle.field.specs.Windows.{outside}
use Rattle.theory.specs.Orders.{count, enclosed, counted, window_at}
use Rattle.theory.specs.Closed.{covers, Off, greatest_outside, backward}
use Rattle.theory.specs.Method.{backwards, settle, join}
use Rattle.theory.proofs.Closed.{leZ_true, leZ_false, ltZ_false, covers_true, greatest_le, greatest_most}
use Rattle.reckoning.specs.Values.{Fit, Kept, paired, kept, kept_of, moved, lows, Pace, Near, Timed}

pub le_z_yes : (a b : ℤ) → a ≤ℤ b → le_z a b ≡ true
le_z_yes a b h = grind (arith, ints)

pub leZ_no : (a b : ℤ) → b <ℤ a → le_z a b ≡ false
leZ_no a b h = grind (arith, ints)

pub lt_z_yes : (a b : ℤ) → a <ℤ b → lt_z a b ≡ true
lt_z_yes a b h = grind (arith, ints)

pub lt_z_no : (a b : ℤ) → b ≤ℤ a → lt_z a b ≡ false
lt_z_no a b h = grind (arith, ints)

-- ---- steps backward

pub back_le : (p : ℤ) (f : List Span) (l : ℤ) (n : ℕ) → pos 1 ≤ℤ p → backward p f l (suc n) ≤ℤ l
unfolding backward
back_le p f l zero h = let k = greatest_le f ((l +ℤ p) -ℤ p) in omega (arith, ints)
back_le p f l (suc n) h =
    let k = greatest_le f (backward p f l (suc n) -ℤ p) in
    let ih = back_le p f l n h in
    omega (arith, ints)

pub greatest_stays : (s : Span) (f : List Span) (t : ℤ) → s.last <ℤ greatest_outside f t → greatest_outside (s ∷ f) t ≡ greatest_outside f t
unfolding greatest_outside
greatest_stays s f t h = go (covers s (greatest_outside f t)) refl
  where
    go : (b : Bool) → covers s (greatest_outside f t) ≡ b → cond b (greatest_outside f (s.first -ℤ pos 1)) (greatest_outside f t) ≡ greatest_outside f t
    go true e = let c = covers_true s (greatest_outside f t) e in absurd (omega (arith, ints))
    go false e = refl

-- a span that ends before a value leaves it as it is
pub back_stays : (p : ℤ) (s : Span) (f : List Span) (l : ℤ) (n : ℕ) → pos 1 ≤ℤ p → s.last <ℤ backward p f l n → backward p (s ∷ f) l n ≡ backward p f l n
unfolding backward
back_stays p s f l zero h k = refl
back_stays p s f l (suc n) h k =
    let d = greatest_le f (backward p f l n -ℤ p) in
    let ih = back_stays p s f l n h (omega (arith, ints)) in
    ap (λ z. greatest_outside (s ∷ f) (z -ℤ p)) ih ∙ greatest_stays s f (backward p f l n -ℤ p) k

-- a value falls by at most 3600 a step, or to just before a span
pub back_low : (p : ℤ) (f : List Span) (l : ℤ) (n : ℕ) → pos 1 ≤ℤ p → p ≤ℤ pos 3600 → AllByRecursion Fit f → negsuc 86399 ≤ℤ l → neg_ℤ (pos (90000 + 3600 * n)) ≤ℤ backward p f l n
unfolding backward
back_low p f l zero h k a b = omega (arith, ints)
back_low p f l (suc n) h k a b =
    let ih = back_low p f l n h k a b in
    let low = neg_ℤ (pos (90000 + 3600 * suc n)) in
    greatest_most f (backward p f l n -ℤ p) low (omega (arith, ints)) (All-weaker Fit (Off low) (λ s q. inl (omega (arith, ints, q.0))) f a)

pub back_high : (p : ℤ) (f : List Span) (l : ℤ) (n : ℕ) → pos 1 ≤ℤ p → backward p f l n ≤ℤ (l +ℤ p)
unfolding backward
back_high p f l zero h = omega (arith, ints)
back_high p f l (suc n) h = let k = greatest_le f (backward p f l n -ℤ p) in let ih = back_high p f l n h in omega (arith, ints)

-- ---- windows that come in one by one

-- those of the first g windows from r on, and of the others those after r
pub so_far : List Window → ℕ → ℤ → ℤ → ℕ
so_far ws g r l = counted (take g ws) r l + counted (drop g ws) (r +ℤ pos 1) l

-- one if it passes
abbrev one_if : Bool → ℕ
one_if b = cond b 1 0

count_push : (t : Window → Bool) (ws : List Window) (w : Window) → count t (ws ++ w ∷ []) ≡ count t ws + one_if (t w)
count_push t [] w = go (t w)
  where
    go : (b : Bool) → cond b (suc 0) 0 ≡ 0 + one_if b
    go true = omega arith
    go false = omega arith
count_push t (x ∷ ws) w = go (t x) (count_push t ws w)
  where
    go : (b : Bool) → count t (ws ++ w ∷ []) ≡ count t ws + one_if (t w) → cond b (suc (count t (ws ++ w ∷ []))) (count t (ws ++ w ∷ [])) ≡ cond b (suc (count t ws)) (count t ws) + one_if (t w)
    go true h = omega (arith, h)
    go false h = h

count_front : (t : Window → Bool) (ws : List Window) (w : Window) → count t (w ∷ ws) ≡ one_if (t w) + count t ws
count_front t ws w = go (t w)
  where
    go : (b : Bool) → cond b (suc (count t ws)) (count t ws) ≡ one_if b + count t ws
    go true = omega arith
    go false = omega arith

pub count_length : (t : Window → Bool) (ws : List Window) → count t ws ≤ length ws
count_length t [] = omega arith
count_length t (w ∷ ws) = go (t w) (count_length t ws)
  where
    go : (b : Bool) → count t ws ≤ length ws → cond b (suc (count t ws)) (count t ws) ≤ suc (length ws)
    go true h = omega arith
    go false h = omega arith

pub same_count : (t u : Window → Bool) (ws : List Window) → AllByRecursion (λ w. t w ≡ u w) ws → count t ws ≡ count u ws
same_count t u [] a = refl
same_count t u (w ∷ ws) a =
    let e = count_front t ws w in
    let d = count_front u ws w in
    let q = ap one_if a.0 in
    let ih = same_count t u ws a.1 in
    omega (arith, e, d, q, ih)

-- how far the first g windows bring the count
far_parts : (ws : List Window) (g : ℕ) (r l : ℤ) → g < length ws → (so_far ws (g + 1) r l ≡ counted (take g ws) r l + one_if (enclosed r l (window_at ws g)) + counted (drop (g + 1) ws) (r +ℤ pos 1) l) × (so_far ws g r l ≡ counted (take g ws) r l + one_if (enclosed (r +ℤ pos 1) l (window_at ws g)) + counted (drop (g + 1) ws) (r +ℤ pos 1) l)
unfolding so_far
far_parts ws g r l h =
    let t = enclosed r l in
    let u = enclosed (r +ℤ pos 1) l in
    let a = ap (count t) (take_more ws g outside h) ∙ count_push t (take g ws) (window_at ws g) in
    let b = ap (count u) (drop_more ws g outside h) ∙ count_front u (drop (g + 1) ws) (window_at ws g) in
    (omega (arith, a), omega (arith, b))

pub far_other : (ws : List Window) (g : ℕ) (r l : ℤ) → g < length ws → ((window_at ws g).early ≡ r → ⊥) → so_far ws (g + 1) r l ≡ so_far ws g r l
far_other ws g r l h n =
    let e = (window_at ws g).early in
    let parts = far_parts ws g r l h in
    let q : le_z r e ≡ le_z (r +ℤ pos 1) e =
    by_lt_z e r
    (λ k. leZ_no r e k ∙ sym (leZ_no (r +ℤ pos 1) e (omega (arith, ints))))
    (λ k. by_lt_z r e (λ m. le_z_yes r e k ∙ sym (le_z_yes (r +ℤ pos 1) e (omega (arith, ints)))) (λ m. absurd (n (omega (arith, ints))))) in
    let z = ap (λ b. one_if (b && le_z (window_at ws g).late l)) q in
    omega (arith, parts.0, parts.1, z)

pub far_later : (ws : List Window) (g : ℕ) (r l : ℤ) → g < length ws → l <ℤ (window_at ws g).late → so_far ws (g + 1) r l ≡ so_far ws g r l
far_later ws g r l h n =
    let w = window_at ws g in
    let parts = far_parts ws g r l h in
    let a : enclosed r l w ≡ false = and_right (le_z r w.early) (le_z w.late l) (leZ_no w.late l n) in
    let b : enclosed (r +ℤ pos 1) l w ≡ false = and_right (le_z (r +ℤ pos 1) w.early) (le_z w.late l) (leZ_no w.late l n) in
    let y = ap one_if a in
    let z = ap one_if b in
    omega (arith, parts.0, parts.1, y, z)

pub far_here : (ws : List Window) (g : ℕ) (r l : ℤ) → g < length ws → (window_at ws g).early ≡ r → (window_at ws g).late ≤ℤ l → so_far ws (g + 1) r l ≡ suc (so_far ws g r l)
far_here ws g r l h e n =
    let w = window_at ws g in
    let parts = far_parts ws g r l h in
    let a : enclosed r l w ≡ true = and_from (le_z r w.early) (le_z w.late l) (le_z_yes r w.early (omega (arith, ints))) (le_z_yes w.late l n) in
    let b : enclosed (r +ℤ pos 1) l w ≡ false = and_left (le_z (r +ℤ pos 1) w.early) (le_z w.late l) (leZ_no (r +ℤ pos 1) w.early (omega (arith, ints))) in
    let y = ap one_if a in
    let z = ap one_if b in
    omega (arith, parts.0, parts.1, y, z)

pub far_none : (ws : List Window) (r l : ℤ) → so_far ws 0 r l ≡ counted ws (r +ℤ pos 1) l
unfolding so_far
far_none ws r l = omega arith

pub far_all : (ws : List Window) (r l : ℤ) → so_far ws (length ws) r l ≡ counted ws r l
unfolding so_far
far_all ws r l =
    let a = ap (λ z. counted z r l) (take_all (length ws) ws (omega arith)) in
    let b = ap (λ z. counted z (r +ℤ pos 1) l) (drop_all (length ws) ws (omega arith)) in
    omega (arith, a, b)

pub far_length : (ws : List Window) (g : ℕ) (r l : ℤ) → so_far ws g r l ≤ length ws
unfolding so_far
far_length ws g r l =
    let a = count_length (enclosed r l) (take g ws) in
    let b = count_length (enclosed (r +ℤ pos 1) l) (drop g ws) in
    let e = ap length (take-append-drop g ws) in
    let d = length-append (take g ws) (drop g ws) in
    omega (arith, a, b, e, d)

-- ---- the least value

pub lows_all : (P : ℤ → Type 0) (ks : List Kept) → AllByRecursion P (lows ks) → AllByRecursion (λ k. k.value ≤ℤ k.late → P k.value) ks
unfolding lows
lows_all P [] a = tt
lows_all P (k ∷ ks) a = go (lows_all P ks) (le_z k.value k.late) refl a
  where
    go : (AllByRecursion P (lows ks) → AllByRecursion (λ k. k.value ≤ℤ k.late → P k.value) ks) → (b : Bool) → le_z k.value k.late ≡ b → AllByRecursion P (map (λ (j : Kept). j.value) (cond b (k ∷ filter (λ (j : Kept). le_z j.value j.late) ks) (filter (λ (j : Kept). le_z j.value j.late) ks))) → AllByRecursion (λ k. k.value ≤ℤ k.late → P k.value) (k ∷ ks)
    go ih true e a = ((λ _. a.0), ih a.1)
    go ih false e a = ((λ h. let d = leZ_false k.value k.late e in absurd (omega (arith, ints))), ih a)

-- one more value
pub lows_more : (c : ℤ) (ks : List Kept) (k : Kept) → fold int_min c (lows (ks ++ k ∷ [])) ≡ cond (le_z k.value k.late) (int_min (fold int_min c (lows ks)) k.value) (fold int_min c (lows ks))
unfolding lows
lows_more c [] k = go (le_z k.value k.late)
  where
    go : (b : Bool) → fold int_min c (map (λ (j : Kept). j.value) (cond b (k ∷ []) [])) ≡ cond b (int_min c k.value) c
    go true = refl
    go false = refl
lows_more c (j ∷ ks) k = go (le_z j.value j.late) (lows_more (int_min c j.value) ks k) (lows_more c ks k)
  where
    go : (b : Bool) → fold int_min (int_min c j.value) (lows (ks ++ k ∷ [])) ≡ cond (le_z k.value k.late) (int_min (fold int_min (int_min c j.value) (lows ks)) k.value) (fold int_min (int_min c j.value) (lows ks)) → fold int_min c (lows (ks ++ k ∷ [])) ≡ cond (le_z k.value k.late) (int_min (fold int_min c (lows ks)) k.value) (fold int_min c (lows ks)) → fold int_min c (map (λ (i : Kept). i.value) (cond b (j ∷ filter (λ (i : Kept). le_z i.value i.late) (ks ++ k ∷ [])) (filter (λ (i : Kept). le_z i.value i.late) (ks ++ k ∷ [])))) ≡ cond (le_z k.value k.late) (int_min (fold int_min c (map (λ (i : Kept). i.value) (cond b (j ∷ filter (λ (i : Kept). le_z i.value i.late) ks) (filter (λ (i : Kept). le_z i.value i.late) ks)))) k.value) (fold int_min c (map (λ (i : Kept). i.value) (cond b (j ∷ filter (λ (i : Kept). le_z i.value i.late) ks) (filter (λ (i : Kept). le_z i.value i.late) ks))))
    go true x y = x
    go false x y = y

pub lows_backwards : (p : ℤ) (ws : List Window) (f : List Span) (r : ℤ) (us : List Window) → pos 1 ≤ℤ p → lows (map (kept_of p ws f r) us) ≡ backwards p ws r f us
unfolding lows backwards backward
lows_backwards p ws f r [] h = refl
lows_backwards p ws f r (u ∷ us) h = go (counted ws r u.late) (lows_backwards p ws f r us h)
  where
    go : (n : ℕ) → lows (map (kept_of p ws f r) us) ≡ backwards p ws r f us → map (λ (k : Kept). k.value) (cond (le_z (backward p f u.late n) u.late) (record { late = u.late; value = backward p f u.late n } ∷ filter (λ (k : Kept). le_z k.value k.late) (map (kept_of p ws f r) us)) (filter (λ (k : Kept). le_z k.value k.late) (map (kept_of p ws f r) us))) ≡ cond (eqb n 0) (backwards p ws r f us) (backward p f u.late n ∷ backwards p ws r f us)
    go zero q =
        let ks = filter (λ (k : Kept). le_z k.value k.late) (map (kept_of p ws f r) us) in
        let k : Kept = record { late = u.late; value = u.late +ℤ p } in
        ap (map (λ (k : Kept). k.value)) (cond-false (le_z (u.late +ℤ p) u.late) (k ∷ ks) ks (leZ_no (u.late +ℤ p) u.late (omega (arith, ints)))) ∙ q
    go (suc n) q =
        let b = back_le p f u.late n h in
        let v = backward p f u.late (suc n) in
        let ys = backwards p ws r f us in
        let ks = filter (λ (k : Kept). le_z k.value k.late) (map (kept_of p ws f r) us) in
        let k : Kept = record { late = u.late; value = v } in
        ap (map (λ (k : Kept). k.value)) (cond-true (le_z v u.late) (k ∷ ks) ks (le_z_yes v u.late (omega (arith, ints))))
        ∙ ap (λ z. v ∷ z) q
        ∙ sym (cond-false (eqb (suc n) 0) ys (v ∷ ys) (ne_eqb (suc n) 0 (λ z. omega arith)))

-- ---- the step at an early, with the least value capped at r + p

folded_min : (a b : ℤ) (xs : List ℤ) → fold int_min (int_min a b) xs ≡ int_min a (fold int_min b xs)
folded_min a b [] = refl
folded_min a b (x ∷ xs) = let e : int_min (int_min a b) x ≡ int_min a (int_min b x) = omega (arith, ints, clamps) in ap (λ z. fold int_min z xs) e ∙ folded_min a (int_min b x) xs

abbrev pub closing : ℤ → ℤ → ℤ → List Span → Option (List Span)
closing p r m f =
    let s : Span = record { first = (m -ℤ p) +ℤ pos 1; last = r -ℤ pos 1 } in
    cond (lt_z m r) None (cond (lt_z s.last s.first) (Some f) (Some (s ∷ f)))

closing_none : (p r : ℤ) (f : List Span) → pos 1 ≤ℤ p → closing p r (r +ℤ p) f ≡ Some f
closing_none p r f h =
    let s : Span = record { first = ((r +ℤ p) -ℤ p) +ℤ pos 1; last = r -ℤ pos 1 } in
    let o : Option (List Span) = None in
    cond-false (lt_z (r +ℤ p) r) o (cond (lt_z s.last s.first) (Some f) (Some (s ∷ f))) (lt_z_no (r +ℤ p) r (omega (arith, ints)))
    ∙ cond-true (lt_z s.last s.first) (Some f) (Some (s ∷ f)) (lt_z_yes s.last s.first (omega (arith, ints)))

settle_capped : (p r m : ℤ) (f : List Span) → pos 1 ≤ℤ p → settle p r m f ≡ closing p r (int_min (r +ℤ p) m) f
unfolding settle
settle_capped p r m f h = go (lt_z m (r +ℤ p)) refl
  where
    s : Span
    s = record { first = (m -ℤ p) +ℤ pos 1; last = r -ℤ pos 1 }

    go : (b : Bool) → lt_z m (r +ℤ p) ≡ b → cond (lt_z m r) None (cond b (cond (lt_z s.last s.first) (Some f) (Some (s ∷ f))) (Some f)) ≡ closing p r (cond b m (r +ℤ p)) f
    go true e = refl
    go false e =
        let k = ltZ_false m (r +ℤ p) e in
        let o : Option (List Span) = None in
        cond-false (lt_z m r) o (Some f) (lt_z_no m r (omega (arith, ints))) ∙ sym (closing_none p r f h)

pub join_capped : (p r : ℤ) (bs : List ℤ) (f : List Span) → pos 1 ≤ℤ p → join p r bs f ≡ closing p r (fold int_min (r +ℤ p) bs) f
unfolding join
join_capped p r [] f h = sym (closing_none p r f h)
join_capped p r (b ∷ bs) f h = settle_capped p r (fold int_min b bs) f h ∙ ap (λ z. closing p r z f) (sym (folded_min (r +ℤ p) b bs))

-- ---- a loop over the windows that come in at r

-- what is made of each of two lists alike
pub map_alike : {X Y : Type 0} (f g : X → Y) (xs : List X) → AllByRecursion (λ x. f x ≡ g x) xs → map f xs ≡ map g xs
map_alike f g [] a = refl
map_alike f g (x ∷ xs) a = ap (λ y. y ∷ map f xs) a.0 ∙ ap (λ ys. g x ∷ ys) (map_alike f g xs a.1)

pub each : {X : Type 0} (P : X → Type 0) → ((x : X) → P x) → (xs : List X) → AllByRecursion P xs
each P h [] = tt
each P h (x ∷ xs) = (h x, each P h xs)

pub all_map : {X Y : Type 0} (P : Y → Type 0) (f : X → Y) (xs : List X) → AllByRecursion (λ x. P (f x)) xs → AllByRecursion P (map f xs)
all_map P f [] a = tt
all_map P f (x ∷ xs) a = (a.0, all_map P f xs a.1)

pub map_all : {X Y : Type 0} (P : Y → Type 0) (f : X → Y) (xs : List X) → AllByRecursion P (map f xs) → AllByRecursion (λ x. P (f x)) xs
map_all P f [] a = tt
map_all P f (x ∷ xs) a = (a.0, map_all P f xs a.1)

-- the first g windows have been looked at
abbrev part_of : ℤ → List Window → List Span → ℕ → ℤ → Window → Kept
part_of p ws f g r w = record { late = w.late; value = backward p f w.late (so_far ws g r w.late) }

unfoldable pub partly : ℤ → List Window → List Span → ℕ → ℤ → List Kept
partly p ws f g r = map (part_of p ws f g r) ws

abbrev pub valued : ℤ → ℤ → Kept
valued l v = record { late = l; value = v }

abbrev at_count : ℤ → List Span → Window → ℕ → Kept
at_count p f w n = valued w.late (backward p f w.late n)

pub partly_none : (p : ℤ) (ws : List Window) (f : List Span) (r : ℤ) → kept p ws f (r +ℤ pos 1) ≡ partly p ws f 0 r
unfolding kept partly
partly_none p ws f r =
    map_alike (kept_of p ws f (r +ℤ pos 1)) (part_of p ws f 0 r) ws
    (each (λ w. kept_of p ws f (r +ℤ pos 1) w ≡ part_of p ws f 0 r w) (λ w. ap (at_count p f w) (sym (far_none ws r w.late))) ws)

pub partly_all : (p : ℤ) (ws : List Window) (f : List Span) (g : ℕ) (r : ℤ) → g ≤ length ws → length ws ≤ g → partly p ws f g r ≡ kept p ws f r
unfolding kept partly
partly_all p ws f g r a b =
    let e : g ≡ length ws = omega arith in
    map_alike (part_of p ws f g r) (kept_of p ws f r) ws
    (each (λ w. part_of p ws f g r w ≡ kept_of p ws f r w) (λ w. ap (at_count p f w) (ap (λ i. so_far ws i r w.late) e ∙ far_all ws r w.late)) ws)

pub partly_other : (p : ℤ) (ws : List Window) (f : List Span) (g : ℕ) (r : ℤ) → g < length ws → ((window_at ws g).early ≡ r → ⊥) → partly p ws f g r ≡ partly p ws f (g + 1) r
unfolding partly
partly_other p ws f g r h n =
    map_alike (part_of p ws f g r) (part_of p ws f (g + 1) r) ws
    (each (λ w. part_of p ws f g r w ≡ part_of p ws f (g + 1) r w) (λ w. ap (at_count p f w) (sym (far_other ws g r w.late h n))) ws)

pub partly_here : (p : ℤ) (ws : List Window) (f : List Span) (g : ℕ) (r : ℤ) → g < length ws → (window_at ws g).early ≡ r → map (moved p f (window_at ws g).late) (partly p ws f g r) ≡ partly p ws f (g + 1) r
unfolding partly backward
partly_here p ws f g r h e =
    map-map (moved p f l) (part_of p ws f g r) ws
    ∙ map_alike (λ w. moved p f l (part_of p ws f g r w)) (part_of p ws f (g + 1) r) ws (each (λ w. moved p f l (part_of p ws f g r w) ≡ part_of p ws f (g + 1) r w) (λ w. go w (le_z l w.late) refl) ws)
  where
    l : ℤ
    l = (window_at ws g).late

    go : (w : Window) (b : Bool) → le_z (window_at ws g).late w.late ≡ b → moved p f (window_at ws g).late (part_of p ws f g r w) ≡ part_of p ws f (g + 1) r w
    go w true q =
        let v = backward p f w.late (so_far ws g r w.late) in
        ap (valued w.late)
        (cond-true (le_z (window_at ws g).late w.late) (greatest_outside f (v -ℤ p)) v q ∙ ap (backward p f w.late) (sym (far_here ws g r w.late h e (leZ_true (window_at ws g).late w.late q))))
    go w false q =
        let v = backward p f w.late (so_far ws g r w.late) in
        ap (valued w.late)
        (cond-false (le_z (window_at ws g).late w.late) (greatest_outside f (v -ℤ p)) v q ∙ ap (backward p f w.late) (sym (far_later ws g r w.late h (leZ_false (window_at ws g).late w.late q))))

near_back : (p : ℤ) (f : List Span) (l : ℤ) (n : ℕ) → Pace p → AllByRecursion Fit f → negsuc 86399 ≤ℤ l → l ≤ℤ pos 86400 → n ≤ 64 → Near (backward p f l n)
near_back p f l n h a b d k =
    let low = back_low p f l n h.0 h.1 a b in
    let high = back_high p f l n h.0 in
    (omega (arith, ints, low, k), omega (arith, ints, high, h.1))

pub partly_near : (p : ℤ) (ws : List Window) (f : List Span) (g : ℕ) (r : ℤ) → Pace p → AllByRecursion Fit f → AllByRecursion Timed ws → length ws ≤ 64 → AllByRecursion (λ k. Near k.value) (partly p ws f g r)
unfolding partly
partly_near p ws f g r h a t s =
    all_map (λ k. Near k.value) (part_of p ws f g r) ws
    (All-weaker Timed (λ w. Near (part_of p ws f g r w).value) (λ w q. let n = far_length ws g r w.late in near_back p f w.late (so_far ws g r w.late) h a q.2 q.3 (omega (arith, n))) ws t)

-- ---- values beside their windows

pub length_paired : (ws : List Window) (vs : List ℤ) → length ws ≤ length vs → length (paired ws vs) ≡ length ws
unfolding paired
length_paired [] vs h = refl
length_paired (w ∷ ws) [] h = absurd (omega (arith, h))
length_paired (w ∷ ws) (v ∷ vs) h = ap suc (length_paired ws vs (omega (arith, h)))

pub length_paired_both : (ws : List Window) (vs : List ℤ) (j : ℕ) → j < length ws → j < length vs → j < length (paired ws vs)
unfolding paired
length_paired_both [] vs j h k = h
length_paired_both (w ∷ ws) [] j h k = k
length_paired_both (w ∷ ws) (v ∷ vs) zero h k = omega arith
length_paired_both (w ∷ ws) (v ∷ vs) (suc j) h k = let l = length_paired_both ws vs j (omega (arith, h)) (omega (arith, k)) in omega (arith, l)

pub paired_at : (ws : List Window) (vs : List ℤ) (j : ℕ) (d : Kept) → j < length ws → j < length vs → get_or (paired ws vs) j d ≡ valued (window_at ws j).late (get_or vs j (pos 0))
unfolding paired
paired_at [] vs j d h k = absurd (omega (arith, h))
paired_at (w ∷ ws) [] j d h k = absurd (omega (arith, k))
paired_at (w ∷ ws) (v ∷ vs) zero d h k = refl
paired_at (w ∷ ws) (v ∷ vs) (suc j) d h k = paired_at ws vs j d (omega (arith, h)) (omega (arith, k))

pub paired_set : (ws : List Window) (vs : List ℤ) (j : ℕ) (x : ℤ) → paired ws (set vs j x) ≡ set (paired ws vs) j (valued (window_at ws j).late x)
unfolding paired
paired_set [] vs j x = refl
paired_set (w ∷ ws) [] j x = refl
paired_set (w ∷ ws) (v ∷ vs) zero x = refl
paired_set (w ∷ ws) (v ∷ vs) (suc j) x = ap (λ ks. valued w.late v ∷ ks) (paired_set ws vs j x)

pub paired_map : (f : Window → ℤ) (ws : List Window) → paired ws (map f ws) ≡ map (λ w. valued w.late (f w)) ws
unfolding paired
paired_map f [] = refl
paired_map f (w ∷ ws) = ap (λ ks. valued w.late (f w) ∷ ks) (paired_map f ws)

-- the least value, with that of one more place
pub least_more : (c m n : ℤ) (ws : List Window) (vs : List ℤ) (j : ℕ) → j < length ws → j < length vs → m ≡ fold int_min c (lows (take j (paired ws vs))) → n ≡ cond (le_z (get_or vs j (pos 0)) (window_at ws j).late) (int_min m (get_or vs j (pos 0))) m → n ≡ fold int_min c (lows (take (j + 1) (paired ws vs)))
least_more c m n ws vs j h k e q =
    let d : Kept = valued (pos 0) (pos 0) in
    let v = get_or vs j (pos 0) in
    let l = length_paired_both ws vs j h k in
    q
    ∙ ap (λ z. cond (le_z v (window_at ws j).late) (int_min z v) z) e
    ∙ sym (lows_more c (take j (paired ws vs)) (valued (window_at ws j).late v))
    ∙ ap (λ z. fold int_min c (lows (take j (paired ws vs) ++ z ∷ []))) (sym (paired_at ws vs j d h k))
    ∙ ap (λ z. fold int_min c (lows z)) (sym (take_more (paired ws vs) j d l))

-- ---- a list that is changed from its beginning

pub changed_more : {X : Type 0} (f : X → X) (xs ys : List X) (i : ℕ) (d x : X) → i < length xs → ys ≡ map f (take i xs) ++ drop i xs → x ≡ f (get_or xs i d) → set ys i x ≡ map f (take (i + 1) xs) ++ drop (i + 1) xs
changed_more f xs ys i d x h e q =
    let n = length-map (take i xs) f ∙ length-take-le i xs (omega arith) in
    ap (λ z. set z i x) (e ∙ ap (λ z. map f (take i xs) ++ z) (drop_more xs i d h))
    ∙ set_at (map f (take i xs)) (get_or xs i d) (drop (i + 1) xs) x i n
    ∙ ap (λ z. map f (take i xs) ++ z ∷ drop (i + 1) xs) q
    ∙ sym (ap (λ z. z ++ drop (i + 1) xs) (ap (map f) (take_more xs i d h) ∙ map-append f (take i xs) (get_or xs i d ∷ [])) ∙ append_assoc (map f (take i xs)) (f (get_or xs i d) ∷ []) (drop (i + 1) xs))

pub changed_at : {X : Type 0} (f : X → X) (xs ys : List X) (i : ℕ) (d : X) → i < length xs → ys ≡ map f (take i xs) ++ drop i xs → get_or ys i d ≡ get_or xs i d
changed_at f xs ys i d h e =
    let n = length-map (take i xs) f ∙ length-take-le i xs (omega arith) in
    ap (λ z. get_or z i d) (e ∙ ap (λ z. map f (take i xs) ++ z) (drop_more xs i d h))
    ∙ get_or-append_right (map f (take i xs)) (get_or xs i d ∷ drop (i + 1) xs) i i d n (omega arith)
    ∙ (let z : i - i ≡ 0 = omega arith in ap (λ k. get_or (get_or xs i d ∷ drop (i + 1) xs) k d) z)

pub changed_whole : {X : Type 0} (f : X → X) (xs ys : List X) (i : ℕ) → length xs ≤ i → ys ≡ map f (take i xs) ++ drop i xs → ys ≡ map f xs
changed_whole f xs ys i h e = e ∙ ap (λ z. map f (take i xs) ++ z) (drop_all i xs h) ∙ append-nil (map f (take i xs)) ∙ ap (map f) (take_all i xs h)

-- a list that is written back in its whole length
pub refilled : {X : Type 0} (xs ws : List X) → length ws ≡ length xs → refill (length xs) xs ws ≡ ws
refilled xs ws e =
    let a : length xs ≤ length ws = omega (arith, e) in
    let b : length ws ≤ length xs = omega (arith, e) in
    ap (λ z. take (length xs) (ws ++ z)) (drop_all (length ws) xs a) ∙ ap (take (length xs)) (append-nil ws) ∙ take_all (length xs) ws b

-- what is not yet changed is as it was
pub paired_same : (g : Kept → Kept) (ws : List Window) (os vs : List ℤ) (i : ℕ) → length ws ≤ length os → length vs ≡ length os → i < length ws → paired ws vs ≡ map g (take i (paired ws os)) ++ drop i (paired ws os) → valued (window_at ws i).late (get_or vs i (pos 0)) ≡ get_or (paired ws os) i (valued (pos 0) (pos 0))
paired_same g ws os vs i r n h e =
    let d : Kept = valued (pos 0) (pos 0) in
    let l = length_paired ws os r in
    sym (paired_at ws vs i d h (omega (arith, r, n, h))) ∙ changed_at g (paired ws os) (paired ws vs) i d (omega (arith, l, h)) e

pub near_at : (g : Kept → Kept) (ws : List Window) (os vs : List ℤ) (i : ℕ) → length ws ≤ length os → length vs ≡ length os → i < length ws → paired ws vs ≡ map g (take i (paired ws os)) ++ drop i (paired ws os) → AllByRecursion (λ k. Near k.value) (paired ws os) → Near (get_or vs i (pos 0))
near_at g ws os vs i r n h e a =
    let d : Kept = valued (pos 0) (pos 0) in
    let l = length_paired ws os r in
    subst (λ (k : Kept). Near k.value) (sym (paired_same g ws os vs i r n h e)) (All-get_or (λ k. Near k.value) (paired ws os) i d (omega (arith, l, h)) a)

pub moved_back : (p : ℤ) (f : List Span) (l : ℤ) (k j : Kept) (v : ℤ) → k ≡ j → le_z l k.late ≡ true → v ≡ greatest_outside f (k.value -ℤ p) → valued k.late v ≡ moved p f l j
moved_back p f l k j v q t e = ap (valued k.late) (e ∙ sym (cond-true (le_z l k.late) (greatest_outside f (k.value -ℤ p)) k.value t)) ∙ ap (moved p f l) q

pub not_moved : (p : ℤ) (f : List Span) (l : ℤ) (k j : Kept) (v : ℤ) → k ≡ j → le_z l k.late ≡ false → v ≡ k.value → valued k.late v ≡ moved p f l j
not_moved p f l k j v q t e = ap (valued k.late) (e ∙ sym (cond-false (le_z l k.late) (greatest_outside f (k.value -ℤ p)) k.value t)) ∙ ap (moved p f l) q

pub step_real : (v p q : ℤ) → Near v → Pace p → p ≡ q → to_z w64 (of_z w64 (to_z w64 (of_z w64 v) -ℤ to_z w64 (of_z w64 p))) ≡ v -ℤ q
step_real v p q h k e = omega (arith, ints, h.0, h.1, k.0, k.1, e)
