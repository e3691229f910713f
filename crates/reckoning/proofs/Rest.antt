-- The earlies that are left, and the greatest of them.
use Rattle.std.proofs.Common.{◌≡◌, ℕ, suc, ◌≤◌, Bool, true, false, cond, ◌&&◌, List, [], ◌∷◌, map, length, ℤ, pos, negsuc, ◌+ℤ◌, ◌≤ℤ◌, ◌<ℤ◌, filter, fold, Some, None, sym, refl, ap, ◌∙◌, subst, ⊎_elim, arith}
use lib.Signed.{le_z, lt_z}
use Rattle.std.specs.List.{AllByRecursion}
use Rattle.std.proofs.lemmas.Int.{ints, clamps, by_lt_z, fold-int_max_reached}
use Rattle.std.proofs.ByRecursion.{All-weaker, All-get_or, folded_max_z_bounds}
use Rattle.std.specs.Int.{int_max}
use Rattle.std.specs.List.{find}
use Rattle.std.proofs.lemmas.Bool.{cond_both, cond-true, cond-false}
use Rattle.field.specs.declared.window.Window.{Window}
use Rattle.theory.specs.Orders.{counted, enclosed}
use Rattle.theory.specs.Method.{put, earlies}
use Rattle.theory.proofs.Closed.{ltZ_true, ltZ_false}
use Rattle.theory.proofs.Settled.{Falling, falling_earlies, has_earlies}
use Rattle.reckoning.specs.Values.{rest, Timed, Next}
use Rattle.reckoning.proofs.StepsBack.{lt_z_yes, lt_z_no, le_z_yes, leZ_no, same_count, all_map}

abbrev before : ℤ → ℤ → Bool
before b x = lt_z x b

-- ---- what the greatest leaves

kept_all : (b : ℤ) (xs : List ℤ) → AllByRecursion (λ y. y <ℤ b) xs → filter (before b) xs ≡ xs
kept_all b [] a = refl
kept_all b (x ∷ xs) a = cond-true (lt_z x b) (x ∷ filter (before b) xs) (filter (before b) xs) (lt_z_yes x b a.0) ∙ ap (λ z. x ∷ z) (kept_all b xs a.1)

none_kept : (b : ℤ) (xs : List ℤ) → AllByRecursion (λ y. b ≤ℤ y) xs → filter (before b) xs ≡ []
none_kept b [] a = refl
none_kept b (x ∷ xs) a = cond-false (lt_z x b) (x ∷ filter (before b) xs) (filter (before b) xs) (lt_z_no x b a.0) ∙ none_kept b xs a.1

-- r is there, and is the greatest before b
kept_top : (b r : ℤ) (es : List ℤ) → r <ℤ b → Falling es → AllByRecursion (λ x. x <ℤ b → x ≤ℤ r) es → (AllByRecursion (λ x. x ≡ r → ⊥) es → ⊥) → filter (before b) es ≡ r ∷ filter (before r) es
kept_top b r [] u h a n = absurd (n tt)
kept_top b r (x ∷ xs) u h a n =
    by_lt_z x b
    (λ q.
    by_lt_z x r
    (λ k. absurd (n ((λ e. omega (arith, ints, e)), All-weaker (λ y. y <ℤ x) (λ y. y ≡ r → ⊥) (λ y l e. omega (arith, ints, e)) xs h.0)))
    (λ k.
    let e : x ≡ r = (let z = a.0 q in omega (arith, ints)) in
    let p = kept_all b xs (All-weaker (λ y. y <ℤ x) (λ y. y <ℤ b) (λ y z. omega (arith, ints)) xs h.0) in
    let s = cond-true (lt_z x b) (x ∷ filter (before b) xs) (filter (before b) xs) (lt_z_yes x b q) in
    let t = cond-false (lt_z x r) (x ∷ filter (before r) xs) (filter (before r) xs) (lt_z_no x r k) in
    let o = kept_all r xs (All-weaker (λ y. y <ℤ x) (λ y. y <ℤ r) (λ y z. omega (arith, ints, e)) xs h.0) in
    s ∙ ap (λ z. x ∷ z) p ∙ ap (λ z. z ∷ xs) e ∙ ap (λ z. r ∷ z) (sym (t ∙ o))))
    (λ q.
    let ih = kept_top b r xs u h.1 a.1 (λ k. n ((λ e. omega (arith, ints, e)), k)) in
    let s = cond-false (lt_z x b) (x ∷ filter (before b) xs) (filter (before b) xs) (lt_z_no x b q) in
    let t = cond-false (lt_z x r) (x ∷ filter (before r) xs) (filter (before r) xs) (lt_z_no x r (omega (arith, ints))) in
    s ∙ ih ∙ ap (λ z. r ∷ z) (sym t))

all_put : (P : ℤ → Type 0) (r : ℤ) (xs : List ℤ) → P r → AllByRecursion P xs → AllByRecursion P (put r xs)
unfolding put
all_put P r [] h a = (h, tt)
all_put P r (x ∷ xs) h a =
    cond_both
    (lt_z x r)
    (r ∷ x ∷ xs)
    (cond (lt_z r x) (x ∷ put r xs) (x ∷ xs))
    (AllByRecursion P)
    (λ e. (h, a))
    (λ e. cond_both (lt_z r x) (x ∷ put r xs) (x ∷ xs) (AllByRecursion P) (λ d. (a.0, all_put P r xs h a.1)) (λ d. a))

all_earlies : (P : ℤ → Type 0) (ws : List Window) → AllByRecursion (λ w. P w.early) ws → AllByRecursion P (earlies ws)
unfolding earlies
all_earlies P [] a = tt
all_earlies P (w ∷ ws) a = all_put P w.early (earlies ws) a.0 (all_earlies P ws a.1)

length_put : (r : ℤ) (xs : List ℤ) → length (put r xs) ≤ suc (length xs)
unfolding put
length_put r [] = omega arith
length_put r (x ∷ xs) =
    let ih = length_put r xs in
    cond_both
    (lt_z x r)
    (r ∷ x ∷ xs)
    (cond (lt_z r x) (x ∷ put r xs) (x ∷ xs))
    (λ z. length z ≤ suc (suc (length xs)))
    (λ e. omega arith)
    (λ e. cond_both (lt_z r x) (x ∷ put r xs) (x ∷ xs) (λ z. length z ≤ suc (suc (length xs))) (λ d. omega arith) (λ d. omega arith))

length_earlies : (ws : List Window) → length (earlies ws) ≤ length ws
unfolding earlies
length_earlies [] = omega arith
length_earlies (w ∷ ws) = let a = length_put w.early (earlies ws) in let b = length_earlies ws in omega (arith, a, b)

-- ---- in the words of the field

counts : (ws : List Window) (b r : ℤ) → r <ℤ b → AllByRecursion (λ w. w.early <ℤ b → w.early ≤ℤ r) ws → (l : ℤ) → counted ws b l ≡ counted ws (r +ℤ pos 1) l
counts ws b r h a l =
    same_count
    (enclosed b l)
    (enclosed (r +ℤ pos 1) l)
    ws
    (All-weaker
    (λ w. w.early <ℤ b → w.early ≤ℤ r)
    (λ w. enclosed b l w ≡ enclosed (r +ℤ pos 1) l w)
    (λ w k.
    ap
    (λ t. t && le_z w.late l)
    (by_lt_z
    w.early
    b
    (λ q. let z = k q in leZ_no b w.early q ∙ sym (leZ_no (r +ℤ pos 1) w.early (omega (arith, ints))))
    (λ q. le_z_yes b w.early q ∙ sym (le_z_yes (r +ℤ pos 1) w.early (omega (arith, ints))))))
    ws
    a)

-- ---- the greatest of the earlies before b

abbrev before_list : List Window → ℤ → List ℤ
before_list ws b = filter (before b) (map (λ (w : Window). w.early) ws)

all_before : (P : ℤ → Type 0) (ws : List Window) (b : ℤ) → AllByRecursion P (before_list ws b) → AllByRecursion (λ w. w.early <ℤ b → P w.early) ws
all_before P [] b a = tt
all_before P (w ∷ ws) b a = go (all_before P ws b) (lt_z w.early b) refl a
  where
    go : (AllByRecursion P (before_list ws b) → AllByRecursion (λ w. w.early <ℤ b → P w.early) ws) → (t : Bool) → lt_z w.early b ≡ t → AllByRecursion P (cond t (w.early ∷ before_list ws b) (before_list ws b)) → AllByRecursion (λ w. w.early <ℤ b → P w.early) (w ∷ ws)
    go ih true e a = ((λ _. a.0), ih a.1)
    go ih false e a = ((λ h. let d = ltZ_false w.early b e in absurd (omega (arith, ints))), ih a)

all_filter : (P : ℤ → Type 0) (b : ℤ) (ys : List ℤ) → AllByRecursion (λ y. y <ℤ b → P y) ys → AllByRecursion P (filter (before b) ys)
all_filter P b [] a = tt
all_filter P b (y ∷ ys) a =
    cond_both (lt_z y b) (y ∷ filter (before b) ys) (filter (before b) ys) (AllByRecursion P)
    (λ e. (a.0 (ltZ_true y b e), all_filter P b ys a.1))
    (λ e. all_filter P b ys a.1)

-- an early that is not before b is put aside as one that is
abbrev pub raised : ℤ → ℤ → Window → ℤ
raised b t w = cond (lt_z w.early b) w.early t

raised_all : (b t m : ℤ) (ws : List Window) → t ≤ℤ m → fold int_max m (map (raised b t) ws) ≡ fold int_max m (before_list ws b)
raised_all b t m [] h = refl
raised_all b t m (w ∷ ws) h = go (lt_z w.early b) (raised_all b t (int_max m w.early) ws (omega (arith, ints, clamps))) (raised_all b t m ws h)
  where
    go : (c : Bool) → fold int_max (int_max m w.early) (map (raised b t) ws) ≡ fold int_max (int_max m w.early) (before_list ws b) → fold int_max m (map (raised b t) ws) ≡ fold int_max m (before_list ws b) → fold int_max (int_max m (cond c w.early t)) (map (raised b t) ws) ≡ fold int_max m (cond c (w.early ∷ before_list ws b) (before_list ws b))
    go true i j = i
    go false i j = let e : int_max m t ≡ m = omega (arith, ints, clamps, h) in ap (λ z. fold int_max z (map (raised b t) ws)) e ∙ j

-- where there is none before b, and where there is a first one
pub none_before : (ws : List Window) (b : ℤ) → find (before b) (map (λ (w : Window). w.early) ws) ≡ None → before_list ws b ≡ []
none_before [] b e = refl
none_before (w ∷ ws) b e = go (lt_z w.early b) e (none_before ws b)
  where
    go : (c : Bool) → cond c (Some w.early) (find (before b) (map (λ (w : Window). w.early) ws)) ≡ None → (find (before b) (map (λ (w : Window). w.early) ws) ≡ None → before_list ws b ≡ []) → cond c (w.early ∷ before_list ws b) (before_list ws b) ≡ []
    go true e ih = absurd (let z : ◌≡◌ {A = ℕ} 0 1 = cc in omega arith)
    go false e ih = ih e

some_before : (ws : List Window) (b t : ℤ) → find (before b) (map (λ (w : Window). w.early) ws) ≡ Some t → (xs : List ℤ) × (before_list ws b ≡ t ∷ xs)
some_before [] b t e = absurd (let z : ◌≡◌ {A = ℕ} 0 1 = cc in omega arith)
some_before (w ∷ ws) b t e = go (lt_z w.early b) e (some_before ws b t)
  where
    go : (c : Bool) → cond c (Some w.early) (find (before b) (map (λ (w : Window). w.early) ws)) ≡ Some t → (find (before b) (map (λ (w : Window). w.early) ws) ≡ Some t → (xs : List ℤ) × (before_list ws b ≡ t ∷ xs)) → (xs : List ℤ) × (cond c (w.early ∷ before_list ws b) (before_list ws b) ≡ t ∷ xs)
    go true e ih = (before_list ws b, (let z : w.early ≡ t = cc in ap (λ x. x ∷ before_list ws b) z))
    go false e ih = ih e

-- what holds of each holds of the greatest
reached : (P : ℤ → Type 0) (x : ℤ) (xs : List ℤ) → AllByRecursion P (x ∷ xs) → P (fold int_max x xs)
reached P x xs a =
    ⊎_elim (λ e. subst P (sym e) a.0) (λ c. subst P c.2 (All-get_or P xs c.0 (fold int_max x xs) c.1 a.1)) (fold-int_max_reached x xs (fold int_max x xs) refl)

pub none_left : (ws : List Window) (b : ℤ) → before_list ws b ≡ [] → rest ws b ≡ []
unfolding rest
none_left ws b e =
    let k = all_before (λ _. ⊥) ws b (subst (AllByRecursion (λ _. ⊥)) (sym e) tt) in
    none_kept b (earlies ws) (all_earlies (λ x. b ≤ℤ x) ws (All-weaker (λ w. w.early <ℤ b → ⊥) (λ w. b ≤ℤ w.early) (λ w h. by_lt_z w.early b (λ l. absurd (h l)) (λ l. l)) ws k))

next_left : (ws : List Window) (b r : ℤ) → AllByRecursion Timed ws → AllByRecursion (λ y. y ≤ℤ r) (before_list ws b) → ((P : ℤ → Type 0) → AllByRecursion P (before_list ws b) → P r) → Next ws b r
unfolding rest
next_left ws b r a top has =
    let low = all_before (λ y. y ≤ℤ r) ws b top in
    let near = has (λ y. (y <ℤ b) × (negsuc 86399 ≤ℤ y)) (all_filter (λ y. (y <ℤ b) × (negsuc 86399 ≤ℤ y)) b (map (λ (w : Window). w.early) ws) (all_map (λ y. y <ℤ b → (y <ℤ b) × (negsuc 86399 ≤ℤ y)) (λ w. w.early) ws (All-weaker Timed (λ w. w.early <ℤ b → (w.early <ℤ b) × (negsuc 86399 ≤ℤ w.early)) (λ w t h. (h, t.0)) ws a))) in
    let here : AllByRecursion (λ x. x ≡ r → ⊥) (earlies ws) → ⊥ = λ k. has (λ y. y ≡ r → ⊥) (all_filter (λ y. y ≡ r → ⊥) b (map (λ (w : Window). w.early) ws) (all_map (λ y. y <ℤ b → y ≡ r → ⊥) (λ w. w.early) ws (All-weaker (λ w. w.early ≡ r → ⊥) (λ w. w.early <ℤ b → w.early ≡ r → ⊥) (λ w h _. h) ws (has_earlies (λ x. x ≡ r → ⊥) ws k)))) refl in
    record {
      split = kept_top b r (earlies ws) near.0 (falling_earlies ws) (all_earlies (λ x. x <ℤ b → x ≤ℤ r) ws low) here;
      under = near.0;
      over = near.1;
      same = counts ws b r near.0 low;
    }

-- the greatest, from the first one before b on
pub picked : (ws : List Window) (b t : ℤ) → AllByRecursion Timed ws → find (before b) (map (λ (w : Window). w.early) ws) ≡ Some t → Next ws b (fold int_max t (map (raised b t) ws))
picked ws b t a e =
    let s = some_before ws b t e in
    let r = fold int_max t (t ∷ s.0) in
    let q : fold int_max t (map (raised b t) ws) ≡ r = raised_all b t t ws (omega (arith, ints)) ∙ ap (fold int_max t) s.1 in
    subst (Next ws b) (sym q) (next_left ws b r a (subst (AllByRecursion (λ y. y ≤ℤ r)) (sym s.1) (folded_max_z_bounds t (t ∷ s.0) r refl).1) (λ P h. let k = subst (AllByRecursion P) s.1 h in reached P t (t ∷ s.0) (k.0, k)))

pub all_left : (ws : List Window) → AllByRecursion (λ w. w.early <ℤ pos 86401) ws → rest ws (pos 86401) ≡ earlies ws
unfolding rest
all_left ws a = kept_all (pos 86401) (earlies ws) (all_earlies (λ x. x <ℤ pos 86401) ws a)

pub left_length : (ws : List Window) → AllByRecursion (λ w. w.early <ℤ pos 86401) ws → length (rest ws (pos 86401)) ≤ length ws
left_length ws a = let e = ap length (all_left ws a) in let h = length_earlies ws in omega (arith, e, h)
