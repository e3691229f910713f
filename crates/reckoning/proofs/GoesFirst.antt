-- The group that goes first: of those released, the first with the least late.
use Rattle.std.proofs.Common.{◌≡◌, Bool, cond, List, [], ◌∷◌, map, filter, fold, Option, Some, None, IfSome, Ordering, ℤ, ◌≤ℤ◌, ◌<ℤ◌, sym, refl, ap, ◌∙◌, subst, arith}
use Rattle.std.specs.declared.cmp.Ordering.TheVariants.{Less, Equal, Greater}
use Rattle.std.specs.Ordering.{min_by_ordering, int_cmp}
use Rattle.std.specs.Option.{option_map}
use Rattle.std.specs.List.{FoldsTo, reduce}
use Rattle.std.specs.Int.{int_min}
use Rattle.std.specs.Fn.{CalledAt}
use Rattle.std.specs.Iterator.{PicksMinByKey, KeyTurn}
use Rattle.std.proofs.lemmas.Bool.{cond_both, cond-true, cond-false}
use Rattle.std.proofs.lemmas.Int.{ints, clamps}
use Rattle.std.proofs.lemmas.Iterator.{YieldsList}
use Rattle.std.proofs.iter.Yields.{gives_Drains}
use denote.Param.Members.{Mut}
use denote.Ref.{Bor}
use lib.Signed.{le_z}
use Rattle.theory.specs.declared.group.Group.{Group}
use Rattle.theory.specs.Written.{least_early, goes_first, chosen}
use Rattle.theory.proofs.Closed.{leZ_true, leZ_false}
use Rattle.reckoning.specs.Order.{least_of, chosen_of}

-- ---- what `min_by_key` gives

abbrev pub lesser_by : {B K : Type 0} → (K → K → Ordering) → (B → K) → B → B → B
lesser_by cmp key x z = min_by_ordering (cmp (key x) (key z)) x z

module _ {A B F K : Type 0} (v : A → B) (g : Mut F (Bor A × Unit {0}) K) (cmp : K → K → Ordering) (key : B → K) (f : F) (says : (x : A) (k : K) (q : F) → CalledAt g f x k q → (q ≡ f) × (k ≡ key (v x))) where
  seen : (o : Ordering) (x z : A) → v (min_by_ordering o x z) ≡ min_by_ordering o (v x) (v z)
  seen Less x z = refl
  seen Equal x z = refl
  seen Greater x z = refl

  key_seen : (o : Ordering) (x z : B) → min_by_ordering o (key x) (key z) ≡ key (min_by_ordering o x z)
  key_seen Less x z = refl
  key_seen Equal x z = refl
  key_seen Greater x z = refl

  turns : (xs : List A) (x : A) (k : K) (p : F) (q : F × K) (y : A) → p ≡ f → k ≡ key (v x) → FoldsTo {P = (F × K) × A} (KeyTurn min_by_ordering min_by_ordering g cmp) ((p, k), x) xs (q, y) → v y ≡ fold (lesser_by cmp key) (v x) (map v xs)
  turns [] x k p q y e d h = sym (ap (λ z. v z.1) h)
  turns (z ∷ zs) x k p q y e d h =
      let j = h.0 in
      let t = h.1 in
      let said = says z t.0 j.0.0 (subst (λ w. CalledAt g w z t.0 j.0.0) e t.2) in
      let o : t.1 ≡ cmp (key (v x)) (key (v z)) = sym t.3 ∙ ap (λ w. cmp w t.0) d ∙ ap (cmp (key (v x))) said.1 in
      let b : v j.1 ≡ min_by_ordering t.1 (v x) (v z) = ap v t.5 ∙ seen t.1 x z in
      let n : j.0.1 ≡ key (v j.1) = t.4 ∙ ap (λ w. min_by_ordering t.1 w t.0) d ∙ ap (min_by_ordering t.1 (key (v x))) said.1 ∙ key_seen t.1 (v x) (v z) ∙ ap key (sym b) in
      turns zs j.1 j.0.1 j.0.0 q y said.0 n h.2 ∙ ap (λ w. fold (lesser_by cmp key) w (map v zs)) (b ∙ ap (λ w. min_by_ordering w (v x) (v z)) o)

  pub picked : {S : Type 0} {steps : S → Option A → S → Type 0} {all : List B} (s : S) (r : Option A) → PicksMinByKey steps g cmp s f r → YieldsList steps v s all → option_map v r ≡ reduce (lesser_by cmp key) all
  picked {steps = steps} {all} s None h y = ap (reduce (lesser_by cmp key)) (gives_Drains steps v [] all s y.runs h)
  picked {steps = steps} {all} s (Some b) h y =
      let said = says h.0 h.2 h.3 h.6 in
      ap Some (turns h.1 h.0 h.2 h.3 h.4 b said.0 said.1 h.7) ∙ ap (reduce (lesser_by cmp key)) (gives_Drains steps v (h.0 ∷ h.1) all s y.runs h.5)

-- ---- of groups

abbrev lesser : Group → Group → Group
lesser = lesser_by int_cmp (λ g. g.win.late)

regroup : (g h k : Group) → lesser (lesser g h) k ≡ lesser g (lesser h k)
regroup g h k = grind (arith, ints)

lesser_first : (g h : Group) (hs : List Group) → fold lesser (lesser g h) hs ≡ lesser g (fold lesser h hs)
lesser_first g h [] = refl
lesser_first g h (k ∷ ks) = ap (λ z. fold lesser z ks) (regroup g h k) ∙ lesser_first g (lesser h k) ks

abbrev pub released : ℤ → Group → Bool
released t g = le_z g.win.early t

-- b is the one that goes first of groups whose least early is e, of which those released are given
Goes : ℤ → List Group → Group → ℤ → Type 0
Goes t [] b e = (t <ℤ b.win.early) × (t <ℤ e)
Goes t (h ∷ hs) b e = (b ≡ fold lesser h hs) × (b.win.early ≤ℤ t)

goes_more : (t : ℤ) (rs : List Group) (b g : Group) (e : ℤ) → Goes t rs b e → Goes t (cond (released t g) (g ∷ rs) rs) (cond (goes_first t g b) g b) (int_min g.win.early e)
unfolding Goes
goes_more t [] b g e n =
    let h = cond (goes_first t g b) g b in
    cond_both (released t g) (g ∷ []) [] (λ z. Goes t z h (int_min g.win.early e))
    (λ y. let c : h ≡ g = cond-true (goes_first t g b) g b (grind (arith, ints)) in (c, subst (λ z. z.win.early ≤ℤ t) (sym c) (leZ_true g.win.early t y)))
    (λ y. let c : h ≡ b = cond-false (goes_first t g b) g b (grind (arith, ints)) in (subst (λ z. t <ℤ z.win.early) (sym c) n.0, let k = leZ_false g.win.early t y in omega (arith, ints, clamps, n.1)))
goes_more t (r ∷ rs) b g e n =
    let h = cond (goes_first t g b) g b in
    cond_both (released t g) (g ∷ r ∷ rs) (r ∷ rs) (λ z. Goes t z h (int_min g.win.early e))
    (λ y. let c : h ≡ lesser g b = grind (arith, ints) in (c ∙ ap (lesser g) n.0 ∙ sym (lesser_first g r rs), cond_both (goes_first t g b) g b (λ z. z.win.early ≤ℤ t) (λ _. leZ_true g.win.early t y) (λ _. n.1)))
    (λ y. let c : h ≡ b = cond-false (goes_first t g b) g b (grind (arith, ints)) in (c ∙ n.0, subst (λ z. z.win.early ≤ℤ t) (sym c) n.1))

goes : (t : ℤ) (g : Group) (gs : List Group) → Goes t (filter (released t) (g ∷ gs)) (chosen t g gs) (least_early g gs)
unfolding Goes chosen least_early
goes t g [] = cond_both (released t g) (g ∷ []) [] (λ z. Goes t z g g.win.early) (λ y. (refl, leZ_true g.win.early t y)) (λ y. (leZ_false g.win.early t y, leZ_false g.win.early t y))
goes t g (h ∷ hs) = goes_more t (filter (released t) (h ∷ hs)) (chosen t h hs) g (least_early h hs) (goes t h hs)

first_of : (t : ℤ) (rs : List Group) (b : Group) (e : ℤ) → Goes t rs b e → e ≤ℤ t → reduce lesser rs ≡ Some b
unfolding Goes
first_of t [] b e n l = absurd (omega (arith, ints, n.1))
first_of t (h ∷ hs) b e n l = ap Some (sym n.0)

pub first_released : (t : ℤ) (gs : List Group) → IfSome (least_of gs) (λ e. e ≤ℤ t) → reduce lesser (filter (released t) gs) ≡ chosen_of t gs
unfolding least_of chosen_of
first_released t [] l = refl
first_released t (g ∷ gs) l = first_of t (filter (released t) (g ∷ gs)) (chosen t g gs) (least_early g gs) (goes t g gs) l
