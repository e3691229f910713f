-- The written order, turn by turn.
use Rattle.std.proofs.Common.{◌≡◌, ℕ, zero, suc, ◌+◌, ◌-◌, ◌*◌, ◌<◌, ◌≤◌, Bool, true, false, filter, set, not, eqb, List, [], ◌∷◌, ◌++◌, map, length, get_or, take, ℤ, pos, negsuc, ◌+ℤ◌, ◌≤ℤ◌, fold, Option, Some, None, IfSome, sym, refl, ap, ◌∙◌, subst, inr, append-nil, append_assoc, arith}
use Rattle.std.specs.Int.{int_min, int_max}
use Rattle.std.specs.Ordering.{min_by_ordering, int_cmp, ord_max}
use Rattle.std.specs.Option.{option_map}
use Rattle.std.specs.List.{AllByRecursion, reduce}
use Rattle.std.proofs.lemmas.Int.{ints, clamps}
use Rattle.std.proofs.ByRecursion.{All-weaker, all_kept_by}
use Rattle.std.proofs.lemmas.List.{take_more, take_all, length-take-le, length_push, get_or_default}
use Rattle.std.proofs.lemmas.Bool.{not_from_false, not_from_true, ne_eqb, eq-eqb}
use Rattle.std.proofs.lemmas.List.Filters.{FiltersInPlace, FiltersInPlace-more_no, FiltersInPlace-more_set}
use Rattle.field.specs.declared.window.Window.{Window}
use Rattle.theory.specs.declared.span.Span.{Span}
use Rattle.theory.specs.declared.group.Group.{Group}
use Rattle.theory.specs.declared.group.Played.{Played}
use Rattle.field.specs.Windows.{outside}
use Rattle.theory.specs.Closed.{Off, least_outside}
use Rattle.theory.specs.Written.{by_place, least_early, chosen, without, play, play_all}
use Rattle.theory.proofs.Closed.{least_ge, least_least}
use Rattle.theory.proofs.Complete.{chosen_among, without_lt, count_all}
use Rattle.reckoning.specs.Order.{least_of, chosen_of, played}
use Rattle.reckoning.specs.Values.{Fit, Pace, Timed, Near}

-- ---- the groups of a field

by_place_push : (i : ℕ) (ws : List Window) (w : Window) → by_place i (ws ++ w ∷ []) ≡ by_place i ws ++ record { place = i + length ws; win = w } ∷ []
unfolding by_place
by_place_push i [] w = let e : i ≡ i + 0 = omega arith in ap (λ k. record { place = k; win = w } ∷ []) e
by_place_push i (x ∷ ws) w =
    let e : suc i + length ws ≡ i + suc (length ws) = omega arith in
    ap (λ z. record { place = i; win = x } ∷ z) (by_place_push (suc i) ws w ∙ ap (λ k. by_place (suc i) ws ++ record { place = k; win = w } ∷ []) e)

pub by_place_more : (ws : List Window) (gs : List Group) (k : ℕ) → k < length ws → gs ≡ by_place 0 (take k ws) → gs ++ record { place = k; win = get_or ws k outside } ∷ [] ≡ by_place 0 (take (k + 1) ws)
by_place_more ws gs k l h =
    let len = length-take-le k ws (omega arith) in
    let z : 0 + length (take k ws) ≡ k = omega (arith, len) in
    ap (λ y. y ++ record { place = k; win = get_or ws k outside } ∷ []) h
    ∙ ap (λ i. by_place 0 (take k ws) ++ record { place = i; win = get_or ws k outside } ∷ []) (sym z)
    ∙ sym (by_place_push 0 (take k ws) (get_or ws k outside))
    ∙ ap (by_place 0) (sym (take_more ws k outside l))

pub by_place_none : by_place 0 [] ≡ []
unfolding by_place
by_place_none = refl

pub length_by_place : (i : ℕ) (ws : List Window) → length (by_place i ws) ≡ length ws
unfolding by_place
length_by_place i [] = refl
length_by_place i (w ∷ ws) = ap suc (length_by_place (suc i) ws)

-- ---- the least early and the next

abbrev pub lesser : ℤ → ℤ → ℤ
lesser x y = min_by_ordering (int_cmp x y) x y

lesser_more : (x : ℤ) (g : Group) (gs : List Group) → fold lesser x (map (λ h. h.win.early) (g ∷ gs)) ≡ int_min x (least_early g gs)
unfolding least_early
lesser_more x g [] = grind (arith, ints)
lesser_more x g (h ∷ hs) = let e : int_min (lesser x g.win.early) (least_early h hs) ≡ int_min x (int_min g.win.early (least_early h hs)) = grind (arith, ints) in lesser_more (lesser x g.win.early) h hs ∙ e

pub least_among : (gs : List Group) → reduce lesser (map (λ g. g.win.early) gs) ≡ least_of gs
unfolding least_of least_early
least_among [] = refl
least_among (g ∷ []) = refl
least_among (g ∷ h ∷ hs) = ap Some (lesser_more g.win.early h hs)

-- ---- a turn

play_turn : (p : ℤ) (f : List Span) (n : ℕ) (t : ℤ) (gs : List Group) (e u : ℤ) (h : Group) → 0 < n → least_of gs ≡ Some e → u ≡ least_outside f (int_max t e) → chosen_of u gs ≡ Some h → play p f n t gs ≡ record { place = h.place; time = u } ∷ play p f (n - 1) (u +ℤ p) (without h.place gs)
unfolding play least_of chosen_of
play_turn p f zero t gs e u h a l is c = absurd (omega arith)
play_turn p f (suc n) t [] e u h a l is c = cc
play_turn p f (suc n) t (g ∷ gs) e u h a l is c =
    let m : suc n - 1 ≡ n = omega arith in
    let k : least_early g gs ≡ e = cc in
    let q : chosen u g gs ≡ h = cc in
    let turn : ℕ → ℤ → Group → List Played = λ k v x. record { place = x.place; time = v } ∷ play p f k (v +ℤ p) (without x.place (g ∷ gs)) in
    ap (λ x. turn n x (chosen x g gs)) (ap (λ x. least_outside f (int_max t x)) k ∙ sym is) ∙ ap (turn n u) q ∙ ap (λ k. turn k u h) (sym m)

pub fewer : (t : ℤ) (gs : List Group) (h : Group) → chosen_of t gs ≡ Some h → length (without h.place gs) < length gs
unfolding chosen_of
fewer t [] h e = cc
fewer t (g ∷ gs) h e =
    let b = chosen t g gs in
    let q : b ≡ h = cc in
    let a = without_lt (λ w. true) b (g ∷ gs) (chosen_among t g gs) refl in
    let x = count_all (without b.place (g ∷ gs)) in
    let y = count_all (g ∷ gs) in
    subst (λ z. length (without z.place (g ∷ gs)) < length (g ∷ gs)) q (omega (arith, a, x, y))

least_low : (t : ℤ) (g : Group) (gs : List Group) → AllByRecursion (λ g. t ≤ℤ g.win.early) (g ∷ gs) → t ≤ℤ least_early g gs
unfolding least_early
least_low t g [] a = a.0
least_low t g (h ∷ hs) a = let k = least_low t h hs a.1 in omega (arith, ints, clamps, a.0)

-- starting before the least early changes nothing
play_from : (p : ℤ) (f : List Span) (t : ℤ) (gs : List Group) → AllByRecursion (λ g. t ≤ℤ g.win.early) gs → play_all p f gs ≡ play p f (length gs) t gs
unfolding play_all play
play_from p f t [] a = refl
play_from p f t (g ∷ gs) a =
    let e = least_early g gs in
    let low = least_low t g gs a in
    let m : int_max e e ≡ int_max t e = omega (arith, ints, clamps) in
    ap (λ z. let u = least_outside f z in let h = chosen u g gs in record { place = h.place; time = u } ∷ play p f (length gs) (u +ℤ p) (without h.place (g ∷ gs))) m

-- ---- how high the starts go

least_high : (f : List Span) (t z : ℤ) → AllByRecursion Fit f → t ≤ℤ z → pos 86401 ≤ℤ z → least_outside f t ≤ℤ z
least_high f t z a h k = least_least f t z h (All-weaker Fit (Off z) (λ s q. inr (omega (arith, ints, q.1))) f a)

early_soon : (g : Group) (gs : List Group) → AllByRecursion (λ g. g.win.early ≤ℤ pos 86400) (g ∷ gs) → least_early g gs ≤ℤ pos 86400
unfolding least_early
early_soon g [] a = a.0
early_soon g (h ∷ hs) a = omega (arith, ints, clamps, a.0)

least_soon : (gs : List Group) (e : ℤ) → least_of gs ≡ Some e → AllByRecursion (λ g. g.win.early ≤ℤ pos 86400) gs → e ≤ℤ pos 86400
unfolding least_of
least_soon [] e l a = cc
least_soon (g ∷ gs) e l a = let k : least_early g gs ≡ e = cc in subst (λ z. z ≤ℤ pos 86400) k (early_soon g gs a)

-- ---- taking a group out

-- a filler
abbrev pub noone : Group
noone = record { place = 0; win = outside }

abbrev pub others : ℕ → Group → Bool
others place g = not (eqb g.place place)

pub remove_keep : (place : ℕ) (xs ys zs : List Group) (k m i : ℕ) → i < length ys → ((get_or ys i noone).place ≡ place → ⊥) → zs ≡ set ys k (get_or ys i noone) → m ≡ k + 1 → FiltersInPlace (others place) xs ys k i → FiltersInPlace (others place) xs zs m (i + 1)
remove_keep place xs ys zs k m i l n e d h =
    let x = get_or ys i noone in
    let t : others place x ≡ true = not_from_false (eqb x.place place) (ne_eqb x.place place n) in
    subst (λ z. FiltersInPlace (others place) xs z m (i + 1)) (sym e) (subst (λ z. FiltersInPlace (others place) xs (set ys k x) z (i + 1)) (sym d) (FiltersInPlace-more_set h l t (get_or_default ys i noone x l)))

pub remove_skip : (place : ℕ) (xs ys zs : List Group) (k m i : ℕ) → i < length ys → (get_or ys i noone).place ≡ place → zs ≡ ys → m ≡ k → FiltersInPlace (others place) xs ys k i → FiltersInPlace (others place) xs zs m (i + 1)
remove_skip place xs ys zs k m i l n e d h =
    let x = get_or ys i noone in
    let t : others place x ≡ false = not_from_true (eqb x.place place) (eq-eqb x.place place n) in
    subst (λ z. FiltersInPlace (others place) xs z m (i + 1)) (sym e) (subst (λ z. FiltersInPlace (others place) xs ys z (i + 1)) (sym d) (FiltersInPlace-more_no h l t (get_or_default ys i noone x l)))

pub removed : (place : ℕ) (xs ys : List Group) (k i : ℕ) → length xs ≤ i → FiltersInPlace (others place) xs ys k i → take k ys ≡ without place xs
unfolding without
removed place xs ys k i a h = h.front ∙ ap (filter (others place)) (take_all i xs a)

-- ---- midway: what is played so far, and then what is left from t on, is what is played in all

pub record Midway (p : ℤ) (f : List Span) (ws : List Window) (out : List Played) (t : ℤ) (gs : List Group) : Type 0 where
  pub whole : out ++ play p f (length ws - length out) t gs ≡ played p f ws
  pub fuel : length out + length gs ≤ length ws
  pub low : negsuc 86399 ≤ℤ t
  pub high : t ≤ℤ pos (86401 + 3600 * length out)
  pub soon : AllByRecursion (λ g. g.win.early ≤ℤ pos 86400) gs

all_by_place : (P : Window → Type 0) (i : ℕ) (ws : List Window) → AllByRecursion P ws → AllByRecursion (λ g. P g.win) (by_place i ws)
unfolding by_place
all_by_place P i [] a = tt
all_by_place P i (w ∷ ws) a = (a.0, all_by_place P (suc i) ws a.1)

pub all_without : (P : Group → Type 0) (i : ℕ) (gs : List Group) → AllByRecursion P gs → AllByRecursion P (without i gs)
unfolding without
all_without P i gs a = all_kept_by (λ g. not (eqb g.place i)) P gs a

pub midway_begin : (p : ℤ) (f : List Span) (ws : List Window) (out : List Played) (gs : List Group) → AllByRecursion Timed ws → out ≡ [] → gs ≡ by_place 0 ws → Midway p f ws out (negsuc 86399) gs
midway_begin p f ws out gs a o e =
    let k = length_by_place 0 ws in
    let q = play_from p f (negsuc 86399) (by_place 0 ws) (all_by_place (λ w. negsuc 86399 ≤ℤ w.early) 0 ws (All-weaker Timed (λ w. negsuc 86399 ≤ℤ w.early) (λ w t. t.0) ws a)) in
    let z : length (by_place 0 ws) ≡ length ws - 0 = omega (arith, k) in
    let m : Midway p f ws [] (negsuc 86399) (by_place 0 ws) = record {
      whole = sym (q ∙ ap (λ n. play p f n (negsuc 86399) (by_place 0 ws)) z);
      fuel = omega (arith, k);
      low = omega (arith, ints);
      high = omega (arith, ints);
      soon = all_by_place (λ w. w.early ≤ℤ pos 86400) 0 ws (All-weaker Timed (λ w. w.early ≤ℤ pos 86400) (λ w t. t.1) ws a);
    } in
    subst (λ y. Midway p f ws y (negsuc 86399) gs) (sym o) (subst (Midway p f ws [] (negsuc 86399)) (sym e) m)

play_none : (p : ℤ) (f : List Span) (n : ℕ) (t : ℤ) (gs : List Group) → least_of gs ≡ None → play p f n t gs ≡ []
unfolding play least_of
play_none p f zero t gs e = refl
play_none p f (suc n) t [] e = refl
play_none p f (suc n) t (g ∷ gs) e = cc

pub midway_end : (p : ℤ) (f : List Span) (ws : List Window) (out : List Played) (t : ℤ) (gs : List Group) → least_of gs ≡ None → Midway p f ws out t gs → out ≡ played p f ws
midway_end p f ws out t gs n m = sym (append-nil out) ∙ ap (λ y. out ++ y) (sym (play_none p f (length ws - length out) t gs n)) ∙ m.whole

-- a start is far from the ends of 64 bits
pub midway_near : (p : ℤ) (f : List Span) (ws : List Window) (out : List Played) (t : ℤ) (gs : List Group) (e u : ℤ) → AllByRecursion Fit f → length ws ≤ 64 → Midway p f ws out t gs → least_of gs ≡ Some e → u ≡ least_outside f (int_max t e) → Near u
midway_near p f ws out t gs e u fit few m l is =
    let up = least_ge f (int_max t e) in
    let low = least_soon gs e l m.soon in
    let hi = least_high f (int_max t e) (pos (86401 + 3600 * length out)) fit (omega (arith, ints, clamps, m.high, low)) (omega (arith, ints)) in
    (omega (arith, ints, clamps, up, is, m.low), omega (arith, ints, hi, is, m.fuel))

pub midway_turn : (p : ℤ) (f : List Span) (ws : List Window) (out : List Played) (t : ℤ) (gs : List Group) (e u : ℤ) (h : Group) → Pace p → AllByRecursion Fit f → Midway p f ws out t gs → least_of gs ≡ Some e → u ≡ least_outside f (int_max t e) → chosen_of u gs ≡ Some h → Midway p f ws (out ++ record { place = h.place; time = u } ∷ []) (u +ℤ p) (without h.place gs)
midway_turn p f ws out t gs e u h pace fit m l is c =
    let s : Played = record { place = h.place; time = u } in
    let n = length ws - length out in
    let lt = fewer u gs h c in
    let turn = play_turn p f n t gs e u h (omega (arith, m.fuel)) l is c in
    let len = length_push out s in
    let k : n - 1 ≡ length ws - length (out ++ s ∷ []) = omega (arith, len) in
    let up = least_ge f (int_max t e) in
    let low = least_soon gs e l m.soon in
    let hi = least_high f (int_max t e) (pos (86401 + 3600 * length out)) fit (omega (arith, ints, clamps, m.high, low)) (omega (arith, ints)) in
    record {
      whole = append_assoc out (s ∷ []) (play p f (length ws - length (out ++ s ∷ [])) (u +ℤ p) (without h.place gs)) ∙ ap (λ z. out ++ (s ∷ play p f z (u +ℤ p) (without h.place gs))) (sym k) ∙ ap (λ y. out ++ y) (sym turn) ∙ m.whole;
      fuel = omega (arith, lt, len, m.fuel);
      low = omega (arith, ints, clamps, up, is, m.low, pace.0);
      high = omega (arith, ints, hi, is, len, pace.1);
      soon = all_without (λ g. g.win.early ≤ℤ pos 86400) h.place gs m.soon;
    }

-- ---- what the code reads

pub max_is : (x y : ℤ) → ord_max int_cmp x y ≡ int_max x y
max_is x y = grind (arith, ints)

chosen_some : (t e : ℤ) (gs : List Group) → least_of gs ≡ Some e → (h : Group) × (chosen_of t gs ≡ Some h)
unfolding least_of chosen_of
chosen_some t e [] l = cc
chosen_some t e (g ∷ gs) l = (chosen t g gs, refl)

-- a group goes at u, and o tells its place
pub next_read : (f : List Span) (t e u : ℤ) (gs xs : List Group) (o : Option ℕ) → least_of gs ≡ Some e → u ≡ least_outside f (int_max t e) → xs ≡ gs → (IfSome (least_of xs) (λ e. e ≤ℤ u) → o ≡ option_map (λ g. g.place) (chosen_of u xs)) → (h : Group) × (chosen_of u gs ≡ Some h) × (o ≡ Some h.place)
next_read f t e u gs xs o l is same said =
    let k = chosen_some u e gs l in
    let up = least_ge f (int_max t e) in
    let low : e ≤ℤ u = omega (arith, ints, clamps, up, is) in
    let r = said (subst (λ z. IfSome z (λ e. e ≤ℤ u)) (sym (ap least_of same ∙ l)) low) in
    (k.0, k.1, r ∙ ap (option_map (λ g. g.place)) (ap (chosen_of u) same ∙ k.1))

pub midway_read : (p : ℤ) (f : List Span) (ws : List Window) (out ss : List Played) (t v : ℤ) (gs hs : List Group) → ss ≡ out → v ≡ t → hs ≡ gs → Midway p f ws out t gs → Midway p f ws ss v hs
midway_read p f ws out ss t v gs hs a b d m = subst (λ y. Midway p f ws y v hs) (sym a) (subst (λ y. Midway p f ws out y hs) (sym b) (subst (Midway p f ws out t) (sym d) m))
