-- Where the method does not fail, the written order is an order of play.
use Rattle.std.proofs.Common.{◌≡◌, ℕ, zero, suc, ◌+◌, ◌<◌, ◌≤◌, Bool, true, false, cond, not, ◌||◌, eqb, ◌⊎◌, List, [], ◌∷◌, map, length, ℤ, pos, ◌+ℤ◌, ◌≤ℤ◌, Some, sym, refl, ap, ◌∙◌, subst, inl, inr, ⊎_elim, arith}
use lib.Signed.{le_z, lt_z}
use Rattle.std.specs.Int.{int_min, int_max}
use Rattle.std.specs.List.{AllByRecursion}
use Rattle.std.proofs.lemmas.Int.{ints, by_lt_z, clamps}
use Rattle.std.proofs.ByRecursion.{All-weaker, All-get_or, all_kept_by, All-map}
use Rattle.std.proofs.lemmas.List.{length-map}
use Rattle.std.proofs.lemmas.Bool.{cond_both, cond-false, eqb-true, eqb-false, eq-eqb, and_parts, and_from, and_cases, or_cases, or_parts, not_from_true}
use Rattle.field.specs.declared.window.Window.{Window}
use Rattle.field.specs.Windows.{outside}
use Rattle.theory.specs.Orders.{window_at, start_at, In, Apart, OrderOfPlay, count, enclosed, counted}
use Rattle.theory.specs.declared.span.Span.{Span}
use Rattle.theory.specs.Closed.{least_outside}
use Rattle.theory.specs.Method.{forbidden}
use Rattle.theory.specs.declared.group.Group.{Group}
use Rattle.theory.specs.declared.group.Played.{Played}
use Rattle.theory.specs.Written.{by_place, least_early, goes_first, chosen, without, play, time_of, play_all, written}
use Rattle.theory.proofs.Closed.{leZ_true, leZ_false, ltZ_true, ltZ_false, least_ge, least_out, Fits, fits_less}
use Rattle.theory.proofs.Starts.{all_both}
use Rattle.theory.proofs.Settled.{count_le, room_at, room_after}

abbrev pub wins : List Group → List Window
wins gs = map (λ g. g.win) gs

abbrev by : ℤ → Window → Bool
by l w = le_z w.late l

-- ---- which is next

abbrev pub Among : Group → List Group → Type 0
Among h [] = ⊥
Among h (x ∷ xs) = (x ≡ h) ⊎ Among h xs

pub all_among : (P : Group → Type 0) (h : Group) (gs : List Group) → AllByRecursion P gs → Among h gs → P h
all_among P h [] a m = absurd m
all_among P h (x ∷ xs) a (inl e) = subst P e a.0
all_among P h (x ∷ xs) a (inr m) = all_among P h xs a.1 m

pub chosen_among : (t : ℤ) (g : Group) (gs : List Group) → Among (chosen t g gs) (g ∷ gs)
unfolding chosen
chosen_among t g [] = inl refl
chosen_among t g (h ∷ hs) =
    let b = chosen t h hs in
    cond_both (goes_first t g b) g b (λ z. Among z (g ∷ h ∷ hs)) (λ e. inl refl) (λ e. inr (chosen_among t h hs))

abbrev Best : ℤ → Group → Group → Type 0
Best t b x = x.win.early ≤ℤ t → (b.win.early ≤ℤ t) × (b.win.late ≤ℤ x.win.late)

chosen_best : (t : ℤ) (g : Group) (gs : List Group) → AllByRecursion (Best t (chosen t g gs)) (g ∷ gs)
unfolding chosen
chosen_best t g [] = ((λ h. (h, omega (arith, ints))), tt)
chosen_best t g (h ∷ hs) =
    let b = chosen t h hs in
    let ih = chosen_best t h hs in
    let here = le_z g.win.early t in
    let later = lt_z t b.win.early in
    let sooner = le_z g.win.late b.win.late in
    cond_both
    (goes_first t g b)
    g
    b
    (λ z. AllByRecursion (Best t z) (g ∷ h ∷ hs))
    (λ e.
    let k = and_parts here (later || sooner) e in
    let a = leZ_true g.win.early t k.0 in (
      (λ q. (q, omega (arith, ints))),
      All-weaker
          (Best t b)
          (Best t g)
          (λ x z q.
          let y = z q in (
            a,
            ⊎_elim
                (λ c. let d = ltZ_true t b.win.early c in absurd (omega (arith, ints, y.0)))
                (λ c. let d = leZ_true g.win.late b.win.late c in omega (arith, ints, y.1))
                (or_cases later sooner k.1),
          ))
          (h ∷ hs)
          ih,
    ))
    (λ e. (
      (λ q.
          ⊎_elim
          (λ c. let d = leZ_false g.win.early t c in absurd (omega (arith, ints)))
          (λ c.
          let k = or_parts later sooner c in
          let d = ltZ_false t b.win.early k.0 in
          let f = leZ_false g.win.late b.win.late k.1 in
          (d, omega (arith, ints)))
          (and_cases here (later || sooner) e)),
      ih,
    ))

least_early_le : (g : Group) (gs : List Group) → AllByRecursion (λ x. least_early g gs ≤ℤ x.win.early) (g ∷ gs)
unfolding least_early
least_early_le g [] = (omega (arith, ints), tt)
least_early_le g (h ∷ hs) = (
  omega (arith, ints, clamps),
  All-weaker
      (λ x. least_early h hs ≤ℤ x.win.early)
      (λ x. int_min g.win.early (least_early h hs) ≤ℤ x.win.early)
      (λ x k. omega (arith, ints, clamps))
      (h ∷ hs)
      (least_early_le h hs),
)

-- a group is released at any time from the least early on
released : (P : Type 0) (t : ℤ) (g : Group) (gs : List Group) → least_early g gs ≤ℤ t → AllByRecursion (λ x. x.win.early ≤ℤ t → P) (g ∷ gs) → P
unfolding least_early
released P t g [] h a = a.0 h
released P t g (x ∷ xs) h a =
    by_lt_z
    (least_early x xs)
    g.win.early
    (λ k. released P t x xs (omega (arith, ints, clamps)) a.1)
    (λ k. a.0 (omega (arith, ints, clamps)))

-- ---- what is left

count_skip : (f : Window → Bool) (w : Window) (ws : List Window) → count f ws ≤ count f (w ∷ ws)
count_skip f w ws = go (f w)
  where
    go : (b : Bool) → count f ws ≤ cond b (suc (count f ws)) (count f ws)
    go true = omega arith
    go false = omega arith

count_cons : (f : Window → Bool) (w : Window) (us ws : List Window) → count f us < count f ws → count f (w ∷ us) < count f (w ∷ ws)
count_cons f w us ws h = go (f w)
  where
    go : (b : Bool) → cond b (suc (count f us)) (count f us) < cond b (suc (count f ws)) (count f ws)
    go true = omega arith
    go false = h

count_cons_le : (f : Window → Bool) (w : Window) (us ws : List Window) → count f us ≤ count f ws → count f (w ∷ us) ≤ count f (w ∷ ws)
count_cons_le f w us ws h = go (f w)
  where
    go : (b : Bool) → cond b (suc (count f us)) (count f us) ≤ cond b (suc (count f ws)) (count f ws)
    go true = omega arith
    go false = h

count_hit : (f : Window → Bool) (w : Window) (ws : List Window) → f w ≡ true → count f ws < count f (w ∷ ws)
count_hit f w ws e = go (f w) e
  where
    go : (b : Bool) → b ≡ true → count f ws < cond b (suc (count f ws)) (count f ws)
    go true e = omega arith
    go false e = let y : ◌≡◌ {A = ℕ} 0 1 = cc in absurd (omega arith)

kept_at_most : (f : Window → Bool) (b : Bool) (x : Group) (k : List Group) → count f (wins (cond b (x ∷ k) k)) ≤ count f (wins (x ∷ k))
kept_at_most f true x k = omega arith
kept_at_most f false x k = count_skip f x.win (wins k)

without_le : (f : Window → Bool) (i : ℕ) (gs : List Group) → count f (wins (without i gs)) ≤ count f (wins gs)
unfolding without
without_le f i [] = omega arith
without_le f i (x ∷ xs) =
    let a = kept_at_most f (not (eqb x.place i)) x (without i xs) in
    let b = count_cons_le f x.win (wins (without i xs)) (wins xs) (without_le f i xs) in
    omega (arith, a, b)

pub without_lt : (f : Window → Bool) (h : Group) (gs : List Group) → Among h gs → f h.win ≡ true → count f (wins (without h.place gs)) < count f (wins gs)
unfolding without
without_lt f h [] m e = absurd m
without_lt f h (x ∷ xs) (inl q) e =
    let t : not (eqb x.place h.place) ≡ false = not_from_true (eqb x.place h.place) (eq-eqb x.place h.place (ap (λ z. z.place) q)) in
    let k = cond-false (not (eqb x.place h.place)) (x ∷ without h.place xs) (without h.place xs) t in
    let a = without_le f h.place xs in
    let b = count_hit f x.win (wins xs) (subst (λ z. f z.win ≡ true) (sym q) e) in
    subst (λ z. count f (wins z) < count f (wins (x ∷ xs))) (sym k) (omega (arith, a, b))
without_lt f h (x ∷ xs) (inr m) e =
    let a = kept_at_most f (not (eqb x.place h.place)) x (without h.place xs) in
    let b = count_cons f x.win (wins (without h.place xs)) (wins xs) (without_lt f h xs m e) in
    omega (arith, a, b)

all_without : (P : Group → Type 0) (i : ℕ) (gs : List Group) → AllByRecursion P gs → AllByRecursion P (without i gs)
unfolding without
all_without P i gs a = all_kept_by (λ g. not (eqb g.place i)) P gs a

from_without : (P : Group → Type 0) (i : ℕ) (gs : List Group) → AllByRecursion P (without i gs) → AllByRecursion (λ x. (x.place ≡ i) ⊎ P x) gs
unfolding without
from_without P i [] a = tt
from_without P i (x ∷ xs) a = go (from_without P i xs) (eqb x.place i) refl a
  where
    go : (AllByRecursion P (without i xs) → AllByRecursion (λ x. (x.place ≡ i) ⊎ P x) xs) → (b : Bool) → eqb x.place i ≡ b → AllByRecursion P (cond (not b) (x ∷ without i xs) (without i xs)) → AllByRecursion (λ x. (x.place ≡ i) ⊎ P x) (x ∷ xs)
    go ih true e a = (inl (eqb-true x.place i e), ih a)
    go ih false e a = (inr a.0, ih a.1)

-- ---- what is played

abbrev Placed : ℕ → List Played → Type 0
Placed i [] = ⊥
Placed i (s ∷ ss) = (i ≡ s.place) ⊎ Placed i ss

abbrev Later : ℤ → List Played → Type 0
Later p [] = Unit {0}
Later p (s ∷ ss) = AllByRecursion (λ z. (s.time +ℤ p) ≤ℤ z.time) ss × Later p ss

time_all : (Q : ℕ → ℤ → Type 0) (i : ℕ) (ss : List Played) → AllByRecursion (λ s. Q s.place s.time) ss → Placed i ss → Q i (time_of i ss)
unfolding time_of
time_all Q i [] a k = absurd k
time_all Q i (s ∷ ss) a k =
    cond_both
    (eqb i s.place)
    s.time
    (time_of i ss)
    (Q i)
    (λ e. subst (λ j. Q j s.time) (sym (eqb-true i s.place e)) a.0)
    (λ e. time_all Q i ss a.1 (⊎_elim (λ q. absurd (eqb-false i s.place e q)) (λ q. q) k))

time_apart : (p : ℤ) (i j : ℕ) (ss : List Played) → Later p ss → Placed i ss → Placed j ss → (i ≡ j → ⊥) → Apart p (time_of i ss) (time_of j ss)
unfolding time_of
time_apart p i j [] a k l n = absurd k
time_apart p i j (s ∷ ss) a k l n =
    let other : (m : ℕ) → eqb m s.place ≡ false → Placed m (s ∷ ss) → Placed m ss = λ m e q. ⊎_elim (λ z. absurd (eqb-false m s.place e z)) (λ z. z) q in
    cond_both
    (eqb i s.place)
    s.time
    (time_of i ss)
    (λ z. Apart p z (cond (eqb j s.place) s.time (time_of j ss)))
    (λ e.
    cond_both
    (eqb j s.place)
    s.time
    (time_of j ss)
    (λ z. Apart p s.time z)
    (λ d. absurd (n (eqb-true i s.place e ∙ sym (eqb-true j s.place d))))
    (λ d. inl (time_all (λ _ z. (s.time +ℤ p) ≤ℤ z) j ss a.0 (other j d l))))
    (λ e.
    cond_both
    (eqb j s.place)
    s.time
    (time_of j ss)
    (λ z. Apart p (time_of i ss) z)
    (λ d. inr (time_all (λ _ z. (s.time +ℤ p) ≤ℤ z) i ss a.0 (other i e k)))
    (λ d. time_apart p i j ss a.1 (other i e k) (other j d l) n))

-- every group gets a start
placed : (p : ℤ) (f : List Span) (n : ℕ) (t : ℤ) (gs : List Group) → count (λ w. true) (wins gs) ≤ n → AllByRecursion (λ x. Placed x.place (play p f n t gs)) gs
unfolding play
placed p f zero t [] h = tt
placed p f zero t (g ∷ gs) h = absurd (omega arith)
placed p f (suc n) t [] h = tt
placed p f (suc n) t (g ∷ gs) h =
    let u = least_outside f (int_max t (least_early g gs)) in
    let b = chosen u g gs in
    let less = without_lt (λ w. true) b (g ∷ gs) (chosen_among u g gs) refl in
    from_without
    (λ x. Placed x.place (play p f n (u +ℤ p) (without b.place (g ∷ gs))))
    b.place
    (g ∷ gs)
    (placed p f n (u +ℤ p) (without b.place (g ∷ gs)) (omega (arith, less)))

-- ---- the groups of the field

wins_by_place : (i : ℕ) (ws : List Window) → wins (by_place i ws) ≡ ws
unfolding by_place
wins_by_place i [] = refl
wins_by_place i (w ∷ ws) = ap (λ us. w ∷ us) (wins_by_place (suc i) ws)

length_by_place : (i : ℕ) (ws : List Window) → length (by_place i ws) ≡ length ws
unfolding by_place
length_by_place i [] = refl
length_by_place i (w ∷ ws) = ap suc (length_by_place (suc i) ws)

pub start_by_place : (T : ℕ → ℤ) (i : ℕ) (ws : List Window) (k : ℕ) → k < length ws → start_at (map (λ g. T g.place) (by_place i ws)) k ≡ T (i + k)
unfolding by_place
start_by_place T i [] k h = absurd (omega arith)
start_by_place T i (w ∷ ws) zero h = ap T (omega arith)
start_by_place T i (w ∷ ws) (suc k) h = start_by_place T (suc i) ws k (omega arith) ∙ ap T (omega arith)

all_by_place : (P : ℕ → Type 0) (i : ℕ) (ws : List Window) → AllByRecursion (λ g. P g.place) (by_place i ws) → (k : ℕ) → k < length ws → P (i + k)
unfolding by_place
all_by_place P i [] a k h = absurd (omega arith)
all_by_place P i (w ∷ ws) a zero h = let e : i ≡ i + 0 = omega arith in subst P e a.0
all_by_place P i (w ∷ ws) a (suc k) h = let e : suc i + k ≡ i + suc k = omega arith in subst P e (all_by_place P (suc i) ws a.1 k (omega arith))

pub count_all : (gs : List Group) → count (λ w. true) (wins gs) ≡ length gs
count_all [] = refl
count_all (g ∷ gs) = ap suc (count_all gs)

-- a group of the field
abbrev Of : List Window → Group → Type 0
Of ws g = (g.place < length ws) × (window_at ws g.place ≡ g.win)

of_by_place : (ws : List Window) (i : ℕ) (us : List Window) → i + length us ≡ length ws → ((k : ℕ) → k < length us → window_at ws (i + k) ≡ window_at us k) → AllByRecursion (Of ws) (by_place i us)
unfolding by_place
of_by_place ws i [] e h = tt
of_by_place ws i (u ∷ us) e h =
    let z : i + 0 ≡ i = omega arith in (
      (omega (arith, e), subst (λ k. window_at ws k ≡ u) z (h 0 (omega arith))),
      of_by_place ws (suc i) us (omega (arith, e)) (λ k l. let y : i + suc k ≡ suc i + k = omega arith in subst (λ m. window_at ws m ≡ window_at us k) y (h (suc k) (omega arith))),
    )

-- ---- the run

module _ (p : ℤ) (pace : pos 1 ≤ℤ p) (ws : List Window) (f : List Span) (ok : forbidden p ws ≡ Some f) where
  -- the groups left are of the field
  abbrev Sub : List Group → Type 0
  Sub gs = AllByRecursion (Of ws) gs × ((c : Window → Bool) → count c (wins gs) ≤ count c ws)

  -- THE INVARIANT: for each late, those left with at most that late still fit from t on
  abbrev Inv : ℤ → List Group → Type 0
  Inv t gs = AllByRecursion (λ u. Fits p f t (count (by u.late) (wins gs)) u.late) ws

  sub_without : (i : ℕ) (gs : List Group) → Sub gs → Sub (without i gs)
  sub_without i gs s = (all_without (Of ws) i gs s.0, (λ c. let a = without_le c i gs in let b = s.1 c in omega (arith, a, b)))

  -- where all those left with late ≤ l have early ≥ a, they are among the windows from a on
  late_counted : (a l : ℤ) (gs : List Group) → Sub gs → AllByRecursion (λ x. x.win.late ≤ℤ l → a ≤ℤ x.win.early) gs → count (by l) (wins gs) ≤ counted ws a l
  late_counted a l gs s h =
      let k = s.1 (enclosed a l) in
      let j =
      count_le
      (by l)
      (enclosed a l)
      (wins gs)
      (All-map
      (λ w. by l w ≡ true → enclosed a l w ≡ true)
      (λ g. g.win)
      gs
      (All-weaker
      (λ x. x.win.late ≤ℤ l → a ≤ℤ x.win.early)
      (λ x. by l x.win ≡ true → enclosed a l x.win ≡ true)
      (λ x z e.
      let y = z (leZ_true x.win.late l e) in
      and_from (le_z a x.win.early) (le_z x.win.late l) (grind (arith, ints)) e)
      gs
      h)) in
      omega (arith, k, j)

  inv_jump : (e : ℤ) (gs : List Group) → Sub gs → AllByRecursion (λ x. e ≤ℤ x.win.early) gs → Inv e gs
  inv_jump e gs s h =
      All-weaker
      (λ u. Fits p f e (counted ws e u.late) u.late)
      (λ u. Fits p f e (count (by u.late) (wins gs)) u.late)
      (λ u k.
      fits_less
      p
      pace
      f
      u.late
      (count (by u.late) (wins gs))
      (counted ws e u.late)
      e
      (late_counted e u.late gs s (All-weaker (λ x. e ≤ℤ x.win.early) (λ x. x.win.late ≤ℤ u.late → e ≤ℤ x.win.early) (λ x z q. z) gs h))
      k)
      ws
      (room_at p pace ws f ok e)

  inv_max : (t : ℤ) (g : Group) (gs : List Group) → Sub (g ∷ gs) → Inv t (g ∷ gs) → Inv (int_max t (least_early g gs)) (g ∷ gs)
  inv_max t g gs s i =
      cond_both (lt_z (least_early g gs) t) t (least_early g gs) (λ z. Inv z (g ∷ gs)) (λ e. i) (λ e. inv_jump (least_early g gs) (g ∷ gs) s (least_early_le g gs))

  inv_step : (t : ℤ) (h : Group) (gs : List Group) → Sub gs → Inv t gs → Among h gs → AllByRecursion (Best (least_outside f t) h) gs → Inv (least_outside f t +ℤ p) (without h.place gs)
  inv_step t h gs s i m best =
      let u = least_outside f t in
      let rest = without h.place gs in
      all_both
      (λ w. Fits p f t (count (by w.late) (wins gs)) w.late)
      (λ w. Fits p f (u +ℤ p) (counted ws (u +ℤ pos 1) w.late) w.late)
      (λ w. Fits p f (u +ℤ p) (count (by w.late) (wins rest)) w.late)
      (λ w now room.
      by_lt_z
      w.late
      h.win.late
      (λ k.
      fits_less
      p
      pace
      f
      w.late
      (count (by w.late) (wins rest))
      (counted ws (u +ℤ pos 1) w.late)
      (u +ℤ p)
      (late_counted
      (u +ℤ pos 1)
      w.late
      rest
      (sub_without h.place gs s)
      (all_without
      (λ x. x.win.late ≤ℤ w.late → (u +ℤ pos 1) ≤ℤ x.win.early)
      h.place
      gs
      (All-weaker
      (Best u h)
      (λ x. x.win.late ≤ℤ w.late → (u +ℤ pos 1) ≤ℤ x.win.early)
      (λ x b q. by_lt_z u x.win.early (λ z. omega (arith, ints)) (λ z. let y = b z in absurd (omega (arith, ints, y.1))))
      gs
      best)))
      room)
      (λ k.
      let less = without_lt (by w.late) h gs m (grind (arith, ints)) in
      let fit = fits_less p pace f w.late (suc (count (by w.late) (wins rest))) (count (by w.late) (wins gs)) t (omega (arith, less)) now in
      fit.1))
      ws
      i
      (room_after p pace ws f ok u (least_out f t))

  -- the next one starts in time
  in_time : (t : ℤ) (h : Group) (gs : List Group) → Inv t gs → Of ws h → Among h gs → least_outside f t ≤ℤ h.win.late
  in_time t h gs i o m =
      let here : Fits p f t (count (by h.win.late) (wins gs)) h.win.late =
      subst
      (λ u. Fits p f t (count (by u.late) (wins gs)) u.late)
      o.1
      (All-get_or (λ u. Fits p f t (count (by u.late) (wins gs)) u.late) ws h.place outside o.0 i) in
      let q : h.win.late ≤ℤ h.win.late = omega (arith, ints) in
      let less = without_lt (by h.win.late) h gs m (grind (arith, ints)) in
      (fits_less p pace f h.win.late 1 (count (by h.win.late) (wins gs)) t (omega (arith, less)) here).0

  abbrev Ok : ℤ → List Played → Type 0
  Ok t ss = AllByRecursion (λ s. (t ≤ℤ s.time) × In (window_at ws s.place) s.time) ss × Later p ss

  run : (n : ℕ) (t : ℤ) (gs : List Group) → Sub gs → Inv t gs → Ok t (play p f n t gs)
  unfolding play
  run zero t gs s i = (tt, tt)
  run (suc n) t [] s i = (tt, tt)
  run (suc n) t (g ∷ gs) s i =
      let e = least_early g gs in
      let v = int_max t e in
      let u = least_outside f v in
      let h = chosen u g gs in
      let up = least_ge f v in
      let top : e ≤ℤ u = omega (arith, ints, clamps) in
      let from : t ≤ℤ u = omega (arith, ints, clamps) in
      let i' = inv_max t g gs s i in
      let m = chosen_among u g gs in
      let best = chosen_best u g gs in
      let o = all_among (Of ws) h (g ∷ gs) s.0 m in
      let out = released (h.win.early ≤ℤ u) u g gs top (All-weaker (Best u h) (λ x. x.win.early ≤ℤ u → h.win.early ≤ℤ u) (λ x b q. (b q).0) (g ∷ gs) best) in
      let late = in_time v h (g ∷ gs) i' o m in
      let ih = run n (u +ℤ p) (without h.place (g ∷ gs)) (sub_without h.place (g ∷ gs) s) (inv_step v h (g ∷ gs) s i' m best) in
      let rest = play p f n (u +ℤ p) (without h.place (g ∷ gs)) in (
        (
          (from, subst (λ w. In w u) (sym o.1) (record { from = out; to = late })),
          All-weaker
              (λ s. ((u +ℤ p) ≤ℤ s.time) × In (window_at ws s.place) s.time)
              (λ s. (t ≤ℤ s.time) × In (window_at ws s.place) s.time)
              (λ s z. (omega (arith, ints, z.0), z.1))
              rest
              ih.0,
        ),
        (
          All-weaker
              (λ s. ((u +ℤ p) ≤ℤ s.time) × In (window_at ws s.place) s.time)
              (λ s. (u +ℤ p) ≤ℤ s.time)
              (λ s z. z.0)
              rest
              ih.0,
          ih.1,
        ),
      )

  -- ---- the order

  abbrev Whole : List Group → List Played → Type 0
  Whole gs ss = AllByRecursion (λ s. In (window_at ws s.place) s.time) ss × Later p ss × AllByRecursion (λ x. Placed x.place ss) gs

  whole : (gs : List Group) → Sub gs → Whole gs (play_all p f gs)
  unfolding play_all
  whole [] s = (tt, tt, tt)
  whole (g ∷ gs) s =
      let t = least_early g gs in
      let r = run (length (g ∷ gs)) t (g ∷ gs) s (inv_jump t (g ∷ gs) s (least_early_le g gs)) in
      let ss = play p f (length (g ∷ gs)) t (g ∷ gs) in (
        All-weaker (λ s. (t ≤ℤ s.time) × In (window_at ws s.place) s.time) (λ s. In (window_at ws s.place) s.time) (λ s z. z.1) ss r.0,
        r.1,
        placed p f (length (g ∷ gs)) t (g ∷ gs) (omega (arith, count_all (g ∷ gs))),
      )

  pub complete : OrderOfPlay p ws (written p f ws)
  unfolding written
  complete =
      let gs = by_place 0 ws in
      let ss = play_all p f gs in
      let z : 0 + length ws ≡ length ws = omega arith in
      let zero_plus : (k : ℕ) → 0 + k ≡ k = λ k. omega arith in
      let s : Sub gs =
      (of_by_place ws 0 ws z (λ k h. ap (window_at ws) (zero_plus k)), (λ c. let e = ap (count c) (wins_by_place 0 ws) in omega (arith, e))) in
      let q = whole gs s in
      let at : (k : ℕ) → k < length ws → start_at (map (λ g. time_of g.place ss) gs) k ≡ time_of k ss = λ k h. start_by_place (λ i. time_of i ss) 0 ws k h ∙ ap (λ i. time_of i ss) (zero_plus k) in
      let there : (k : ℕ) → k < length ws → Placed k ss = λ k h. subst (λ i. Placed i ss) (zero_plus k) (all_by_place (λ i. Placed i ss) 0 ws q.2 k h) in
      record {
        same = length-map gs (λ g. time_of g.place ss) ∙ length_by_place 0 ws;
        within = λ i h. subst (In (window_at ws i)) (sym (at i h)) (time_all (λ i x. In (window_at ws i) x) i ss q.0 (there i h));
        apart =
            λ i j h k.
            let l : i < length ws = omega arith in
            subst
            (λ x. Apart p x (start_at (map (λ g. time_of g.place ss) gs) j))
            (sym (at i l))
            (subst (λ y. Apart p (time_of i ss) y) (sym (at j k)) (time_apart p i j ss q.1 (there i l) (there j k) (λ e. omega (arith, e))));
      }
