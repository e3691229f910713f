-- What is played is an order of play: every place once, with its start.
use Rattle.std.proofs.Common.{◌≡◌, ℕ, zero, suc, ◌+◌, ◌<◌, ◌≤◌, true, cond, not, eqb, List, [], ◌∷◌, ◌++◌, map, length, take, drop, ℤ, pos, ◌+ℤ◌, ◌≤ℤ◌, Some, filter, sym, refl, ap, ◌∙◌, subst, inl, inr, arith}
use Rattle.std.specs.Int.{int_max}
use Rattle.std.specs.List.{AllByRecursion}
use Rattle.std.proofs.lemmas.Int.{ints, clamps}
use Rattle.std.proofs.ByRecursion.{All-weaker, all_kept_by, kept_by_passes, All-map}
use Rattle.std.proofs.lemmas.List.{length-map, take_at}
use Rattle.std.proofs.lemmas.Bool.{cond-true, cond-false, cond_both, eq-eqb, ne_eqb, eqb-false, not-true, not_from_true, not_from_false}
use Rattle.field.specs.declared.window.Window.{Window}
use Rattle.theory.specs.declared.span.Span.{Span}
use Rattle.theory.specs.declared.group.Group.{Group}
use Rattle.theory.specs.declared.group.Played.{Played}
use Rattle.theory.specs.Orders.{start_at}
use Rattle.theory.specs.Closed.{least_outside}
use Rattle.theory.specs.Method.{forbidden}
use Rattle.theory.specs.Written.{by_place, least_early, chosen, without, play, time_of, play_all, written}
use Rattle.theory.proofs.Starts.{all_both}
use Rattle.theory.proofs.Complete.{Among, all_among, chosen_among, start_by_place, complete}
use Rattle.reckoning.specs.declared.start.Start.{Start}
use Rattle.theory.proofs.Closed.{least_ge}
use Rattle.reckoning.specs.Order.{played, start_of, Ascending, Once, Plays}
use Rattle.reckoning.proofs.Playing.{length_by_place, all_without}

without_differs : (i : ℕ) (gs : List Group) → AllByRecursion (λ g. g.place ≡ i → ⊥) (without i gs)
unfolding without
without_differs i gs =
    All-weaker (λ g. not (eqb g.place i) ≡ true) (λ g. g.place ≡ i → ⊥) (λ g e. eqb-false g.place i (not-true (eqb g.place i) e)) (filter (λ g. not (eqb g.place i)) gs) (kept_by_passes (λ g. not (eqb g.place i)) gs)

-- what holds of each group's place holds of each place played
all_played : (P : ℕ → Type 0) (p : ℤ) (f : List Span) (n : ℕ) (t : ℤ) (gs : List Group) → AllByRecursion (λ g. P g.place) gs → AllByRecursion (λ s. P s.place) (play p f n t gs)
unfolding play
all_played P p f zero t gs a = tt
all_played P p f (suc n) t [] a = tt
all_played P p f (suc n) t (g ∷ gs) a =
    let u = least_outside f (int_max t (least_early g gs)) in
    let h = chosen u g gs in
    (all_among (λ x. P x.place) h (g ∷ gs) a (chosen_among u g gs), all_played P p f n (u +ℤ p) (without h.place (g ∷ gs)) (all_without (λ x. P x.place) h.place (g ∷ gs) a))

abbrev Distinct : List Played → Type 0
Distinct [] = Unit {0}
Distinct (s ∷ ss) = AllByRecursion (λ z. z.place ≡ s.place → ⊥) ss × Distinct ss

distinct : (p : ℤ) (f : List Span) (n : ℕ) (t : ℤ) (gs : List Group) → Distinct (play p f n t gs)
unfolding play
distinct p f zero t gs = tt
distinct p f (suc n) t [] = tt
distinct p f (suc n) t (g ∷ gs) =
    let u = least_outside f (int_max t (least_early g gs)) in
    let h = chosen u g gs in
    (all_played (λ i. i ≡ h.place → ⊥) p f n (u +ℤ p) (without h.place (g ∷ gs)) (without_differs h.place (g ∷ gs)), distinct p f n (u +ℤ p) (without h.place (g ∷ gs)))

time_listed : (ss : List Played) → Distinct ss → AllByRecursion (λ s. time_of s.place ss ≡ s.time) ss
unfolding time_of
time_listed [] d = tt
time_listed (s ∷ ss) d = (
  cond-true (eqb s.place s.place) s.time (time_of s.place ss) (eq-eqb s.place s.place refl),
  all_both
      (λ z. z.place ≡ s.place → ⊥)
      (λ z. time_of z.place ss ≡ z.time)
      (λ z. cond (eqb z.place s.place) s.time (time_of z.place ss) ≡ z.time)
      (λ z n e. cond-false (eqb z.place s.place) s.time (time_of z.place ss) (ne_eqb z.place s.place n) ∙ e)
      ss
      d.0
      (time_listed ss d.1),
)

-- ---- in ascending starts

-- nothing is played before t
from_time : (p : ℤ) (f : List Span) (n : ℕ) (t : ℤ) (gs : List Group) → pos 1 ≤ℤ p → AllByRecursion (λ s. t ≤ℤ s.time) (play p f n t gs)
unfolding play
from_time p f zero t gs h = tt
from_time p f (suc n) t [] h = tt
from_time p f (suc n) t (g ∷ gs) h =
    let e = least_early g gs in
    let u = least_outside f (int_max t e) in
    let k = least_ge f (int_max t e) in
    let low : t ≤ℤ u = omega (arith, ints, clamps) in
    let rest = without (chosen u g gs).place (g ∷ gs) in
    (low, All-weaker (λ s. (u +ℤ p) ≤ℤ s.time) (λ s. t ≤ℤ s.time) (λ s l. omega (arith, ints)) (play p f n (u +ℤ p) rest) (from_time p f n (u +ℤ p) rest h))

rising : (p : ℤ) (f : List Span) (ns : List ℕ) (n : ℕ) (t : ℤ) (gs : List Group) → pos 1 ≤ℤ p → Ascending p (map (start_of ns) (play p f n t gs))
unfolding play
rising p f ns zero t gs h = tt
rising p f ns (suc n) t [] h = tt
rising p f ns (suc n) t (g ∷ gs) h =
    let u = least_outside f (int_max t (least_early g gs)) in
    let rest = without (chosen u g gs).place (g ∷ gs) in
    (All-map (λ d. (u +ℤ p) ≤ℤ d.start) (start_of ns) (play p f n (u +ℤ p) rest) (from_time p f n (u +ℤ p) rest h), rising p f ns n (u +ℤ p) rest h)

ascending : (p : ℤ) (f : List Span) (ns : List ℕ) (gs : List Group) → pos 1 ≤ℤ p → Ascending p (map (start_of ns) (play_all p f gs))
unfolding play_all
ascending p f ns [] h = tt
ascending p f ns (g ∷ gs) h = rising p f ns (length (g ∷ gs)) (least_early g gs) (g ∷ gs) h

once : (ns : List ℕ) (ss : List Played) → Distinct ss → Once (map (start_of ns) ss)
once ns [] d = tt
once ns (s ∷ ss) d = (All-map (λ z. z.place ≡ s.place → ⊥) (start_of ns) ss d.0, once ns ss d.1)

-- ---- how many

abbrev Differ : List Group → Type 0
Differ [] = Unit {0}
Differ (g ∷ gs) = AllByRecursion (λ x. x.place ≡ g.place → ⊥) gs × Differ gs

differ_kept : (i : ℕ) (gs : List Group) → Differ gs → Differ (without i gs)
unfolding without
differ_kept i [] d = tt
differ_kept i (g ∷ gs) d =
    let ih = differ_kept i gs d.1 in
    cond_both
    (not (eqb g.place i))
    (g ∷ without i gs)
    (without i gs)
    Differ
    (λ e. (all_kept_by (λ x. not (eqb x.place i)) (λ x. x.place ≡ g.place → ⊥) gs d.0, ih))
    (λ e. ih)

length_none : (i : ℕ) (gs : List Group) → AllByRecursion (λ x. x.place ≡ i → ⊥) gs → length gs ≤ length (without i gs)
unfolding without
length_none i [] a = omega arith
length_none i (g ∷ gs) a =
    let ih = length_none i gs a.1 in
    let e = ap length (cond-true (not (eqb g.place i)) (g ∷ without i gs) (without i gs) (not_from_false (eqb g.place i) (ne_eqb g.place i a.0))) in
    omega (arith, e, ih)

one_less : (h : Group) (gs : List Group) → Differ gs → Among h gs → length gs ≤ suc (length (without h.place gs))
unfolding without
one_less h [] d m = absurd m
one_less h (g ∷ gs) d (inl q) =
    let i = h.place in
    let e = ap length (cond-false (not (eqb g.place i)) (g ∷ without i gs) (without i gs) (not_from_true (eqb g.place i) (eq-eqb g.place i (ap (λ z. z.place) q)))) in
    let k = length_none i gs (subst (λ z. AllByRecursion (λ x. x.place ≡ z.place → ⊥) gs) q d.0) in
    omega (arith, e, k)
one_less h (g ∷ gs) d (inr m) =
    let i = h.place in
    let ih = one_less h gs d.1 m in
    let n = all_among (λ x. x.place ≡ g.place → ⊥) h gs d.0 m in
    let e = ap length (cond-true (not (eqb g.place i)) (g ∷ without i gs) (without i gs) (not_from_false (eqb g.place i) (ne_eqb g.place i (λ q. n (sym q))))) in
    omega (arith, e, ih)

play_long : (p : ℤ) (f : List Span) (n : ℕ) (t : ℤ) (gs : List Group) (k : ℕ) → Differ gs → k ≤ length gs → k ≤ n → k ≤ length (play p f n t gs)
unfolding play
play_long p f n t gs zero d a b = omega arith
play_long p f zero t gs (suc k) d a b = absurd (omega arith)
play_long p f (suc n) t [] (suc k) d a b = absurd (omega arith)
play_long p f (suc n) t (g ∷ gs) (suc k) d a b =
    let u = least_outside f (int_max t (least_early g gs)) in
    let h = chosen u g gs in
    let less = one_less h (g ∷ gs) d (chosen_among u g gs) in
    let ih = play_long p f n (u +ℤ p) (without h.place (g ∷ gs)) k (differ_kept h.place (g ∷ gs) d) (omega (arith, less)) (omega arith) in
    omega (arith, ih)

play_short : (p : ℤ) (f : List Span) (n : ℕ) (t : ℤ) (gs : List Group) → length (play p f n t gs) ≤ n
unfolding play
play_short p f zero t gs = omega arith
play_short p f (suc n) t [] = omega arith
play_short p f (suc n) t (g ∷ gs) =
    let u = least_outside f (int_max t (least_early g gs)) in
    let ih = play_short p f n (u +ℤ p) (without (chosen u g gs).place (g ∷ gs)) in
    omega (arith, ih)

by_place_from : (i : ℕ) (ws : List Window) → AllByRecursion (λ g. (i ≤ g.place) × (g.place < i + length ws)) (by_place i ws)
unfolding by_place
by_place_from i [] = tt
by_place_from i (w ∷ ws) = (
  (omega arith, omega arith),
  All-weaker (λ g. (suc i ≤ g.place) × (g.place < suc i + length ws)) (λ g. (i ≤ g.place) × (g.place < i + suc (length ws))) (λ g h. (omega (arith, h.0), omega (arith, h.1))) (by_place (suc i) ws) (by_place_from (suc i) ws),
)

by_place_differ : (i : ℕ) (ws : List Window) → Differ (by_place i ws)
unfolding by_place
by_place_differ i [] = tt
by_place_differ i (w ∷ ws) = (
  All-weaker (λ g. (suc i ≤ g.place) × (g.place < suc i + length ws)) (λ x. x.place ≡ i → ⊥) (λ g h e. omega (arith, h.0, e)) (by_place (suc i) ws) (by_place_from (suc i) ws),
  by_place_differ (suc i) ws,
)

-- ---- of a field

started : (p : ℤ) (f : List Span) (gs : List Group) (n : ℕ) → length gs ≡ n → Differ gs → AllByRecursion (λ g. g.place < n) gs → (length (play_all p f gs) ≡ n) × Distinct (play_all p f gs) × AllByRecursion (λ s. s.place < n) (play_all p f gs)
unfolding play_all
started p f [] n e d a = (e, tt, tt)
started p f (g ∷ gs) n e d a =
    let t = least_early g gs in
    let m = length (g ∷ gs) in
    let long = play_long p f m t (g ∷ gs) m d (omega arith) (omega arith) in
    let short = play_short p f m t (g ∷ gs) in
    (omega (arith, long, short, e), distinct p f m t (g ∷ gs), all_played (λ i. i < n) p f m t (g ∷ gs) a)

played_is : (p : ℤ) (f : List Span) (ws : List Window) → (length (played p f ws) ≡ length ws) × Distinct (played p f ws) × AllByRecursion (λ s. s.place < length ws) (played p f ws)
played_is p f ws = go (by_place 0 ws) (length_by_place 0 ws) (by_place_differ 0 ws) (All-weaker (λ g. (0 ≤ g.place) × (g.place < 0 + length ws)) (λ g. g.place < length ws) (λ g h. omega (arith, h.1)) (by_place 0 ws) (by_place_from 0 ws))
  where
    go : (gs : List Group) → length gs ≡ length ws → Differ gs → AllByRecursion (λ g. g.place < length ws) gs → (length (play_all p f gs) ≡ length ws) × Distinct (play_all p f gs) × AllByRecursion (λ s. s.place < length ws) (play_all p f gs)
    go gs e d a = started p f gs (length ws) e d a

-- ---- what the code reads

pub list_read : (S : Played → Start) (W ss ts : List Played) (before exit : List Start) (n : ℕ) → n ≡ length ss → ts ≡ ss → ss ≡ W → exit ≡ map S ts ++ drop (length ts) before → (n ≡ length (map S W)) × (exit ≡ map S W ++ drop (length (map S W)) before)
list_read S W ss ts before exit n a b d e =
    let k = length-map W S in
    (a ∙ ap length d ∙ sym k, e ∙ ap (λ v. map S v ++ drop (length v) before) (b ∙ d) ∙ ap (λ j. map S W ++ drop j before) (sym k))

pub played_fits : (p : ℤ) (f : List Span) (ws : List Window) (ss ts : List Played) (room : ℕ) → ts ≡ ss → ss ≡ played p f ws → length ws ≤ room → length ts ≤ room
played_fits p f ws ss ts room d e h = let k = played_is p f ws in omega (arith, ap length d, ap length e, k.0, h)

pub plays : (p : ℤ) (ws : List Window) (ns : List ℕ) (f : List Span) → pos 1 ≤ℤ p → forbidden p ws ≡ Some f → Plays p ws (map (start_of ns) (played p f ws))
unfolding written
plays p ws ns f h e =
    let W = played p f ws in
    let k = played_is p f ws in
    record {
      starts = written p f ws;
      order = complete p h ws f e;
      whole = length-map W (start_of ns) ∙ k.0;
      listed = All-map
          (λ s. (s.place < length ws) × (start_at (written p f ws) s.place ≡ s.start))
          (start_of ns)
          W
          (all_both
          (λ s. s.place < length ws)
          (λ s. time_of s.place W ≡ s.time)
          (λ s. (s.place < length ws) × (start_at (written p f ws) s.place ≡ s.time))
          (λ s a b. (a, start_by_place (λ i. time_of i (played p f ws)) 0 ws s.place a ∙ (let z : 0 + s.place ≡ s.place = omega arith in ap (λ i. time_of i (played p f ws)) z) ∙ b))
          W
          k.2
          (time_listed W k.1));
      once = once ns W k.1;
      ascending = ascending p f ns (by_place 0 ws) h;
    }

-- the entries at the beginning of the list
pub plays_front : (p : ℤ) (ws : List Window) (es before exit : List Start) (n : ℕ) → n ≡ length es → exit ≡ es ++ drop (length es) before → Plays p ws es → Plays p ws (take n exit)
plays_front p ws es before exit n e d h = subst (Plays p ws) (sym (ap (take n) d ∙ take_at es (drop (length es) before) n (sym e))) h
