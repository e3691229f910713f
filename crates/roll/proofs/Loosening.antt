-- Taking groups away or widening windows never loses an order of play.
use Rattle.std.proofs.Common.{◌≡◌, ℕ, zero, suc, ◌<◌, ◌≤◌, true, List, [], ◌∷◌, ◌++◌, map, length, get_or, take, ℤ, pos, sym, ◌∙◌, subst, arith}
use lib.ListN.{get_or-map}
use Rattle.std.proofs.lemmas.List.{length-map, length-take-le, get_or-take}
use Rattle.std.proofs.lemmas.Bool.{and_parts}
use Rattle.std.specs.List.{list_all}
use Rattle.field.specs.declared.window.Window.{Window}
use Rattle.field.specs.Windows.{window}
use Rattle.theory.specs.Orders.{In, Apart, OrderOfPlay, window_at, start_at}
use Rattle.sheet.specs.declared.row.Row.{Row}
use Rattle.sheet.specs.declared.row.Standing.{Standing}
use Rattle.sheet.specs.declared.row.Standing.TheVariants.{Waiting, Called, Away}
use Rattle.sheet.specs.Standings.{counts, nobody, waiting, window_by}
use Rattle.sheet.specs.Sound.{kept_time, sound}
use Rattle.sheet.specs.Content.{Playable, windows_of}
use Rattle.sheet.proofs.Soundness.{parts}
use Rattle.sheet.proofs.Widening.{alone_within}

-- the row as it was entered
abbrev pub as_waiting : Row → Row
as_waiting r = waiting r.number r.early r.late

-- a start in the window of the one is in that of the other
abbrev pub Eases : Row → Row → Type 0
Eases u r = (x : ℤ) → In (counts r) x → In (counts u) x

-- the first rows of these, each in a window as wide or wider
abbrev pub Looser : List Row → List Row → Type 0
Looser [] rs = Unit {0}
Looser (u ∷ us) [] = ⊥
Looser (u ∷ us) (r ∷ rs) = Eases u r × Looser us rs

fewer : (us rs : List Row) → Looser us rs → length us ≤ length rs
fewer [] rs h = omega arith
fewer (u ∷ us) [] h = absurd h
fewer (u ∷ us) (r ∷ rs) h = let k = fewer us rs h.1 in omega arith

eases_at : (us rs : List Row) → Looser us rs → (i : ℕ) → i < length us → Eases (get_or us i nobody) (get_or rs i nobody)
eases_at [] rs h i l = absurd (omega arith)
eases_at (u ∷ us) [] h i l = absurd h
eases_at (u ∷ us) (r ∷ rs) h zero l = h.0
eases_at (u ∷ us) (r ∷ rs) h (suc i) l = eases_at us rs h.1 i (omega arith)

module _ (us rs : List Row) (p : ℕ) (loose : Looser us rs) (xs : List ℤ) (o : OrderOfPlay (pos p) (windows_of rs) xs) where
  abbrev n : ℕ
  n = length us

  some : n ≤ length xs
  some = let a = fewer us rs loose in let b = length-map rs counts in let c = o.same in omega arith

  same_start : (i : ℕ) → i < n → start_at (take n xs) i ≡ start_at xs i
  same_start i h = get_or-take n xs i (pos 0) h

  within : (i : ℕ) → i < length (windows_of us) → In (window_at (windows_of us) i) (start_at (take n xs) i)
  within i l =
      let a = length-map us counts in
      let b = length-map rs counts in
      let f = fewer us rs loose in
      let h : i < n = omega arith in
      let was = subst (λ (w : Window). In w (start_at xs i)) (get_or-map counts rs i nobody) (o.within i (omega arith)) in
      subst (λ (x : ℤ). In (window_at (windows_of us) i) x) (sym (same_start i h)) (subst (λ (w : Window). In w (start_at xs i)) (sym (get_or-map counts us i nobody)) (eases_at us rs loose i h (start_at xs i) was))

  apart : (i j : ℕ) → i < j → j < length (windows_of us) → Apart (pos p) (start_at (take n xs) i) (start_at (take n xs) j)
  apart i j h l =
      let a = length-map us counts in
      let b = length-map rs counts in
      let f = fewer us rs loose in
      subst (λ (x : ℤ). Apart (pos p) x (start_at (take n xs) j)) (sym (same_start i (omega arith))) (subst (λ (x : ℤ). Apart (pos p) (start_at xs i) x) (sym (same_start j (omega arith))) (o.apart i j h (omega arith)))

  loose_order : OrderOfPlay (pos p) (windows_of us) (take n xs)
  loose_order = record { same = length-take-le n xs some ∙ sym (length-map us counts); within = within; apart = apart }

pub looser_play : (us rs : List Row) (p : ℕ) → Looser us rs → Playable (record { rows = rs; pace = p }) → Playable (record { rows = us; pace = p })
looser_play us rs p h o = (take (length us) o.0, loose_order us rs p h o.0 o.1)

-- ---- rows as they were entered

entered_eases : (e l : ℤ) (s : Standing) → kept_time s e l ≡ true → (x : ℤ) → In (window_by s e l) x → In (window e l) x
entered_eases e l Waiting k x i = i
entered_eases e l (Called u) k x i = alone_within e l u x k i
entered_eases e l (Away u) k x i = alone_within e l u x k i

pub waiting_eases : (r : Row) → sound r ≡ true → Eases (as_waiting r) r
waiting_eases r h = entered_eases r.early r.late r.standing (parts r h).time

pub looser_waiting : (rs : List Row) → list_all sound rs ≡ true → Looser (map as_waiting rs) rs
looser_waiting [] h = tt
looser_waiting (r ∷ rs) h = let p = and_parts (sound r) (list_all sound rs) h in (waiting_eases r p.0, looser_waiting rs p.1)

pub looser_front : (us rs ts : List Row) → Looser us rs → Looser us (rs ++ ts)
looser_front [] rs ts h = tt
looser_front (u ∷ us) [] ts h = absurd h
looser_front (u ∷ us) (r ∷ rs) ts h = (h.0, looser_front us rs ts h.1)

pub looser_behind : (ds us rs : List Row) → Looser us rs → Looser (ds ++ us) (ds ++ rs)
looser_behind [] us rs h = h
looser_behind (d ∷ ds) us rs h = (λ x i. i, looser_behind ds us rs h)
