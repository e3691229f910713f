-- Orders of play of the reversed field, and its first starts.
use Rattle.std.proofs.Common.{◌≡◌, ℕ, ◌<◌, List, map, length, ℤ, pos, neg_ℤ, sym, ap, ◌∙◌, subst, inl, inr, arith}
use lib.IntN.{neg_ℤ-neg_ℤ}
use Rattle.std.proofs.lemmas.Int.{ints}
use Rattle.std.proofs.lemmas.List.{length-map, get_or-map}
use Rattle.field.specs.declared.window.Window.{Window}
use Rattle.field.specs.Windows.{outside}
use Rattle.field.specs.Reversed.{turned}
use Rattle.theory.specs.Orders.{window_at, start_at, In, Apart, OrderOfPlay}
use Rattle.theory.specs.Theorem.{First, Last}

in_turned : (w : Window) (x : ℤ) → In w x → In (turned w) (neg_ℤ x)
in_turned w x h = record { from = omega (arith, ints, h.to); to = omega (arith, ints, h.from) }

in_unturned : (w : Window) (x : ℤ) → In (turned w) x → In w (neg_ℤ x)
in_unturned w x h = record { from = omega (arith, ints, h.to); to = omega (arith, ints, h.from) }

apart_neg : (p x y : ℤ) → Apart p x y → Apart p (neg_ℤ x) (neg_ℤ y)
apart_neg p x y (inl a) = inr (omega (arith, ints))
apart_neg p x y (inr a) = inl (omega (arith, ints))

start_neg : (xs : List ℤ) (i : ℕ) → i < length xs → start_at (map neg_ℤ xs) i ≡ neg_ℤ (start_at xs i)
start_neg xs i h = get_or-map neg_ℤ xs i (pos 0) (pos 0) h

window_turned : (ws : List Window) (i : ℕ) → i < length ws → window_at (map turned ws) i ≡ turned (window_at ws i)
window_turned ws i h = get_or-map turned ws i outside outside h

apart_map : (p : ℤ) (xs : List ℤ) (n : ℕ) → length xs ≡ n → ((i j : ℕ) → i < j → j < n → Apart p (start_at xs i) (start_at xs j)) → (i j : ℕ) → i < j → j < n → Apart p (start_at (map neg_ℤ xs) i) (start_at (map neg_ℤ xs) j)
apart_map p xs n e h i j a b =
    subst
    (λ x. Apart p x (start_at (map neg_ℤ xs) j))
    (sym (start_neg xs i (omega arith)))
    (subst (λ y. Apart p (neg_ℤ (start_at xs i)) y) (sym (start_neg xs j (omega arith))) (apart_neg p (start_at xs i) (start_at xs j) (h i j a b)))

pub turned_order : (p : ℤ) (ws : List Window) (xs : List ℤ) → OrderOfPlay p ws xs → OrderOfPlay p (map turned ws) (map neg_ℤ xs)
turned_order p ws xs o =
    let len = length-map ws turned in
    let same' = o.same in
    record {
      same = length-map xs neg_ℤ ∙ o.same ∙ sym len;
      within =
          λ i h.
          let k : i < length ws = omega (arith, len) in
          subst
          (λ w. In w (start_at (map neg_ℤ xs) i))
          (sym (window_turned ws i k))
          (subst (In (turned (window_at ws i))) (sym (start_neg xs i (omega (arith, same')))) (in_turned (window_at ws i) (start_at xs i) (o.within i k)));
      apart = λ i j a b. apart_map p xs (length ws) same' o.apart i j a (omega (arith, len));
    }

pub unturned_order : (p : ℤ) (ws : List Window) (xs : List ℤ) → OrderOfPlay p (map turned ws) xs → OrderOfPlay p ws (map neg_ℤ xs)
unturned_order p ws xs o =
    let len = length-map ws turned in
    let same' : length xs ≡ length ws = o.same ∙ len in
    record {
      same = length-map xs neg_ℤ ∙ same';
      within =
          λ i h.
          subst
          (In (window_at ws i))
          (sym (start_neg xs i (omega (arith, same'))))
          (in_unturned (window_at ws i) (start_at xs i) (subst (λ w. In w (start_at xs i)) (window_turned ws i h) (o.within i (omega (arith, len)))));
      apart = λ i j a b. apart_map p xs (length ws) same' (λ i j a b. o.apart i j a (omega (arith, len))) i j a b;
    }

module _ (p : ℤ) (ws : List Window) (i : ℕ) (x : ℤ) (h : i < length ws) where
  pub last_first : Last p ws i x → First p (map turned ws) i (neg_ℤ x)
  last_first q =
      let xs = q.0.0 in
      let o = q.0.1 in (
        (map neg_ℤ xs, turned_order p ws xs o, start_neg xs i (omega (arith, o.same)) ∙ ap neg_ℤ q.0.2),
        (λ ys r.
            let len = length-map ws turned in
            let e = start_neg ys i (omega (arith, r.same, len)) in
            let k = q.1 (map neg_ℤ ys) (unturned_order p ws ys r) in
            omega (arith, ints, e)),
      )

  pub first_last : First p (map turned ws) i (neg_ℤ x) → Last p ws i x
  first_last q =
      let ys = q.0.0 in
      let r = q.0.1 in
      let len = length-map ws turned in (
        (map neg_ℤ ys, unturned_order p ws ys r, start_neg ys i (omega (arith, r.same, len)) ∙ ap neg_ℤ q.0.2 ∙ neg_ℤ-neg_ℤ x),
        (λ xs o.
            let e = start_neg xs i (omega (arith, o.same)) in
            let k = q.1 (map neg_ℤ xs) (turned_order p ws xs o) in
            omega (arith, ints, e)),
      )
