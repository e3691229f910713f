-- The bisection for the first start of a place.
use Rattle.std.proofs.Common.{◌≡◌, ℕ, ◌+◌, ◌-◌, ◌<◌, true, false, ◌⊎◌, List, [], ◌∷◌, ◌++◌, length, take, ℤ, pos, negsuc, ◌+ℤ◌, ◌≤ℤ◌, ◌<ℤ◌, is_some, sym, ap, ◌∙◌, subst, inl, inr, arith}
use borrow.Author.Differences.{up, down}
use Rattle.std.specs.List.{AllByRecursion}
use Rattle.std.proofs.lemmas.Int.{ints, by_lt_z}
use Rattle.std.proofs.ByRecursion.{All-get_or}
use Rattle.std.proofs.lemmas.List.{set-get_or, get_or-set_same, get_or-set_other, take_more, length-set}
use Rattle.field.specs.declared.window.Window.{Window}
use Rattle.field.specs.Windows.{window, outside}
use Rattle.theory.specs.Orders.{Possible, window_at}
use Rattle.theory.specs.Method.{forbidden}
use Rattle.theory.specs.Theorem.{cut, First}
use Rattle.theory.proofs.Deciding.{possible_some, some_possible}
use Rattle.theory.proofs.Cutting.{cut_less, shortest_first}
use Rattle.reckoning.specs.Values.{Timed}

-- ---- the loop

-- the first start lies from low to high, and these are times of a field that passes the questions
pub record Closing (p : ℤ) (ws : List Window) (i : ℕ) (low high : ℤ) : Type 0 where
  pub inside : i < length ws
  pub from : (window_at ws i).early ≤ℤ low
  pub order : low ≤ℤ high
  pub to : high ≤ℤ (window_at ws i).late
  pub serves : Possible p (cut ws i high)
  pub before : (y : ℤ) → (window_at ws i).early ≤ℤ y → Possible p (cut ws i y) → low ≤ℤ y
  pub above : negsuc 86399 ≤ℤ low
  pub below : high ≤ℤ pos 86400

-- how many times lie between
unfoldable pub width : ℤ → ℤ → ℕ
width low high = (up high + down low) - (up low + down high)

pub closing_begin : (p : ℤ) (ws : List Window) (i : ℕ) (low high : ℤ) → pos 1 ≤ℤ p → i < length ws → AllByRecursion Timed ws → low ≡ (window_at ws i).early → high ≡ (window_at ws i).late → (window_at ws i).early ≤ℤ (window_at ws i).late → is_some (forbidden p ws) ≡ true → Closing p ws i low high
closing_begin p ws i low high h l timed a b k s =
    let t = All-get_or Timed ws i outside l timed in
    record {
      inside = l;
      from = omega (arith, ints, a);
      order = omega (arith, ints, a, b);
      to = omega (arith, ints, b);
      serves = subst (Possible p) (sym (ap (cut ws i) b ∙ set-get_or ws i outside)) (some_possible p ws h s);
      before = λ y k t. omega (arith, ints, a);
      above = omega (arith, ints, a, t.0);
      below = omega (arith, ints, b, t.3);
    }

module _ (p : ℤ) (ws : List Window) (i : ℕ) (low high mid : ℤ) (h : pos 1 ≤ℤ p) (c : Closing p ws i low high) (a : low ≤ℤ mid) (b : mid <ℤ high) where
  pub closing_down : is_some (forbidden p (cut ws i mid)) ≡ true → Closing p ws i low mid
  closing_down s = record {
    inside = c.inside;
    from = c.from;
    order = a;
    to = omega (arith, ints, c.to);
    serves = some_possible p (cut ws i mid) h s;
    before = c.before;
    above = c.above;
    below = omega (arith, ints, c.below);
  }

  pub closing_up : (next : ℤ) → is_some (forbidden p (cut ws i mid)) ≡ false → next ≡ mid +ℤ pos 1 → Closing p ws i next high
  closing_up next s e = record {
    inside = c.inside;
    from = omega (arith, ints, c.from, e);
    order = omega (arith, ints, e);
    to = c.to;
    serves = c.serves;
    before = λ y k t.
        by_lt_z mid y (λ q. omega (arith, ints, e))
        (λ q. let v = possible_some p (cut ws i mid) h (cut_less p ws i c.inside y mid q (omega (arith, ints, c.to)) t) in absurd (let z : ◌≡◌ {A = ℕ} 0 1 = cc in omega arith));
    above = omega (arith, ints, c.above, e);
    below = c.below;
  }

pub closing_end : (p q : ℤ) (ws : List Window) (i : ℕ) (low high : ℤ) → p ≡ q → high ≤ℤ low → Closing p ws i low high → First q ws i high
closing_end p q ws i low high r e c =
    subst (λ z. First z ws i high) r (shortest_first p ws i c.inside high (record { from = omega (arith, ints, c.from, c.order); to = c.to }, c.serves, (λ y k t. let b = c.before y k.from t in omega (arith, ints))))

pub narrower : (low high a b : ℤ) → low ≤ℤ a → a ≤ℤ b → b ≤ℤ high → (low <ℤ a) ⊎ (b <ℤ high) → width a b < width low high
unfolding width
narrower low high a b h k l (inl m) = omega (arith, ints)
narrower low high a b h k l (inr m) = omega (arith, ints)

-- ---- the windows of which one is cut

pub cut_here : (ws : List Window) (i at : ℕ) (x : ℤ) → i < length ws → at ≡ i → window (window_at ws at).early x ≡ window_at (cut ws i x) at
cut_here ws i at x h e = ap (λ k. window (window_at ws k).early x) e ∙ sym (get_or-set_same ws i (window (window_at ws i).early x) outside h) ∙ ap (window_at (cut ws i x)) (sym e)

pub cut_other : (ws : List Window) (i at : ℕ) (x : ℤ) → (at ≡ i → ⊥) → window_at ws at ≡ window_at (cut ws i x) at
cut_other ws i at x n = sym (get_or-set_other ws i at (window (window_at ws i).early x) outside n)

pub cut_more : (ws vs us : List Window) (i at : ℕ) (x : ℤ) (w : Window) → at < length ws → vs ≡ take at (cut ws i x) → us ≡ vs ++ w ∷ [] → w ≡ window_at (cut ws i x) at → us ≡ take (at + 1) (cut ws i x)
cut_more ws vs us i at x w h e d q =
    d ∙ ap (λ z. z ++ w ∷ []) e ∙ ap (λ z. take at (cut ws i x) ++ z ∷ []) q ∙ sym (take_more (cut ws i x) at outside (subst (λ n. at < n) (sym (length-set ws i (window (window_at ws i).early x))) h))
