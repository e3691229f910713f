-- Fewer groups keep an order of play.
use Rattle.std.proofs.Common.{◌≡◌, ℕ, suc, ◌+◌, ◌<◌, ◌≤◌, List, ◌++◌, map, length, take, drop, ℤ, pos, sym, ap, ◌∙◌, subst, ⊎_elim, arith}
use Rattle.std.specs.List.{remove}
use Rattle.std.proofs.lemmas.List.Edits.{length-remove, get_or-remove_below, get_or-remove_above}
use Rattle.std.proofs.lemmas.List.{length-map, map-append, take-map, drop-map}
use Rattle.std.proofs.lemmas.Bool.{cases_lt}
use Rattle.field.specs.declared.window.Window.{Window}
use Rattle.field.specs.Windows.{outside}
use Rattle.theory.specs.Orders.{In, Apart, OrderOfPlay, window_at, start_at}
use Rattle.sheet.specs.declared.row.Row.{Row}
use Rattle.sheet.specs.Standings.{counts}
use Rattle.sheet.specs.Content.{Content, Playable, windows_of}

module _ (p : ℤ) (ws : List Window) (xs : List ℤ) (i : ℕ) (h : i < length ws) (o : OrderOfPlay p ws xs) where
  there : i < length xs
  there = omega (arith, o.same)

  -- the start at a place of the rest is that of the same group before
  below : (j : ℕ) → j < i → start_at xs j ≡ start_at (remove xs i) j
  below j a = sym (get_or-remove_below xs i (pos 0) j a there)

  above : (j : ℕ) → i ≤ j → start_at xs (j + 1) ≡ start_at (remove xs i) j
  above j a = sym (get_or-remove_above xs i (pos 0) j a there)

  apart : (j k m n : ℕ) → start_at xs j ≡ start_at (remove xs i) m → start_at xs k ≡ start_at (remove xs i) n → Apart p (start_at xs j) (start_at xs k) → Apart p (start_at (remove xs i) m) (start_at (remove xs i) n)
  apart j k m n a b q = subst (λ (z : ℤ). Apart p (start_at (remove xs i) m) z) b (subst (λ (z : ℤ). Apart p z (start_at xs k)) a q)

  within : (j k : ℕ) → window_at ws j ≡ window_at (remove ws i) k → start_at xs j ≡ start_at (remove xs i) k → In (window_at ws j) (start_at xs j) → In (window_at (remove ws i) k) (start_at (remove xs i) k)
  within j k a b q = subst (λ (w : Window). In w (start_at (remove xs i) k)) a (subst (λ (z : ℤ). In (window_at ws j) z) b q)

  rest_order : OrderOfPlay p (remove ws i) (remove xs i)
  rest_order =
      let n = length-remove ws i h in
      let m = length-remove xs i there in
      record {
        same = omega (arith, o.same);
        within =
            λ j a.
            ⊎_elim
            (λ b. within j j (sym (get_or-remove_below ws i outside j b h)) (below j b) (o.within j (omega arith)))
            (λ b. within (j + 1) j (sym (get_or-remove_above ws i outside j b h)) (above j b) (o.within (j + 1) (omega arith)))
            (cases_lt j i);
        apart =
            λ j k a b.
            ⊎_elim
            (λ c. apart j k j k (below j (omega arith)) (below k c) (o.apart j k a (omega arith)))
            (λ c.
            ⊎_elim
            (λ d. apart j (k + 1) j k (below j d) (above k c) (o.apart j (k + 1) (omega arith) (omega arith)))
            (λ d. apart (j + 1) (k + 1) j k (above j d) (above k c) (o.apart (j + 1) (k + 1) (omega arith) (omega arith)))
            (cases_lt j i))
            (cases_lt k i);
      }

windows_removed : (rs : List Row) (i : ℕ) → windows_of (remove rs i) ≡ remove (windows_of rs) i
windows_removed rs i = map-append counts (take i rs) (drop (suc i) rs) ∙ ap (λ (ws : List Window). ws ++ map counts (drop (suc i) rs)) (sym (take-map counts i rs)) ∙ ap (λ (ws : List Window). take i (map counts rs) ++ ws) (sym (drop-map counts (suc i) rs))

pub fewer_play : (c : Content) (i : ℕ) → i < length c.rows → Playable c → Playable (record { rows = remove c.rows i; pace = c.pace })
fewer_play c i h o =
    let n = length-map c.rows counts in
    (remove o.0 i, subst (λ (ws : List Window). OrderOfPlay (pos c.pace) ws (remove o.0 i)) (sym (windows_removed c.rows i)) (rest_order (pos c.pace) (windows_of c.rows) o.0 i (omega arith) o.1))
