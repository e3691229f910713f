-- Cutting a window: what is left of the orders of play, and the first start of its place.
use Rattle.std.proofs.Common.{◌≡◌, ℕ, ◌<◌, List, length, ℤ, ◌≤ℤ◌, sym, ◌∙◌, subst, ⊎_elim, arith}
use Rattle.std.proofs.lemmas.Int.{ints}
use Rattle.std.proofs.lemmas.List.{length-set, get_or-set_same, get_or-set_other}
use Rattle.std.proofs.lemmas.Bool.{cases_eq}
use Rattle.field.specs.declared.window.Window.{Window}
use Rattle.field.specs.Windows.{outside}
use Rattle.theory.specs.Orders.{window_at, start_at, In, OrderOfPlay, Possible}
use Rattle.theory.specs.Theorem.{cut, First, Shortest}

pub order_cut : (p : ℤ) (ws : List Window) (xs : List ℤ) (i : ℕ) (x : ℤ) → i < length ws → OrderOfPlay p ws xs → start_at xs i ≤ℤ x → OrderOfPlay p (cut ws i x) xs
order_cut p ws xs i x h o k =
    let c : Window = record { early = (window_at ws i).early; late = x } in
    let len = length-set ws i c in
    record {
      same = o.same ∙ sym len;
      within =
          λ j l.
          ⊎_elim
          (λ e. subst (λ j. In (window_at (cut ws i x) j) (start_at xs j)) (sym e) (subst (λ w. In w (start_at xs i)) (sym (get_or-set_same ws i c outside h)) (record { from = (o.within i h).from; to = k })))
          (λ n. subst (λ w. In w (start_at xs j)) (sym (get_or-set_other ws i j c outside n)) (o.within j (omega (arith, len))))
          (cases_eq j i);
      apart = λ j m a b. o.apart j m a (omega (arith, len));
    }

pub order_uncut : (p : ℤ) (ws : List Window) (xs : List ℤ) (i : ℕ) (x : ℤ) → i < length ws → x ≤ℤ (window_at ws i).late → OrderOfPlay p (cut ws i x) xs → OrderOfPlay p ws xs × (start_at xs i ≤ℤ x)
order_uncut p ws xs i x h k o =
    let c : Window = record { early = (window_at ws i).early; late = x } in
    let len = length-set ws i c in
    let here : In c (start_at xs i) = subst (λ w. In w (start_at xs i)) (get_or-set_same ws i c outside h) (o.within i (omega (arith, len))) in (
      record {
        same = o.same ∙ len;
        within =
            λ j l.
            ⊎_elim
            (λ e. subst (λ j. In (window_at ws j) (start_at xs j)) (sym e) (record { from = here.from; to = omega (arith, ints, here.to) }))
            (λ n. subst (λ w. In w (start_at xs j)) (get_or-set_other ws i j c outside n) (o.within j (omega (arith, len))))
            (cases_eq j i);
        apart = λ j m a b. o.apart j m a (omega (arith, len));
      },
      here.to,
    )

module _ (p : ℤ) (ws : List Window) (i : ℕ) (h : i < length ws) where
  pub cut_less : (x y : ℤ) → x ≤ℤ y → y ≤ℤ (window_at ws i).late → Possible p (cut ws i x) → Possible p (cut ws i y)
  cut_less x y k l o =
      let u = order_uncut p ws o.0 i x h (omega (arith, ints)) o.1 in
      (o.0, order_cut p ws o.0 i y h u.0 (omega (arith, ints, u.1)))

  pub first_shortest : (x : ℤ) → First p ws i x → Shortest p ws i x
  first_shortest x q =
      let xs = q.0.0 in
      let o = q.0.1 in
      let e = q.0.2 in
      let inside = subst (In (window_at ws i)) e (o.within i h) in
      let at : start_at xs i ≤ℤ x = omega (arith, ints, e) in (
        inside,
        (xs, order_cut p ws xs i x h o at),
        (λ y k z.
            let u = order_uncut p ws z.0 i y h k.to z.1 in
            let v = q.1 z.0 u.0 in
            omega (arith, ints, u.1)),
      )

  pub shortest_first : (x : ℤ) → Shortest p ws i x → First p ws i x
  shortest_first x q =
      let z = q.1 in
      let xs = z.0 in
      let u = order_uncut p ws xs i x h q.0.to z.1 in
      let all : (ys : List ℤ) → OrderOfPlay p ws ys → x ≤ℤ start_at ys i =
      λ ys o.
      let self : start_at ys i ≤ℤ start_at ys i = omega (arith, ints) in
      q.2 (start_at ys i) (o.within i h) (ys, order_cut p ws ys i (start_at ys i) h o self) in
      let low = all xs u.0 in
      let e : start_at xs i ≡ x = omega (arith, ints, u.1) in
      ((xs, u.0, e), all)
