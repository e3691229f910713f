-- What the questions of a place say, in a field and in the reversed one.
use Rattle.std.proofs.Common.{◌≡◌, ℕ, ◌<◌, Bool, true, false, ◌&&◌, ltb, leb, List, [], ◌∷◌, map, length, ℤ, pos, negsuc, ◌-ℤ◌, neg_ℤ, ◌≤ℤ◌, None, Ok, sym, refl, ap, ◌∙◌, subst, inl, inr, arith, w64, to_z, of_z}
use Rattle.std.proofs.lemmas.Int.{ints}
use Rattle.std.proofs.ByRecursion.{All-get_or}
use Rattle.std.proofs.lemmas.List.{length-map}
use Rattle.std.proofs.lemmas.Bool.{lt-ltb, ltb-true}
use Rattle.field.specs.declared.window.Window.{Window}
use Rattle.field.specs.declared.refusal.Refusal.{Refusal}
use Rattle.field.specs.Refusals.{number_of, Question, question, first_no}
use Rattle.field.specs.Reversed.{turned}
use Rattle.field.specs.Windows.{outside}
use Rattle.theory.specs.Method.{forbidden}
use Rattle.theory.specs.Theorem.{First, Last}
use Rattle.theory.proofs.Turned.{turned_order, first_last}
use Rattle.reckoning.specs.Questions.{every, in_time, timed, upright, questions, refused}
use Rattle.reckoning.specs.Range.{placed, Refused, FirstTold}
use Rattle.reckoning.specs.Values.{Timed}
use Rattle.field.proofs.InARow.{no_later, none_both}
use Rattle.reckoning.proofs.Asked.{passed, impossible}

-- ---- the ways out of the first start

module _ (p : ℕ) (ws : List Window) (i : ℕ) where
  pub placed_none : refused p ws ≡ None → i < length ws → placed p ws i ≡ None
  placed_none e h =
      let k : first_no (question 8 (ltb i (length ws)) ∷ []) ≡ None = ap (λ b. first_no (question 8 b ∷ [])) (lt-ltb i (length ws) h) in
      no_later (questions p ws) (question 8 (ltb i (length ws)) ∷ []) e ∙ k

  pub by_order : (q : Refusal) → number_of q ≡ 13 → refused p ws ≡ None → i < length ws → forbidden (pos p) ws ≡ None → Refused p ws i q
  by_order q k e h f = inr (placed_none e h, k, impossible p ws (passed p ws e).0.0 f)

  pub passed_place : placed p ws i ≡ None → (refused p ws ≡ None) × (i < length ws)
  passed_place e = let k = none_both (questions p ws) (question 8 (ltb i (length ws)) ∷ []) e in (k.0, inside (ltb i (length ws)) refl k.1)
    where
      inside : (b : Bool) → ltb i (length ws) ≡ b → first_no (question 8 b ∷ []) ≡ None → i < length ws
      inside true q h = ltb-true i (length ws) q
      inside false q h = let z : ◌≡◌ {A = ℕ} 0 1 = cc in absurd (omega arith)

  -- a first start lies in its window
  pub first_near : (x : ℤ) → FirstTold p ws i (Ok x) → (negsuc 86399 ≤ℤ x) × (x ≤ℤ pos 86400)
  first_near x h =
      let k = passed_place h.0 in
      let t = All-get_or Timed ws i outside k.1 (passed p ws k.0).2 in
      let w = h.1.0.1.within i k.1 in
      let e = h.1.0.2 in
      (omega (arith, ints, t.0, w.from, e), omega (arith, ints, t.3, w.to, e))

-- ---- the reversed field

in_time_neg : (z : ℤ) → in_time (neg_ℤ z) ≡ in_time z
in_time_neg z = grind (arith, ints)

swapped : (a b : Bool) → a && b ≡ b && a
swapped true true = refl
swapped true false = refl
swapped false true = refl
swapped false false = refl

timed_turned : (w : Window) → timed (turned w) ≡ timed w
timed_turned w =
    ap (λ b. b && in_time (neg_ℤ w.early)) (in_time_neg w.late)
    ∙ ap (λ b. in_time w.late && b) (in_time_neg w.early)
    ∙ swapped (in_time w.late) (in_time w.early)

upright_turned : (w : Window) → upright (turned w) ≡ upright w
upright_turned w = grind (arith, ints)

every_turned : (t : Window → Bool) (ws : List Window) → ((w : Window) → t (turned w) ≡ t w) → every t (map turned ws) ≡ every t ws
every_turned t [] h = refl
every_turned t (w ∷ ws) h = ap (λ b. b && every t (map turned ws)) (h w) ∙ ap (λ b. t w && b) (every_turned t ws h)

module _ (p : ℕ) (ws : List Window) (i : ℕ) where
  -- it is asked the same questions
  placed_turned : placed p (map turned ws) i ≡ placed p ws i
  placed_turned =
      let ask : ℕ → Bool → Bool → List Question =
      λ n a b. question 3 (leb 1 p && leb p 3600) ∷ question 4 (leb n 64) ∷ question 6 a ∷ question 7 b ∷ question 8 (ltb i n) ∷ [] in
      ap (λ n. first_no (ask n (every timed (map turned ws)) (every upright (map turned ws)))) (length-map ws turned)
      ∙ ap (λ a. first_no (ask (length ws) a (every upright (map turned ws)))) (every_turned timed ws timed_turned)
      ∙ ap (λ b. first_no (ask (length ws) (every timed ws) b)) (every_turned upright ws upright_turned)

  -- its first start is minus the last
  pub last_told : (x y : ℤ) → y ≡ neg_ℤ x → FirstTold p (map turned ws) i (Ok x) → Last (pos p) ws i y
  last_told x y e h =
      let k = passed_place p ws i (sym placed_turned ∙ h.0) in
      let d : x ≡ neg_ℤ y = omega (arith, ints, e) in
      first_last (pos p) ws i y k.1 (subst (First (pos p) (map turned ws) i) d h.1)

  -- and it is refused alike
  pub refused_turned : (q : Refusal) → Refused p (map turned ws) i q → Refused p ws i q
  refused_turned q (inl e) = inl (sym placed_turned ∙ e)
  refused_turned q (inr h) = inr (sym placed_turned ∙ h.0, h.1, (λ w. h.2 (map neg_ℤ w.0, turned_order (pos p) ws w.0 w.1)))

pub neg_real : (x : ℤ) → negsuc 86399 ≤ℤ x → x ≤ℤ pos 86400 → to_z w64 (of_z w64 (pos 0 -ℤ to_z w64 (of_z w64 x))) ≡ neg_ℤ x
neg_real x a b = omega (arith, ints)
