-- What the questions say of a call's answer.
use Rattle.std.proofs.Common.{◌≡◌, ℕ, ◌+◌, ◌<◌, ◌≤◌, Bool, true, false, leb, List, [], ◌∷◌, ◌++◌, length, get_or, take, drop, set, pos, is_some, Some, None, Ok, Err, Option, Result, ◌≤ℤ◌, sym, refl, ap, ◌∙◌, subst, arith}
use Rattle.std.specs.List.{AllByRecursion}
use Rattle.std.proofs.lemmas.Int.{ints}
use Rattle.std.proofs.lemmas.List.{take_more, drop_more, set_at, length-take-le, append_assoc}
use Rattle.std.proofs.lemmas.Bool.{and_parts, leb-true}
use Rattle.field.specs.declared.window.Window.{Window}
use Rattle.field.specs.declared.refusal.Refusal.{Refusal}
use Rattle.field.proofs.InARow.{all_yes, no_among, none_both}
use Rattle.field.specs.Refusals.{number_of, question}
use Rattle.theory.specs.declared.span.Span.{Span}
use Rattle.theory.specs.Orders.{Possible}
use Rattle.theory.specs.Method.{forbidden}
use Rattle.theory.proofs.Deciding.{possible_some, some_possible}
use Rattle.reckoning.specs.Questions.{questions, refused, asked}
use Rattle.reckoning.specs.Lists.{decided, Thirteen}
use Rattle.reckoning.specs.Values.{Timed, Pace}
use Rattle.reckoning.proofs.Every.{timed_all}

-- ---- the questions of a field

-- a field that is not refused
pub passed : (p : ℕ) (ws : List Window) → refused p ws ≡ None → Pace (pos p) × (length ws ≤ 64) × AllByRecursion Timed ws
passed p ws e =
    let a = all_yes (questions p ws) e in
    let h = and_parts (leb 1 p) (leb p 3600) a.0 in
    let l = leb-true 1 p h.0 in
    let m = leb-true p 3600 h.1 in
    ((omega (arith, ints), omega (arith, ints)), leb-true (length ws) 64 a.1.0, timed_all ws a.1.1.0)

-- every question but the last has another number
not_13 : (p : ℕ) (ws : List Window) (room n : ℕ) → asked p ws room ≡ Some n → n < 13
not_13 p ws room n e =
    no_among (λ k. k < 13) (questions p ws ++ question 12 (leb (length ws) room) ∷ []) n (omega arith, (omega arith, (omega arith, (omega arith, (omega arith, tt))))) e

pub asked_passed : (p : ℕ) (ws : List Window) (room : ℕ) → asked p ws room ≡ None → Pace (pos p) × (length ws ≤ 64) × AllByRecursion Timed ws
asked_passed p ws room e = passed p ws (none_both (questions p ws) (question 12 (leb (length ws) room) ∷ []) e).0

pub room_passed : (p : ℕ) (ws : List Window) (room : ℕ) → asked p ws room ≡ None → length ws ≤ room
room_passed p ws room e =
    let last = question 12 (leb (length ws) room) ∷ [] in
    leb-true (length ws) room (all_yes last (none_both (questions p ws) last e).1).0

-- ---- number 13

-- where it comes, all was asked and there is no order
at_13 : {X : Type 0} (a : Option ℕ) (o : Option X) (n : ℕ) → decided a o ≡ Err n → ((m : ℕ) → a ≡ Some m → m < 13) → n ≡ 13 → (a ≡ None) × (o ≡ None)
at_13 (Some m) o n e h k = let z : m ≡ n = cc in let l = h m refl in absurd (omega (arith, l))
at_13 None None n e h k = (refl, refl)
at_13 {X} None (Some x) n e h k = absurd (let z : ◌≡◌ {A = ℕ} 0 1 = cc in omega arith)

pub is_13 : {X : Type 0} (a : Option ℕ) (o : Option X) (n : ℕ) → decided a o ≡ Err n → a ≡ None → n ≡ 13
is_13 (Some m) o n e k = absurd (let z : ◌≡◌ {A = ℕ} 0 1 = cc in omega arith)
is_13 None None n e k = cc
is_13 None (Some x) n e k = absurd (let z : ◌≡◌ {A = ℕ} 0 1 = cc in omega arith)

module _ (p : ℕ) (ws : List Window) where
  pub impossible : pos 1 ≤ℤ pos p → forbidden (pos p) ws ≡ None → Possible (pos p) ws → ⊥
  impossible h f w = let y : ◌≡◌ {A = Bool} false true = sym (ap is_some f) ∙ possible_some (pos p) ws h w in let z : ◌≡◌ {A = ℕ} 0 1 = cc in absurd (omega arith)

  pub no_order : (a : Option ℕ) (n : ℕ) → (a ≡ None → pos 1 ≤ℤ pos p) → ((m : ℕ) → a ≡ Some m → m < 13) → decided a (forbidden (pos p) ws) ≡ Err n → n ≡ 13 → (a ≡ None) × (Possible (pos p) ws → ⊥)
  no_order a n h l e k = let z = at_13 a (forbidden (pos p) ws) n e l k in (z.0, impossible (h z.0) z.1)

  pub thirteen_err : (room : ℕ) (r : Result ℕ Refusal) (q : Refusal) → r ≡ Err q → decided (asked p ws room) (forbidden (pos p) ws) ≡ Err (number_of q) → Thirteen p ws room r
  thirteen_err room r q i e =
      subst (Thirteen p ws room) (sym i) (record {
        only = λ h. let k : number_of q ≡ 13 = cc in no_order (asked p ws room) (number_of q) (λ z. (asked_passed p ws room z).0.0) (not_13 p ws room) e k;
        always = λ h _. ap Err (is_13 (asked p ws room) (forbidden (pos p) ws) (number_of q) e h);
      })

  pub thirteen_ok : (room n : ℕ) (f : List Span) → asked p ws room ≡ None → forbidden (pos p) ws ≡ Some f → Thirteen p ws room (Ok n)
  thirteen_ok room n f e k = record {
    only = λ z. let y : ◌≡◌ {A = ℕ} 0 1 = cc in absurd (omega arith);
    always = λ _ z. absurd (z (some_possible (pos p) ws (asked_passed p ws room e).0.0 (ap is_some k)));
  }

-- ---- a list that is filled from its beginning

pub filled_more : {X : Type 0} (xs ys before : List X) (i : ℕ) (d : X) → i < length xs → i < length before → ys ≡ take i xs ++ drop i before → set ys i (get_or xs i d) ≡ take (i + 1) xs ++ drop (i + 1) before
filled_more xs ys before i d l m e =
    let k = length-take-le i xs (omega arith) in
    ap (λ z. set z i (get_or xs i d)) (e ∙ ap (λ z. take i xs ++ z) (drop_more before i d m))
    ∙ set_at (take i xs) (get_or before i d) (drop (i + 1) before) (get_or xs i d) i k
    ∙ sym (ap (λ z. z ++ drop (i + 1) before) (take_more xs i d l) ∙ append_assoc (take i xs) (get_or xs i d ∷ []) (drop (i + 1) before))
