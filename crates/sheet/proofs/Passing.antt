-- What every element of a list passes, when one is set, put in or taken out.
use Rattle.std.proofs.Common.{◌≡◌, ℕ, zero, suc, ◌<◌, Bool, true, List, [], ◌∷◌, length, get_or, set, refl, arith}
use Rattle.std.specs.List.{insert, remove, list_all}
use Rattle.std.proofs.lemmas.Bool.{and_parts, and_from}

module _ {X : Type 0} (t : X → Bool) where
  pub pass_at : (xs : List X) (i : ℕ) (d : X) → i < length xs → list_all t xs ≡ true → t (get_or xs i d) ≡ true
  pass_at [] i d h a = absurd (omega arith)
  pass_at (x ∷ xs) zero d h a = (and_parts (t x) (list_all t xs) a).0
  pass_at (x ∷ xs) (suc i) d h a = pass_at xs i d (omega arith) (and_parts (t x) (list_all t xs) a).1

  pub pass_set : (xs : List X) (i : ℕ) (y : X) → list_all t xs ≡ true → t y ≡ true → list_all t (set xs i y) ≡ true
  pass_set [] i y a b = refl
  pass_set (x ∷ xs) zero y a b = and_from (t y) (list_all t xs) b (and_parts (t x) (list_all t xs) a).1
  pass_set (x ∷ xs) (suc i) y a b = let p = and_parts (t x) (list_all t xs) a in and_from (t x) (list_all t (set xs i y)) p.0 (pass_set xs i y p.1 b)

  pub pass_inserted : (xs : List X) (i : ℕ) (y : X) → list_all t xs ≡ true → t y ≡ true → list_all t (insert xs i y) ≡ true
  pass_inserted [] zero y a b = and_from (t y) true b refl
  pass_inserted [] (suc i) y a b = and_from (t y) true b refl
  pass_inserted (x ∷ xs) zero y a b = and_from (t y) (list_all t (x ∷ xs)) b a
  pass_inserted (x ∷ xs) (suc i) y a b = let p = and_parts (t x) (list_all t xs) a in and_from (t x) (list_all t (insert xs i y)) p.0 (pass_inserted xs i y p.1 b)

  pub pass_removed : (xs : List X) (i : ℕ) → list_all t xs ≡ true → list_all t (remove xs i) ≡ true
  pass_removed [] zero a = refl
  pass_removed [] (suc i) a = refl
  pass_removed (x ∷ xs) zero a = (and_parts (t x) (list_all t xs) a).1
  pass_removed (x ∷ xs) (suc i) a = let p = and_parts (t x) (list_all t xs) a in and_from (t x) (list_all t (remove xs i)) p.0 (pass_removed xs i p.1)

  pub pass_weaker : (u : X → Bool) → ((x : X) → t x ≡ true → u x ≡ true) → (xs : List X) → list_all t xs ≡ true → list_all u xs ≡ true
  pass_weaker u f [] a = refl
  pass_weaker u f (x ∷ xs) a = let p = and_parts (t x) (list_all t xs) a in and_from (u x) (list_all u xs) (f x p.0) (pass_weaker u f xs p.1)
