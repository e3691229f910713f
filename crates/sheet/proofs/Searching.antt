-- Where a search for a number ends among rows in ascending number.
use Rattle.std.proofs.Common.{◌≡◌, ◌≢◌, ℕ, zero, suc, ◌<◌, ◌≤◌, Bool, true, false, cond, ltb, eqb, List, [], ◌∷◌, length, get_or, Ok, Err, Result, sym, refl, ap, ◌∙◌, arith}
use lib.ListN.{get_or-map}
use Rattle.std.specs.List.{list_all}
use Rattle.std.specs.List.Sorted.{IsSearchInRange, IsBinarySearchResult, IsNonDecreasingBy}
use Rattle.std.specs.Ordering.{nat_cmp, ordering_index}
use Rattle.std.proofs.lemmas.Cmp.{ranked}
use Rattle.std.proofs.lemmas.List.{length-map}
use Rattle.std.proofs.lemmas.List.Sorted.{IsNonDecreasingBy-from_default}
use Rattle.std.proofs.lemmas.Bool.{and_parts, cond-true, cond-false, cond_both, eq-eqb, ne_eqb, ltb-true, lt-ltb, le-ltb}
use Rattle.std.proofs.lemmas.Bool.Decides.{nat_tests}
use Rattle.sheet.specs.declared.row.Row.{Row}
use Rattle.sheet.specs.Standings.{nobody}
use Rattle.sheet.specs.Content.{first, place, place_for, on, rising, numbers_of}
use Rattle.sheet.proofs.Passing.{pass_at}

abbrev number_at : List Row → ℕ → ℕ
number_at rs k = (get_or rs k nobody).number

-- each number is below every later one
rises : (rs : List Row) → rising (numbers_of rs) ≡ true → (i j : ℕ) → i < j → j < length rs → number_at rs i < number_at rs j
rises [] h i j less inside = absurd (omega arith)
rises (r ∷ rs) h zero zero less inside = absurd (omega arith)
rises (r ∷ rs) h zero (suc j) less inside =
    let p = and_parts (list_all (ltb r.number) (numbers_of rs)) (rising (numbers_of rs)) h in
    let n = length-map rs (λ (x : Row). x.number) in
    let above = pass_at (ltb r.number) (numbers_of rs) j 0 (omega arith) p.0 in
    ltb-true r.number (number_at rs j) (sym (ap (ltb r.number) (get_or-map (λ (x : Row). x.number) rs j nobody)) ∙ above)
rises (r ∷ rs) h (suc i) zero less inside = absurd (omega arith)
rises (r ∷ rs) h (suc i) (suc j) less inside = rises rs (and_parts (list_all (ltb r.number) (numbers_of rs)) (rising (numbers_of rs)) h).1 i j (omega arith) (omega arith)

-- the first place that passes a test, by what is read below it and there
first_at : (t : Row → Bool) (rs : List Row) (i : ℕ) → i ≤ length rs → ((k : ℕ) → k < i → t (get_or rs k nobody) ≡ false) → (i < length rs → t (get_or rs i nobody) ≡ true) → first t rs ≡ i
first_at t [] zero inside below here = refl
first_at t [] (suc i) inside below here = absurd (omega arith)
first_at t (r ∷ rs) zero inside below here = cond-true (t r) 0 (suc (first t rs)) (here (omega arith))
first_at t (r ∷ rs) (suc i) inside below here =
    cond-false (t r) 0 (suc (first t rs)) (below 0 (omega arith))
    ∙ ap suc (first_at t rs i (omega arith) (λ k less. below (suc k) (omega arith)) (λ less. here (omega arith)))

pub first_inside : (t : Row → Bool) (rs : List Row) → first t rs ≤ length rs
first_inside t [] = omega arith
first_inside t (r ∷ rs) = cond_both (t r) 0 (suc (first t rs)) (λ (n : ℕ). n ≤ suc (length rs)) (λ _. omega arith) (λ _. let h = first_inside t rs in omega arith)

module _ (g : ℕ) (rs : List Row) where
  -- what a search for a number answers
  abbrev pub searched : Result ℕ ℕ
  searched = cond (on g rs) (Ok (place g rs)) (Err (place_for g rs))

  -- at the number
  found : rising (numbers_of rs) ≡ true → (i : ℕ) → i < length rs → number_at rs i ≡ g → Ok i ≡ searched
  found h i inside same =
      let at = first_at (λ (r : Row). eqb r.number g) rs i (omega arith) (λ k less. ne_eqb (number_at rs k) g (λ e. let up = rises rs h k i less inside in omega arith)) (λ _. eq-eqb (number_at rs i) g same) in
      ap Ok (sym at) ∙ sym (cond-true (on g rs) (Ok (place g rs)) (Err (place_for g rs)) (lt-ltb (place g rs) (length rs) (omega arith)))

  -- or between the lower numbers and the higher ones
  missed : (i : ℕ) → i ≤ length rs → ((k : ℕ) → k < i → number_at rs k < g) → ((k : ℕ) → i ≤ k → k < length rs → g < number_at rs k) → Err i ≡ searched
  missed i inside lower higher =
      let none = first_at (λ (r : Row). eqb r.number g) rs (length rs) (omega arith) (λ k less. ne_eqb (number_at rs k) g (apart k less)) (λ less. absurd (omega arith)) in
      let at = first_at (λ (r : Row). ltb g r.number) rs i inside (λ k less. le-ltb g (number_at rs k) (let low = lower k less in omega arith)) (λ less. lt-ltb g (number_at rs i) (higher i (omega arith) less)) in
      ap Err (sym at) ∙ sym (cond-false (on g rs) (Ok (place g rs)) (Err (place_for g rs)) (le-ltb (place g rs) (length rs) (omega arith)))
    where
      apart : (k : ℕ) → k < length rs → number_at rs k ≢ g
      apart k less e = grind (arith, lower k, higher k)

  -- comparisons with it rise
  compared : rising (numbers_of rs) ≡ true → IsNonDecreasingBy (λ r. ordering_index (nat_cmp r.number g)) rs
  compared h = IsNonDecreasingBy-from_default (λ r. ordering_index (nat_cmp r.number g)) rs nobody (λ i j le inside.
      let up : number_at rs i ≤ number_at rs j = grind (arith, rises rs h i j, λ (same : i ≡ j). ap (number_at rs) same) in
      grind (arith, nat_tests))

  pub searches : rising (numbers_of rs) ≡ true → (r : Result ℕ ℕ) → IsSearchInRange r (length rs) → IsBinarySearchResult (λ r. nat_cmp r.number g) rs r → r ≡ searched
  searches h (Ok i) inside equal = found h i inside (ranked _ g _ (sym (equal nobody)))
  searches h (Err i) inside parted =
      let p = parted (compared h) in
      missed i inside (λ k less. ranked _ g _ (sym (p.0 k nobody (omega arith) less))) (λ k from less. ranked _ g _ (sym (p.1 k nobody from less)))

  -- a number that is not found is new, and this is its place
  pub record New (i : ℕ) : Type 0 where
    pub new : on g rs ≡ false
    pub at : i ≡ place_for g rs

  pub not_found : (i : ℕ) → Err i ≡ searched → New i
  not_found i = go (on g rs) refl
    where
      go : (b : Bool) → on g rs ≡ b → ◌≡◌ {A = Result ℕ ℕ} (Err i) (cond b (Ok (place g rs)) (Err (place_for g rs))) → New i
      go true e d = absurd (let z : ◌≡◌ {A = ℕ} 0 1 = cc in omega arith)
      go false e d = record { new = e; at = cc }
