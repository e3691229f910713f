-- Questions in a row: what their first no says.
use Rattle.std.proofs.Common.{◌≡◌, ℕ, Bool, true, false, cond, List, [], ◌∷◌, ◌++◌, Some, None, refl, ap, ◌∙◌, subst, arith}
use Rattle.std.specs.List.{AllByRecursion}
use Rattle.field.specs.Refusals.{Question, first_no}

-- where no question gets a no, each got a yes
pub all_yes : (qs : List Question) → first_no qs ≡ None → AllByRecursion (λ q. q.yes ≡ true) qs
all_yes [] e = tt
all_yes (q ∷ qs) e = go q.yes refl e (λ d. all_yes qs d)
  where
    go : (b : Bool) → q.yes ≡ b → cond b (first_no qs) (Some q.number) ≡ None → (first_no qs ≡ None → AllByRecursion (λ q. q.yes ≡ true) qs) → (q.yes ≡ true) × AllByRecursion (λ q. q.yes ≡ true) qs
    go true y d ih = (y, ih d)
    go false y d ih = let z : ◌≡◌ {A = ℕ} 0 1 = cc in absurd (omega arith)

-- and where each gets a yes, none gets a no
pub no_no : (qs : List Question) → AllByRecursion (λ q. q.yes ≡ true) qs → first_no qs ≡ None
no_no [] a = refl
no_no (q ∷ qs) a = ap (λ (b : Bool). cond b (first_no qs) (Some q.number)) a.0 ∙ no_no qs a.1

-- the number of a no is one of theirs
pub no_among : (P : ℕ → Type 0) (qs : List Question) (n : ℕ) → AllByRecursion (λ q. P q.number) qs → first_no qs ≡ Some n → P n
no_among P [] n a e = let z : ◌≡◌ {A = ℕ} 0 1 = cc in absurd (omega arith)
no_among P (q ∷ qs) n a e = go q.yes e (λ d. no_among P qs n a.1 d)
  where
    go : (b : Bool) → cond b (first_no qs) (Some q.number) ≡ Some n → (first_no qs ≡ Some n → P n) → P n
    go true d ih = ih d
    go false d ih = let z : q.number ≡ n = cc in subst P z a.0

-- a no decides, whatever is asked after it
pub no_stays : (qs more : List Question) (n : ℕ) → first_no qs ≡ Some n → first_no (qs ++ more) ≡ Some n
no_stays [] more n e = let z : ◌≡◌ {A = ℕ} 0 1 = cc in absurd (omega arith)
no_stays (q ∷ qs) more n e = go q.yes e (λ d. no_stays qs more n d)
  where
    go : (b : Bool) → cond b (first_no qs) (Some q.number) ≡ Some n → (first_no qs ≡ Some n → first_no (qs ++ more) ≡ Some n) → cond b (first_no (qs ++ more)) (Some q.number) ≡ Some n
    go true d ih = ih d
    go false d ih = d

-- with no no so far, what comes after decides
pub no_later : (qs more : List Question) → first_no qs ≡ None → first_no (qs ++ more) ≡ first_no more
no_later [] more e = refl
no_later (q ∷ qs) more e = go q.yes e (λ d. no_later qs more d)
  where
    go : (b : Bool) → cond b (first_no qs) (Some q.number) ≡ None → (first_no qs ≡ None → first_no (qs ++ more) ≡ first_no more) → cond b (first_no (qs ++ more)) (Some q.number) ≡ first_no more
    go true d ih = ih d
    go false d ih = let z : ◌≡◌ {A = ℕ} 0 1 = cc in absurd (omega arith)

-- and with none at all there was none on the way
pub none_both : (qs more : List Question) → first_no (qs ++ more) ≡ None → (first_no qs ≡ None) × (first_no more ≡ None)
none_both [] more e = (refl, e)
none_both (q ∷ qs) more e = go q.yes e (λ d. none_both qs more d)
  where
    go : (b : Bool) → cond b (first_no (qs ++ more)) (Some q.number) ≡ None → (first_no (qs ++ more) ≡ None → (first_no qs ≡ None) × (first_no more ≡ None)) → (cond b (first_no qs) (Some q.number) ≡ None) × (first_no more ≡ None)
    go true d ih = ih d
    go false d ih = let z : ◌≡◌ {A = ℕ} 0 1 = cc in absurd (omega arith)
