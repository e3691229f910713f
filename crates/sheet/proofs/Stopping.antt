-- Questions in a row: where they stop, and what it takes to pass them all.
use Rattle.std.proofs.Common.{◌≡◌, ℕ, List, [], ◌∷◌, ◌++◌, ℤ, Some, None, Ok, Err, Option, Result, sym, refl, ap, ◌∙◌, subst, arith}
use Rattle.field.specs.declared.refusal.Refusal.{Refusal}
use Rattle.field.proofs.InARow.{no_stays, no_later}
use Rattle.field.specs.Refusals.{number_of, by_number, Question, first_no}
use Rattle.sheet.specs.Questions.{answered, q_times, q_upright}

-- questions that are passed, and then more that are
pub all_passed : {X : Type 0} (ps qs : List Question) (y x : X) → first_no ps ≡ None → first_no qs ≡ None → y ≡ x → ◌≡◌ {A = Result X ℕ} (Ok y) (answered (first_no (ps ++ qs)) x)
all_passed ps qs y x none more e = ap Ok e ∙ sym (ap (λ (o : Option ℕ). answered o x) (no_later ps qs none ∙ more))

-- an answer to some of the questions, by what they decided
module _ {Y : Type 0} (o : Option ℕ) (y : Y) where
  pub refused_by : (n : ℕ) → ◌≡◌ {A = Result Y ℕ} (Err n) (answered o y) → o ≡ Some n
  refused_by n e = go o e
    where
      go : (o : Option ℕ) → ◌≡◌ {A = Result Y ℕ} (Err n) (answered o y) → o ≡ Some n
      go None d = let z : ◌≡◌ {A = ℕ} 0 1 = cc in absurd (omega arith)
      go (Some k) d = let z : n ≡ k = cc in ap Some (sym z)

  pub passed : (x : Y) → ◌≡◌ {A = Result Y ℕ} (Ok x) (answered o y) → (o ≡ None) × (x ≡ y)
  passed x e = go o e
    where
      go : (o : Option ℕ) → ◌≡◌ {A = Result Y ℕ} (Ok x) (answered o y) → (o ≡ None) × (x ≡ y)
      go None d = (refl, cc)
      go (Some k) d = let z : ◌≡◌ {A = ℕ} 0 1 = cc in absurd (omega arith)

-- after questions that are passed, some of the next refuse
pub stops : {X Y : Type 0} (ps qs more : List Question) (r : Result X Refusal) (q : Refusal) (x : X) (y : Y) → first_no ps ≡ None → r ≡ Err q → ◌≡◌ {A = Result Y ℕ} (Err (number_of q)) (answered (first_no qs) y) → by_number r ≡ answered (first_no (ps ++ (qs ++ more))) x
stops ps qs more r q x y none i e =
    let n = no_stays qs more (number_of q) (refused_by (first_no qs) y (number_of q) e) in
    ap by_number i ∙ sym (ap (λ (o : Option ℕ). answered o x) (no_later ps (qs ++ more) none ∙ n))

-- what is said of two times is said of the same two as they are passed on
pub of_both : (P : ℤ → ℤ → Type 0) (d e k l : ℤ) → d ≡ e → k ≡ l → P d k → P e l
of_both P d e k l a b p = subst (λ (z : ℤ). P e z) b (subst (λ (z : ℤ). P z k) a p)

-- two times that are passed on
pub window_passed : (d e k l : ℤ) → d ≡ e → k ≡ l → ◌≡◌ {A = Result (Unit {0}) ℕ} (Ok tt) (answered (first_no (q_times d k ∷ q_upright d k ∷ [])) tt) → first_no (q_times e l ∷ q_upright e l ∷ []) ≡ None
window_passed d e k l x y h = (passed (first_no (q_times e l ∷ q_upright e l ∷ [])) tt tt (of_both (λ a b. ◌≡◌ {A = Result (Unit {0}) ℕ} (Ok tt) (answered (first_no (q_times a b ∷ q_upright a b ∷ [])) tt)) d e k l x y h)).0
