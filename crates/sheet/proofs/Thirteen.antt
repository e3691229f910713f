-- Number 13 in the subject's words, from what the questions decide.
use Rattle.std.proofs.Common.{◌≡◌, ℕ, ◌<◌, Bool, true, false, cond, List, [], ◌∷◌, ◌++◌, ℤ, Some, None, Option, Result, sym, refl, ap, ◌∙◌, arith}
use Rattle.std.specs.List.{AllByRecursion}
use Rattle.std.proofs.lemmas.Bool.{both_ways, cond-false}
use Rattle.field.specs.declared.refusal.Refusal.{Refusal}
use Rattle.field.specs.Refusals.{by_number, Question, question, first_no}
use Rattle.sheet.specs.declared.row.Step.TheVariants as step
use Rattle.sheet.specs.Content.{Content, paced, playable}
use Rattle.sheet.specs.Calls.{Call, Enter, Change, Pace, CallUp, Through, change_made}
use Rattle.sheet.specs.Questions.{q_pace, q_room, q_number, q_time, q_times, q_upright, q_on, q_new, q_standing, q_inside, q_list, q_order, questions, verdict, before_13, answered, Thirteen}
use Rattle.sheet.proofs.Playing.{plays, decided}
use Rattle.field.proofs.InARow.{all_yes, no_later}
use Rattle.sheet.proofs.Stopping.{refused_by}

-- where the last of questions in a row is 13 and gives the number, all others are passed and it is a no
last_decides : (ps : List Question) (b : Bool) → AllByRecursion (λ q. q.number < 13) ps → first_no (ps ++ question 13 b ∷ []) ≡ Some 13 → (first_no ps ≡ None) × (b ≡ false)
last_decides [] b a e = (refl, go b e)
  where
    go : (b : Bool) → ◌≡◌ {A = Option ℕ} (cond b None (Some 13)) (Some 13) → b ≡ false
    go true d = let z : ◌≡◌ {A = ℕ} 0 1 = cc in absurd (omega arith)
    go false d = refl
last_decides (q ∷ ps) b a e = go q.yes e (λ d. last_decides ps b a.1 d)
  where
    go : (y : Bool) → cond y (first_no (ps ++ question 13 b ∷ [])) (Some q.number) ≡ Some 13 → (first_no (ps ++ question 13 b ∷ []) ≡ Some 13 → (first_no ps ≡ None) × (b ≡ false)) → (cond y (first_no ps) (Some q.number) ≡ None) × (b ≡ false)
    go true d ih = ih d
    go false d ih = let z : q.number ≡ 13 = cc in absurd (let h = a.0 in omega arith)

-- ps are the questions before 13
module _ {X : Type 0} (c : Content) (call : Call) (room : ℕ) (ps : List Question) (all : questions c call room ≡ ps ++ q_order (change_made call c) ∷ []) (before : before_13 (questions c call room) ≡ ps) (low : AllByRecursion (λ q. q.number < 13) ps) (steady : first_no ps ≡ None → paced (change_made call c).pace ≡ true) where
  pub thirteen : (r : Result X Refusal) (x : X) → by_number r ≡ answered (first_no (questions c call room)) x → Thirteen c call room r
  thirteen r x e =
      let new = change_made call c in
      let b = playable new.rows new.pace in
      record {
        only = λ h.
            let v = refused_by (first_no (questions c call room)) x 13 (sym h ∙ e) in
            let d = last_decides ps b low (ap first_no (sym all) ∙ v) in
            (ap first_no before ∙ d.0, (λ o. both_ways b d.1 (decided new (steady d.0) o)));
        always = λ h no.
            let passed = ap first_no (sym before) ∙ h in
            let n = not_found b (λ y. no (plays new (steady passed) y)) in
            e ∙ ap (λ (o : Option ℕ). answered o x) (ap first_no all ∙ no_later ps (q_order new ∷ []) passed ∙ cond-false b None (Some 13) n);
      }
    where
      not_found : (b : Bool) → (b ≡ true → ⊥) → b ≡ false
      not_found true f = absurd (f refl)
      not_found false f = refl

module _ {X : Type 0} (c : Content) (pace : paced c.pace ≡ true) (r : Result X Refusal) (x : X) where
  pub enter_13 : (g : ℕ) (e l : ℤ) → by_number r ≡ answered (verdict c (Enter g e l) 0) x → Thirteen c (Enter g e l) 0 r
  enter_13 g e l = thirteen c (Enter g e l) 0 (q_room c.rows ∷ q_number g ∷ q_times e l ∷ q_upright e l ∷ q_new g c.rows ∷ []) refl refl (omega arith, (omega arith, (omega arith, (omega arith, (omega arith, tt))))) (λ _. pace) r x

  pub change_13 : (g : ℕ) (e l : ℤ) → by_number r ≡ answered (verdict c (Change g e l) 0) x → Thirteen c (Change g e l) 0 r
  change_13 g e l = thirteen c (Change g e l) 0 (q_times e l ∷ q_upright e l ∷ q_on g c.rows ∷ q_standing g (step.Change e l) c.rows ∷ []) refl refl (omega arith, (omega arith, (omega arith, (omega arith, tt)))) (λ _. pace) r x

  pub call_13 : (g : ℕ) (t : ℤ) → by_number r ≡ answered (verdict c (CallUp g t) 0) x → Thirteen c (CallUp g t) 0 r
  call_13 g t = thirteen c (CallUp g t) 0 (q_time t ∷ q_on g c.rows ∷ q_standing g (step.CallUp t) c.rows ∷ q_inside g t c.rows ∷ []) refl refl (omega arith, (omega arith, (omega arith, (omega arith, tt)))) (λ _. pace) r x

  pub through_13 : (g : ℕ) (t : ℤ) (room : ℕ) → by_number r ≡ answered (verdict c (Through g t) room) x → Thirteen c (Through g t) room r
  through_13 g t room = thirteen c (Through g t) room (q_time t ∷ q_on g c.rows ∷ q_inside g t c.rows ∷ q_list room c.rows ∷ []) refl refl (omega arith, (omega arith, (omega arith, (omega arith, tt)))) (λ _. pace) r x

pub pace_13 : {X : Type 0} (c : Content) (r : Result X Refusal) (x : X) (p : ℕ) → by_number r ≡ answered (verdict c (Pace p) 0) x → Thirteen c (Pace p) 0 r
pace_13 c r x p = thirteen c (Pace p) 0 (q_pace p ∷ []) refl refl (omega arith, tt) (λ e. (all_yes (q_pace p ∷ []) e).0) r x
