-- What writing a roll answers and leaves, once no trial is open.
use Rattle.std.proofs.Common.{◌≡◌, ℕ, Bool, false, cond, leb, List, [], ◌∷◌, length, take, drop, IfOk, Some, None, Ok, Err, Option, Result, sym, refl, ap, ◌∙◌, subst, arith}
use Rattle.std.proofs.lemmas.List.{take_at}
use Rattle.std.proofs.lemmas.Bool.{leb-false, eq-eqb}
use Rattle.field.specs.declared.refusal.Refusal.{Refusal}
use Rattle.field.specs.Refusals.{by_number, first_no}
use Rattle.page.specs.Pages.{q_list, fitted}
use Rattle.reckoning.specs.Lists.{answer, leaves}
use Rattle.sheet.specs.Questions.{answered}
use Rattle.sheet.specs.Trials.{Held}
use Rattle.roll.specs.Written.{written, wrote}

pub no_trial : (h : Held) (room : ℕ) → leb 1 h.trials ≡ false → wrote h room ≡ fitted (written h.content) room
no_trial h room e =
    let n = leb-false 1 h.trials e in
    let bs = written h.content in
    ap (λ (b : Bool). answered (cond b (first_no (q_list bs room ∷ [])) (Some 1)) bs) (eq-eqb h.trials 0 (omega arith))

-- what holds of the bytes holds of what is written to the list
pub holds_of_written : (P : List ℕ → Type 0) (r : Result ℕ Refusal) (bs before after : List ℕ) (room : ℕ) → by_number r ≡ answer (fitted bs room) → after ≡ leaves (fitted bs room) before → P bs → IfOk r (λ n. P (take n after))
holds_of_written P r bs before after room e l p = by r (first_no (q_list bs room ∷ [])) e l
  where
    by : (r : Result ℕ Refusal) (o : Option ℕ) → by_number r ≡ answer (answered o bs) → after ≡ leaves (answered o bs) before → IfOk r (λ n. P (take n after))
    by (Err q) o e l = tt
    by (Ok n) None e l =
        let same : n ≡ length bs = cc in
        subst P (sym (ap (λ (m : ℕ). take m after) same ∙ ap (take (length bs)) l ∙ take_at bs (drop (length bs) before) (length bs) refl)) p
    by (Ok n) (Some m) e l = let z : ◌≡◌ {A = ℕ} 0 1 = cc in absurd (omega arith)
