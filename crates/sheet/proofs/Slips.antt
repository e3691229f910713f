-- What the questions about trials come to on a sheet.
use Rattle.std.proofs.Common.{◌≡◌, ℕ, Bool, true, false, cond, eqb, leb, List, [], ◌∷◌, Some, None, Ok, Err, Option, sym, refl, ap, arith}
use Rattle.std.proofs.lemmas.Bool.{and_parts}
use Rattle.field.specs.Refusals.{Question, first_no}
use Rattle.field.proofs.InARow.{all_yes}
use Rattle.sheet.specs.declared.sheet.Sheet.{Sheet}
use Rattle.sheet.specs.declared.sheet.trial.Slip.{Slip}
use Rattle.sheet.specs.Answers.{ended}
use Rattle.sheet.specs.Sheets.{holds}
use Rattle.sheet.specs.Trials.{q_no_trial, q_slip}

module _ (s : Sheet) (more : List Question) where
  pub in_trial : s.trial ≡ true → first_no (q_no_trial (holds s) ∷ more) ≡ Some 1
  in_trial e = ap (λ (b : Bool). cond (eqb (cond b 1 0) 0) (first_no more) (Some 1)) e

  pub outside_trial : s.trial ≡ false → first_no (q_no_trial (holds s) ∷ more) ≡ first_no more
  outside_trial e = ap (λ (b : Bool). cond (eqb (cond b 1 0) 0) (first_no more) (Some 1)) e

-- what keep and back answer, by what the question about the slip comes to
pub accepted : (v : Option ℕ) (p : Slip) → Ok tt ≡ ended v p → v ≡ None
accepted None p e = refl
accepted (Some n) p e = absurd (let z : ◌≡◌ {A = ℕ} 0 1 = cc in omega arith)

pub handed_back : (v : Option ℕ) (p : Slip) (x : ℕ × Slip) → Err x ≡ ended v p → v ≡ Some x.0
handed_back None p x e = absurd (let z : ◌≡◌ {A = ℕ} 0 1 = cc in omega arith)
handed_back (Some n) p x e = let z : x ≡ (n, p) = cc in sym (ap (λ (y : ℕ × Slip). Some y.0) z)

-- a slip that is taken finds a trial open
pub trial_open : (s : Sheet) (n : ℕ) → first_no (q_slip (holds s) n ∷ []) ≡ None → s.trial ≡ true
trial_open s n e = one_or_none s.trial (and_parts (leb 1 (cond s.trial 1 0)) (eqb n s.number) (all_yes (q_slip (holds s) n ∷ []) e).0).0
  where
    one_or_none : (x : Bool) → leb 1 (cond x 1 0) ≡ true → x ≡ true
    one_or_none true h = refl
    one_or_none false h = h
