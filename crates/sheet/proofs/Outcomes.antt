-- What a call that may change the sheet comes to on its two ways out, from what its questions answered.
use Rattle.std.proofs.Common.{◌≡◌, ℕ, None, Ok, Err, Option, Result, sym, refl, ap, ◌∙◌}
use Rattle.field.specs.declared.refusal.Refusal.{Refusal}
use Rattle.field.specs.Refusals.{number_of, by_number}
use Rattle.sheet.specs.declared.sheet.Sheet.{Sheet}
use Rattle.sheet.specs.Calls.{Call, change_made}
use Rattle.sheet.specs.Questions.{answered, after}
use Rattle.sheet.specs.Trials.{decision}
use Rattle.sheet.specs.Sheets.{content, holds, SameTrial}
use Rattle.sheet.specs.Answers.{done, said_by}
use Rattle.sheet.specs.Book.{no_lists}
use Rattle.sheet.specs.Promises.{Makes}
use Rattle.sheet.proofs.Plain.{Plain}
use Rattle.sheet.proofs.Steps.{change_goes_on}
use Rattle.sheet.proofs.Stopping.{refused_by, passed}

module _ (s : Sheet) (call : Call) where
  -- all questions are passed, and what was answered is what they say
  pub record Passed {Y : Type 0} (x y : Y) : Type 0 where
    pub none : decision (holds s) call 0 ≡ None
    pub value : x ≡ y

  pub passes : {Y : Type 0} (y x : Y) → ◌≡◌ {A = Result Y ℕ} (Ok x) (answered (decision (holds s) call 0) y) → Passed x y
  passes y x e = let p = passed (decision (holds s) call 0) y x e in record { none = p.0; value = p.1 }

module _ (s : Sheet) (call : Call) (plain : Plain call) where
  makes : (r : Result (Unit {0}) Refusal) (t : Sheet) → by_number r ≡ answered (decision (holds s) call 0) tt → content t ≡ after (decision (holds s) call 0) (change_made call (content s)) (content s) → SameTrial s t → Makes call s r t
  makes r t answer held trial = record {
    answer = answer;
    held = held;
    trial = trial;
    law = (change_goes_on s t call plain no_lists (said_by (λ (_ : Unit {0}). done) (by_number r)) call refl (ap (said_by (λ (_ : Unit {0}). done)) answer) held trial).law;
  }

  -- a no refuses the call
  pub refuses : {Y : Type 0} (y : Y) (r : Result (Unit {0}) Refusal) (q : Refusal) → r ≡ Err q → ◌≡◌ {A = Result Y ℕ} (Err (number_of q)) (answered (decision (holds s) call 0) y) → Makes call s r s
  refuses y r q i e =
      let v = refused_by (decision (holds s) call 0) y (number_of q) e in
      makes r s
      (ap by_number i ∙ sym (ap (λ (o : Option ℕ). answered o tt) v))
      (sym (ap (λ (o : Option ℕ). after o (change_made call (content s)) (content s)) v))
      (record { number = refl; saved = refl })

  -- and with none it is made
  pub made : (t : Sheet) → decision (holds s) call 0 ≡ None → content t ≡ change_made call (content s) → SameTrial s t → Makes call s (Ok tt) t
  made t v new trial =
      makes (Ok tt) t
      (sym (ap (λ (o : Option ℕ). answered o tt) v))
      (new ∙ sym (ap (λ (o : Option ℕ). after o (change_made call (content s)) (content s)) v))
      trial
