-- What making the call of a record comes to.
use Rattle.std.proofs.Common.{◌≡◌, ℕ, Some, None, Ok, Err, Option, Result, sym, refl, ap, ◌∙◌, subst, arith}
use Rattle.sheet.specs.declared.call.Call.{Call}
use Rattle.sheet.specs.declared.sheet.Sheet.{Sheet}
use Rattle.sheet.specs.Questions.{after, answered}
use Rattle.sheet.specs.Trials.{decision}
use Rattle.sheet.specs.Answers.{Said, done, said_by}
use Rattle.sheet.specs.Book.{Lists, no_lists, Event, History, more}
use Rattle.sheet.specs.Sheets.{content, content_of, at_open, holds}
use Rattle.sheet.specs.Law.{Lawful, GoesOn}
use Rattle.sheet.specs.OneCall.{Outcome, ComesTo}
use Rattle.sheet.proofs.Extending.{trials_open}
use Rattle.sheet.proofs.Striking.{trials_of}
use Rattle.sheet.proofs.Plain.{Plain, enter_plain, change_plain, withdraw_plain, pace_plain, call_plain, stand_down_plain, away_plain}
use Rattle.roll.specs.declared.record.Record.{Record}
use Rattle.roll.specs.declared.record.Record.TheVariants as code
use Rattle.roll.specs.Records.{said}
use Rattle.roll.specs.Playing.{changed, event}

plain : (r : Record) → Plain (said r).call
plain (code.Pace p) = pace_plain p
plain (code.Enter g e l name) = enter_plain g e l
plain (code.Change g e l) = change_plain g e l
plain (code.Withdraw g) = withdraw_plain g
plain (code.CallUp g u) = call_plain g u
plain (code.StandDown g) = stand_down_plain g
plain (code.SendAway g) = away_plain g

same_trials : (s t : Sheet) → at_open t ≡ at_open s → (holds t).trials ≡ (holds s).trials
same_trials s t e = sym (trials_open t.trial (content_of t.saved)) ∙ ap trials_of e ∙ trials_open s.trial (content_of s.saved)

pub record Made (s : Sheet) (call : Call) (a : Said) (t : Sheet) : Type 0 where
  pub answer : a ≡ said_by (λ (_ : Unit {0}). done) (answered (decision (holds s) call 0) tt)
  pub held : holds t ≡ after (decision (holds s) call 0) (changed (holds s) call) (holds s)
  pub saved : at_open t ≡ at_open s

module _ (s t : Sheet) (call : Call) (given left : Lists) (a : Said) (p : Plain call) (same : t.number ≡ s.number) where
  by_decision : (v : Option ℕ) → decision (holds s) call 0 ≡ v → Outcome v s call given a left t → Made s call a t × (left ≡ given)
  by_decision (Some n) d o =
      let e = o.3 in (
        record {
          answer = o.0 ∙ p.alone n ∙ ap (λ (v : Option ℕ). said_by (λ (_ : Unit {0}). done) (answered v tt)) (sym d);
          held = (λ i. record { sheet = same i; content = o.2 i; trials = same_trials s t e i }) ∙ ap (λ (v : Option ℕ). after v (changed (holds s) call) (holds s)) (sym d);
          saved = e;
        },
        o.1,
      )
  by_decision None d o =
      let e = o.2 ∙ p.stays (content s) (at_open s) in
      let c = o.1 ∙ p.moves (content s) (at_open s) in
      let done-so = p.told (holds s) given a left o.0 in (
        record {
          answer = done-so.0 ∙ ap (λ (v : Option ℕ). said_by (λ (_ : Unit {0}). done) (answered v tt)) (sym d);
          held = (λ i. record { sheet = same i; content = c i; trials = same_trials s t e i }) ∙ ap (λ (v : Option ℕ). after v (changed (holds s) call) (holds s)) (sym d);
          saved = e;
        },
        done-so.1,
      )

-- an answer of such a call tells what its questions decide
abbrev told_of : Result (Unit {0}) ℕ → Said
told_of r = said_by (λ (_ : Unit {0}). done) r

pub same_answer : (x y : Result (Unit {0}) ℕ) → told_of x ≡ told_of y → x ≡ y
same_answer (Ok x) (Ok y) e = refl
same_answer (Ok x) (Err n) e = let z : ◌≡◌ {A = ℕ} 0 1 = cc in absurd (omega arith)
same_answer (Err n) (Ok y) e = let z : ◌≡◌ {A = ℕ} 0 1 = cc in absurd (omega arith)
same_answer (Err n) (Err m) e = cc

-- the call of a record, with no lists handed in
module _ (s t : Sheet) (r : Record) (call : Call) (left : Lists) (a : Said) (is : call ≡ (said r).call) (step : ComesTo s call no_lists a left t) where
  step_made : ComesTo s (said r).call no_lists a left t
  step_made = subst (λ (x : Call). ComesTo s x no_lists a left t) is step

  both : Made s (said r).call a t × (left ≡ no_lists)
  both = by_decision s t (said r).call no_lists left a (plain r) step_made.number (decision (holds s) (said r).call 0) refl (subst (λ (n : ℕ). Outcome (decision (holds s) (said r).call n) s (said r).call no_lists a left t) ((plain r).lists no_lists) step_made.outcome)

  pub made : Made s (said r).call a t
  made = both.0

  pub one_more : GoesOn s call no_lists a left t → (n : ℕ) (es : History) → Lawful n es s → Lawful n (more es (event (holds s) (said r).call)) t
  one_more law n es was =
      let same : ◌≡◌ {A = Event} (record { met = holds s; call = call; given = no_lists; answer = a; left = left }) (event (holds s) (said r).call) = λ i. record { met = holds s; call = is i; given = no_lists; answer = made.answer i; left = both.1 i } in
      subst (λ (e : Event). Lawful n (more es e) t) same (law n es was)
