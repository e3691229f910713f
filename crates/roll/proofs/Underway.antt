-- A roll while it is played.
use Rattle.std.proofs.Common.{◌≡◌, ℕ, MatchResult, IsErrAnd, List, Some, None, Ok, Err, Option, Result, sym, refl, ap, ◌∙◌, subst, arith}
use Rattle.sheet.specs.declared.call.Call.{Call}
use Rattle.sheet.specs.declared.sheet.Sheet.{Sheet}
use Rattle.sheet.specs.Questions.{after, answered}
use Rattle.sheet.specs.Trials.{Held, decision}
use Rattle.sheet.specs.Book.{History, more}
use Rattle.sheet.specs.Law.{Lawful}
use Rattle.sheet.specs.Sheets.{at_open, holds}
use Rattle.field.specs.declared.refusal.Refusal.{Refusal}
use Rattle.field.specs.Refusals.{by_number, number_of}
use Rattle.roll.specs.declared.fault.Fault.{Fault}
use Rattle.roll.specs.declared.records.Entry.{Entry}
use Rattle.roll.specs.Faults.{Named, named, refused}
use Rattle.roll.specs.Meaning.{Placed, Meaning, over, followed, heard, meaning, placed}
use Rattle.roll.specs.Playing.{Outcome, by_no, changed, event, logged, played, playing}

-- the roll was begun on the sheet s, which has become t, and this is left of it
pub record Underway (s : Sheet) (roll : List ℕ) (t : Sheet) (m : Meaning) : Type 0 where
  pub plays : played (holds s) roll ≡ playing (holds t) m.records m.fault
  pub saved : at_open t ≡ at_open s
  pub law : (n : ℕ) (es : History) → Lawful n es s → (fs : History) × Lawful n fs t × (logged (holds s) (meaning roll).records es ≡ logged (holds t) m.records fs)

-- it ended so
pub record Ended (s : Sheet) (roll : List ℕ) (t : Sheet) (f : Option Named) : Type 0 where
  pub fault : (played (holds s) roll).fault ≡ f
  pub held : holds t ≡ (played (holds s) roll).held
  pub saved : at_open t ≡ at_open s
  pub law : (n : ℕ) (es : History) → Lawful n es s → Lawful n (logged (holds s) (meaning roll).records es) t

pub begins : (s : Sheet) (roll : List ℕ) (m : Meaning) → m ≡ meaning roll → Underway s roll s m
begins s roll m e = subst (λ (x : Meaning). Underway s roll s x) (sym e) (record { plays = refl; saved = refl; law = λ n es was. (es, was, refl) })

pub goes_on : (s : Sheet) (roll : List ℕ) (t : Sheet) (m k : Meaning) → m ≡ k → Underway s roll t m → Underway s roll t k
goes_on s roll t m k e u = subst (λ (x : Meaning). Underway s roll t x) e u

pub finishes : (s : Sheet) (roll : List ℕ) (t : Sheet) (f : Option Named) → Underway s roll t (over f) → Ended s roll t f
unfolding playing logged
finishes s roll t f u = record {
  fault = ap (λ (o : Outcome). o.fault) u.plays;
  held = sym (ap (λ (o : Outcome). o.held) u.plays);
  saved = u.saved;
  law = λ n es was. let w = u.law n es was in subst (λ (h : History). Lawful n h t) (sym w.2) w.1;
}

-- what a reader tells of it: a fault ends it, and a record is followed by the rest
module _ (s : Sheet) (roll : List ℕ) (t : Sheet) (m rest : Meaning) (said : Result Entry Fault) (under : Underway s roll t m) (told : m ≡ heard (Some said) rest) where
  pub at_fault : (f : Fault) → said ≡ Err f → Ended s roll t (Some (named f))
  at_fault f is = finishes s roll t (Some (named f)) (goes_on s roll t m (over (Some (named f))) (told ∙ ap (λ (r : Result Entry Fault). heard (Some r) rest) is) under)

  pub at_record : (e : Entry) → said ≡ Ok e → Underway s roll t (followed (placed e) rest)
  at_record e is = goes_on s roll t m (followed (placed e) rest) (told ∙ ap (λ (r : Result Entry Fault). heard (Some r) rest) is) under

-- what the call of a record made of the sheet
pub record Called (t u : Sheet) (call : Call) : Type 0 where
  pub held : holds u ≡ after (decision (holds t) call 0) (changed (holds t) call) (holds t)
  pub saved : at_open u ≡ at_open t
  pub law : (n : ℕ) (es : History) → Lawful n es t → Lawful n (more es (event (holds t) call)) u

no_no : (d : Option ℕ) → ◌≡◌ {A = Result (Unit {0}) ℕ} (Ok tt) (answered d tt) → d ≡ None
no_no None e = refl
no_no (Some n) e = let z : ◌≡◌ {A = ℕ} 0 1 = cc in absurd (omega arith)

a_no : (d : Option ℕ) (n : ℕ) → ◌≡◌ {A = Result (Unit {0}) ℕ} (Err n) (answered d tt) → d ≡ Some n
a_no None n e = let z : ◌≡◌ {A = ℕ} 0 1 = cc in absurd (omega arith)
a_no (Some m) n e = cc

module _ (s : Sheet) (roll : List ℕ) (t u : Sheet) (p : Placed) (m : Meaning) (under : Underway s roll t (followed p m)) (c : Called t u p.said.call) where
  abbrev call : Call
  call = p.said.call

  abbrev stopped : ℕ → Outcome
  stopped n = record { held = holds t; fault = Some (refused n p.turn p.place) }

  -- the call is made, and the roll goes on
  pub continues : ◌≡◌ {A = Result (Unit {0}) ℕ} (Ok tt) (answered (decision (holds t) call 0) tt) → Underway s roll u m
  unfolding playing logged
  continues e =
      let d = no_no (decision (holds t) call 0) e in
      let h : holds u ≡ changed (holds t) call = c.held ∙ ap (λ (o : Option ℕ). after o (changed (holds t) call) (holds t)) d in
      record {
        plays = under.plays ∙ ap (λ (o : Option ℕ). by_no o stopped (playing (changed (holds t) call) m.records m.fault)) d ∙ ap (λ (x : Held). playing x m.records m.fault) (sym h);
        saved = c.saved ∙ under.saved;
        law = λ n es was.
            let w = under.law n es was in
            let now = more w.0 (event (holds t) call) in (
              now,
              c.law n w.0 w.1,
              w.2 ∙ ap (λ (o : Option ℕ). by_no o (λ _. now) (logged (changed (holds t) call) m.records now)) d ∙ ap (λ (x : Held). logged x m.records now) (sym h),
            );
      }

  -- the call is refused, and the roll stops
  stops : (n : ℕ) → ◌≡◌ {A = Result (Unit {0}) ℕ} (Err n) (answered (decision (holds t) call 0) tt) → Ended s roll u (Some (refused n p.turn p.place))
  unfolding playing logged
  stops n e =
      let d = a_no (decision (holds t) call 0) n e in
      let h : holds u ≡ holds t = c.held ∙ ap (λ (o : Option ℕ). after o (changed (holds t) call) (holds t)) d in
      let plays : played (holds s) roll ≡ stopped n = under.plays ∙ ap (λ (o : Option ℕ). by_no o stopped (playing (changed (holds t) call) m.records m.fault)) d in
      record {
        fault = ap (λ (o : Outcome). o.fault) plays;
        held = h ∙ sym (ap (λ (o : Outcome). o.held) plays);
        saved = c.saved ∙ under.saved;
        law = λ k es was.
            let w = under.law k es was in
            let now = more w.0 (event (holds t) call) in
            let same = w.2 ∙ ap (λ (o : Option ℕ). by_no o (λ _. now) (logged (changed (holds t) call) m.records now)) d in
            subst (λ (x : History). Lawful k x u) (sym same) (c.law k w.0 w.1);
      }

  -- the refusal r is told as the fault f
  pub refuses : (r : Result (Unit {0}) Refusal) (told : Result (Unit {0}) Fault) (f : Fault) → by_number r ≡ answered (decision (holds t) call 0) tt → MatchResult r (λ x. told ≡ Ok x) (λ q. IsErrAnd told (λ g. named g ≡ refused (number_of q) p.turn p.place)) → told ≡ Err f → Ended s roll u (Some (named f))
  refuses (Ok x) told f e h is = absurd cc
  refuses (Err q) told f e h is =
      let n : named f ≡ refused (number_of q) p.turn p.place = subst (λ (x : Result (Unit {0}) Fault). IsErrAnd x (λ g. named g ≡ refused (number_of q) p.turn p.place)) is h in
      subst (λ (x : Named). Ended s roll u (Some x)) (sym n) (stops (number_of q) e)
