-- One call more keeps the law.
use Rattle.std.proofs.Common.{◌≡◌, ℕ, Bool, true, false, cond, List, Some, None, Option, sym, refl, ap, ◌∙◌, subst}
use Rattle.std.proofs.lemmas.Bool.{cond-true}
use Rattle.reckoning.specs.declared.ends.Range.{Range}
use Rattle.sheet.specs.declared.sheet.Sheet.{Sheet}
use Rattle.sheet.specs.Content.{Content, on}
use Rattle.sheet.specs.Calls.{Call, Enter, Change, Withdraw, Pace, CallUp, StandDown, SendAway, Open, Keep, Back, Order, Through, RangeOf, Spans}
use Rattle.sheet.specs.Questions.{questions}
use Rattle.sheet.specs.Trials.{Held, Kind, joins, departs, opens, keeps, backs, tells, kind, decision}
use Rattle.sheet.specs.Ranges.{GroupBounds}
use Rattle.sheet.specs.Sheets.{content, content_of, at_open, holds}
use Rattle.sheet.specs.Answers.{Said, range, refused, got}
use Rattle.sheet.specs.Book.{made, taken_back, marked, held, Lists, room, Passes, FirstNo, Told, Event, History, more, refusal, entry}
use Rattle.sheet.specs.OneCall.{remembered, Outcome, ComesTo}
use Rattle.sheet.specs.Law.{ThirteenRightly, RangeRightly, BackTo, Lawful, GoesOn}
use Rattle.sheet.proofs.Playing.{plays}
use Rattle.sheet.proofs.Striking.{trials_of, Matches, TrialsFit, taken}
use Rattle.sheet.proofs.Settling.{Settles, settled, thirteen_only, thirteen_always, trials_fit, none_some}

-- ---- the answer gives the number that was decided

got_refused : (k : Kind) (n : ℕ) → got (refused k n) ≡ Some n
got_refused joins n = refl
got_refused departs n = refl
got_refused opens n = refl
got_refused (keeps s) n = refl
got_refused (backs s) n = refl
got_refused tells n = refl

got_told : (h : Held) (call : Call) (given : Lists) (a : Said) (left : Lists) → Told h call given a left → got a ≡ None
got_told h (Enter g e l) given a left t = ap got t.0
got_told h (Change g e l) given a left t = ap got t.0
got_told h (Withdraw g) given a left t = ap got t.0
got_told h (Pace p) given a left t = ap got t.0
got_told h (CallUp g u) given a left t = ap got t.0
got_told h (StandDown g) given a left t = ap got t.0
got_told h (SendAway g) given a left t = ap got t.0
got_told h Open given a left t = ap got t.0
got_told h (Keep s) given a left t = ap got t.0
got_told h (Back s) given a left t = ap got t.0
got_told h Order given a left t = ap got t.0
got_told h (Through g u) given a left t = ap got t.0
got_told h (RangeOf g) given a left t = ap got t.1
got_told h Spans given a left t = ap got t.0

-- ---- sheet and column

pub trials_open : (b : Bool) (c : Content) → trials_of (cond b (Some c) None) ≡ cond b 1 0
trials_open true c = refl
trials_open false c = refl

same_held : (n m : ℕ) (c d : Content) (i j : ℕ) → n ≡ m → c ≡ d → i ≡ j → ◌≡◌ {A = Held} (record { sheet = n; content = c; trials = i }) (record { sheet = m; content = d; trials = j })
same_held n m c d i j p q r = λ k. record { sheet = p k; content = q k; trials = r k }

matches : (n : ℕ) (s : Sheet) (col : List Call) → holds s ≡ held n col → BackTo (at_open s) (made (taken_back col)) → Matches (content s) (at_open s) col
matches n s col h b = record {
  content = ap (λ (x : Held). x.content) h;
  trials = trials_open s.trial (content_of s.saved) ∙ ap (λ (x : Held). x.trials) h;
  back = b;
}

now_holds : (n : ℕ) (t : Sheet) (col : List Call) → t.number ≡ n → Matches (content t) (at_open t) col → holds t ≡ held n col
now_holds n t col e m = same_held _ _ _ _ _ _ e m.content (sym (trials_open t.trial (content_of t.saved)) ∙ m.trials)

-- ---- one call more

module _ (s : Sheet) (call : Call) (given : Lists) (a : Said) (left : Lists) (t : Sheet) where
  abbrev event : Event
  event = record { met = holds s; call = call; given = given; answer = a; left = left }

  got_outcome : (v : Option ℕ) → Outcome v s call given a left t → got a ≡ v
  got_outcome None o = got_told (holds s) call given a left o.0
  got_outcome (Some n) o = ap got o.0 ∙ got_refused (kind call) n

  thirteen : (v : Option ℕ) → Settles (holds s) call given v → Outcome v s call given a left t → ThirteenRightly event
  thirteen v w o has =
      let e = got_outcome v o in (
        (λ h. thirteen_only (holds s) call given v w (sym e ∙ h)),
        (λ none lacks. e ∙ thirteen_always (holds s) call given v w has none lacks),
      )

  module _ (n : ℕ) (es : History) (law : Lawful n es s) (st : t.number ≡ s.number) (range_told : RangeRightly event) where
    grown : (v : Option ℕ) → decision (holds s) call (room call given) ≡ v → Settles (holds s) call given v → Outcome v s call given a left t → Lawful n (more es event) t
    grown (Some k) d w o =
        let was = matches n s law.column law.holding law.back in
        let m : Matches (content t) (at_open t) law.column = subst (λ (x : Option Content). Matches (content t) x law.column) (sym o.3) (subst (λ (c : Content). Matches c (at_open s) law.column) (sym o.2) was) in
        record {
          column = law.column;
          book = refusal law.book (record { number = k; first = subst (λ (h : Held). FirstNo h call given k) law.holding w; says = o.0; lists = o.1 });
          holding = now_holds n t law.column (st ∙ ap (λ (x : Held). x.sheet) law.holding) m;
          met = (law.met, (law.column, law.book, law.holding));
          back = m.back;
          playable = plays (content t) t.holding.keeps.steady t.holding.keeps.possible;
          thirteen = (law.thirteen, thirteen (Some k) w o);
          range = (law.range, range_told);
        }
    grown None d w o =
        let was = matches n s law.column law.holding law.back in
        let fit = subst (λ (h : Held). TrialsFit (kind call) h.trials) law.holding (trials_fit (holds s) (kind call) (questions (content s) call (room call given)) d) in
        let next = marked (kind call) call law.column in
        let on = taken call (content s) (at_open s) law.column was (kind call) refl fit in
        let m : Matches (content t) (at_open t) next = subst (λ (x : Option Content). Matches (content t) x next) (sym o.2) (subst (λ (c : Content). Matches c (remembered (kind call) (content s) (at_open s)) next) (sym o.1) on) in
        record {
          column = next;
          book = entry law.book (record { passes = subst (λ (h : Held). Passes h call given) law.holding w; tells = subst (λ (h : Held). Told h call given a left) law.holding o.0 });
          holding = now_holds n t next (st ∙ ap (λ (x : Held). x.sheet) law.holding) m;
          met = (law.met, (law.column, law.book, law.holding));
          back = m.back;
          playable = plays (content t) t.holding.keeps.steady t.holding.keeps.possible;
          thirteen = (law.thirteen, thirteen None w o);
          range = (law.range, range_told);
        }

-- range told the truth

ranged_by : (v : Option ℕ) (s : Sheet) (g : ℕ) (given : Lists) (a : Said) (left : Lists) (t : Sheet) → v ≡ None → Outcome v s (RangeOf g) given a left t → (r : Range) × (a ≡ range r) × GroupBounds (content s) g r
ranged_by None s g given a left t e o = (o.0.0, o.0.1, o.0.2)
ranged_by (Some n) s g given a left t e o = none_some (sym e)

range_told : (s : Sheet) (call : Call) (given : Lists) (a : Said) (left : Lists) (t : Sheet) → ComesTo s call given a left t → RangeRightly (event s call given a left t)
range_told s call given a left t st g e on-it =
    ranged_by (decision (holds s) (RangeOf g) 0) s g given a left t (cond-true (on g (content s).rows) None (Some 8) on-it) (subst (λ (c : Call). Outcome (decision (holds s) c (room c given)) s c given a left t) e st.outcome)

pub goes_on : (s : Sheet) (call : Call) (given : Lists) (a : Said) (left : Lists) (t : Sheet) → ComesTo s call given a left t → GoesOn s call given a left t
goes_on s call given a left t st n es law =
    grown s call given a left t n es law st.number (range_told s call given a left t st) (decision (holds s) call (room call given)) refl (settled (holds s) call given s.holding.keeps.steady) st.outcome
