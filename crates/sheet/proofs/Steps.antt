-- From what each call promises to one step of the law.
use Rattle.std.proofs.Common.{◌≡◌, ℕ, List, Some, None, Ok, Err, Option, Result, unwrap_or, sym, refl, ap, ◌∙◌, subst}
use Rattle.field.specs.declared.refusal.Refusal.{Refusal}
use Rattle.field.specs.Refusals.{by_number}
use Rattle.theory.specs.declared.span.Span.{Span}
use Rattle.reckoning.specs.declared.ends.Range.{Range}
use Rattle.reckoning.specs.declared.start.Start.{Start}
use Rattle.reckoning.specs.Lists.{answer, leaves}
use Rattle.sheet.specs.declared.sheet.Sheet.{Sheet}
use Rattle.sheet.specs.declared.sheet.trial.Slip.{Slip}
use Rattle.sheet.specs.Content.{spans_of}
use Rattle.sheet.specs.Calls.{Call, Open, Keep, Back, RangeOf, Spans, change_made}
use Rattle.sheet.specs.Questions.{after, answered, verdict}
use Rattle.sheet.specs.Trials.{kind, decision}
use Rattle.sheet.specs.Ranges.{GroupTold}
use Rattle.sheet.specs.Sheets.{content, at_open, holds, SameTrial}
use Rattle.sheet.specs.Answers.{Said, done, slip, count, range, refusal, refused, said_by, said_back, ended}
use Rattle.sheet.specs.Book.{Lists, room, FillsStarts, Told}
use Rattle.sheet.specs.Law.{GoesOn}
use Rattle.sheet.specs.OneCall.{moved, remembered, Outcome, ComesTo}
use Rattle.sheet.specs.Promises.{Makes}
use Rattle.sheet.proofs.Plain.{Plain}
use Rattle.sheet.proofs.Extending.{goes_on}

-- one call by itself, and as one call more
pub record Both (s : Sheet) (call : Call) (given : Lists) (a : Said) (left : Lists) (t : Sheet) : Type 0 where
  pub step : ComesTo s call given a left t
  pub law : GoesOn s call given a left t

-- the call asked for is the call made
by_outcome : (s t : Sheet) (asked call : Call) (given left : Lists) (a : Said) → asked ≡ call → t.number ≡ s.number → Outcome (decision (holds s) call (room call given)) s call given a left t → Both s asked given a left t
by_outcome s t asked call given left a e n o =
    let st : ComesTo s call given a left t = record { number = n; outcome = o } in
    subst (λ (x : Call). Both s x given a left t) (sym e) (record { step = st; law = goes_on s call given a left t st })

-- ---- the calls that change

module _ (s t : Sheet) (call : Call) (plain : Plain call) (given : Lists) (a : Said) where
  done_outcome : (v : Option ℕ) → a ≡ said_by (λ (_ : Unit {0}). done) (answered v tt) → content t ≡ after v (change_made call (content s)) (content s) → at_open t ≡ at_open s → Outcome v s call given a given t
  done_outcome (Some n) e c w = (e ∙ sym (plain.alone n), refl, c, w)
  done_outcome None e c w = (plain.tells (holds s) given a given (e, refl), c ∙ sym (plain.moves (content s) (at_open s)), w ∙ sym (plain.stays (content s) (at_open s)))

  pub change_goes_on : (asked : Call) → asked ≡ call → a ≡ said_by (λ (_ : Unit {0}). done) (answered (decision (holds s) call 0) tt) → content t ≡ after (decision (holds s) call 0) (change_made call (content s)) (content s) → SameTrial s t → Both s asked given a given t
  change_goes_on asked i e c w =
      by_outcome s t asked call given given a i w.number (subst (λ (n : ℕ). Outcome (decision (holds s) call n) s call given a given t) (sym (plain.lists given)) (done_outcome (decision (holds s) call 0) e c w.saved))

  -- with other lists handed in
  pub makes_goes_on : (asked : Call) (r : Result (Unit {0}) Refusal) → asked ≡ call → a ≡ said_by (λ (_ : Unit {0}). done) (by_number r) → Makes call s r t → Both s asked given a given t
  makes_goes_on asked r i e m = change_goes_on asked i (e ∙ ap (said_by (λ (_ : Unit {0}). done)) m.answer) m.held m.trial

-- ---- the trial

module _ (s t : Sheet) (given : Lists) (a : Said) where
  open-outcome : (v : Option ℕ) → a ≡ said_by (λ (x : Slip). slip x.sheet) (answered v (record { sheet = s.number })) → content t ≡ content s → at_open t ≡ after v (Some (content s)) (at_open s) → Outcome v s Open given a given t
  open-outcome (Some n) e c w = (e, refl, c, w)
  open-outcome None e c w = ((e, refl), c, w)

  pub open_goes_on : (asked : Call) → asked ≡ Open → a ≡ said_by (λ (x : Slip). slip x.sheet) (answered (decision (holds s) Open 0) (record { sheet = s.number })) → content t ≡ content s → at_open t ≡ after (decision (holds s) Open 0) (Some (content s)) (at_open s) → t.number ≡ s.number → Both s asked given a given t
  open_goes_on asked i e c w n = by_outcome s t asked Open given given a i n (open-outcome (decision (holds s) Open 0) e c w)

  keep_outcome : (p : Slip) (v : Option ℕ) → a ≡ said_back (ended v p) → content t ≡ content s → at_open t ≡ after v None (at_open s) → Outcome v s (Keep p) given a given t
  keep_outcome p (Some n) e c w = (e, refl, c, w)
  keep_outcome p None e c w = ((e, refl), c, w)

  pub keep_goes_on : (asked : Call) (p : Slip) → asked ≡ Keep p → a ≡ said_back (ended (decision (holds s) (Keep p) 0) p) → content t ≡ content s → at_open t ≡ after (decision (holds s) (Keep p) 0) None (at_open s) → t.number ≡ s.number → Both s asked given a given t
  keep_goes_on asked p i e c w n = by_outcome s t asked (Keep p) given given a i n (keep_outcome p (decision (holds s) (Keep p) 0) e c w)

  back_outcome : (p : Slip) (v : Option ℕ) → a ≡ said_back (ended v p) → content t ≡ after v (unwrap_or (at_open s) (content s)) (content s) → at_open t ≡ after v None (at_open s) → Outcome v s (Back p) given a given t
  back_outcome p (Some n) e c w = (e, refl, c, w)
  back_outcome p None e c w = ((e, refl), c, w)

  pub back_goes_on : (asked : Call) (p : Slip) → asked ≡ Back p → a ≡ said_back (ended (decision (holds s) (Back p) 0) p) → content t ≡ after (decision (holds s) (Back p) 0) (unwrap_or (at_open s) (content s)) (content s) → at_open t ≡ after (decision (holds s) (Back p) 0) None (at_open s) → t.number ≡ s.number → Both s asked given a given t
  back_goes_on asked p i e c w n = by_outcome s t asked (Back p) given given a i n (back_outcome p (decision (holds s) (Back p) 0) e c w)

-- ---- the calls that tell: the sheet is lent

abbrev with_starts : Lists → List Start → Lists
with_starts given xs = record { starts = xs; spans = given.spans }

abbrev with_spans : Lists → List Span → Lists
with_spans given xs = record { starts = given.starts; spans = xs }

module _ (s : Sheet) (call : Call) (xs : List Start) (given : Lists) (a : Said) (left : List Start) (alone : (n : ℕ) → refused (kind call) n ≡ refusal n) (told : (b : Said) (ls : Lists) → FillsStarts xs given b ls → Told (holds s) call given b ls) (moves : moved (kind call) call (content s) (at_open s) ≡ content s) (stays : remembered (kind call) (content s) (at_open s) ≡ at_open s) where
  starts_outcome : (v : Option ℕ) → a ≡ said_by count (answer (answered v xs)) → left ≡ leaves (answered v xs) given.starts → Outcome v s call given a (with_starts given left) s
  starts_outcome (Some n) e l = (e ∙ sym (alone n), ap (with_starts given) l, refl, refl)
  starts_outcome None e l = (told a (with_starts given left) (e, ap (with_starts given) l), sym moves, sym stays)

  pub starts_go_on : (asked : Call) → asked ≡ call → a ≡ said_by count (answer (answered (decision (holds s) call (room call given)) xs)) → left ≡ leaves (answered (decision (holds s) call (room call given)) xs) given.starts → Both s asked given a (with_starts given left) s
  starts_go_on asked i e l = by_outcome s s asked call given (with_starts given left) a i refl (starts_outcome (decision (holds s) call (room call given)) e l)

module _ (s : Sheet) (given : Lists) (a : Said) where
  spans_outcome : (left : List Span) (v : Option ℕ) → a ≡ said_by count (answer (answered v (spans_of (content s)))) → left ≡ leaves (answered v (spans_of (content s))) given.spans → Outcome v s Spans given a (with_spans given left) s
  spans_outcome left (Some n) e l = (e, ap (with_spans given) l, refl, refl)
  spans_outcome left None e l = ((e, ap (with_spans given) l), refl, refl)

  pub spans_go_on : (asked : Call) (left : List Span) → asked ≡ Spans → a ≡ said_by count (answer (answered (decision (holds s) Spans (room Spans given)) (spans_of (content s)))) → left ≡ leaves (answered (decision (holds s) Spans (room Spans given)) (spans_of (content s))) given.spans → Both s asked given a (with_spans given left) s
  spans_go_on asked left i e l = by_outcome s s asked Spans given (with_spans given left) a i refl (spans_outcome left (decision (holds s) Spans (room Spans given)) e l)

  range_outcome : (g : ℕ) (r : Result Range Refusal) → GroupTold (content s) g r → a ≡ said_by range (by_number r) → Outcome (verdict (content s) (RangeOf g) 0) s (RangeOf g) given a given s
  range_outcome g (Ok x) h e = subst (λ (v : Option ℕ). Outcome v s (RangeOf g) given a given s) (sym h.0) ((x, e, h.1, refl), refl, refl)
  range_outcome g (Err q) h e = subst (λ (v : Option ℕ). Outcome v s (RangeOf g) given a given s) (sym h) (e, refl, refl, refl)

  pub range_goes_on : (asked : Call) (g : ℕ) (r : Result Range Refusal) → asked ≡ RangeOf g → GroupTold (content s) g r → a ≡ said_by range (by_number r) → Both s asked given a given s
  range_goes_on asked g r i h e = by_outcome s s asked (RangeOf g) given given a i refl (range_outcome g r h e)
