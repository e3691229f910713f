use Rattle.std.proofs.Common.{◌≡◌, MatchResult, None, Ok, Err, IsErrAnd, sym, ap, ◌∙◌, rules}
use Rattle.field.specs.Refusals.{by_number, number_of}
use Rattle.roll.specs.Faults.{by_name, named, refused}
use Rattle.roll.specs.Meaning.{left, over, placed}
use Rattle.roll.specs.Playing.{unless}
use Rattle.roll.proofs.Underway.{goes_on, finishes, at_fault, at_record, continues, refuses}
use Rattle.roll.proofs.playing.play.Goals as goal

pub returns-in_err-record : goal.returns-in_err-record
returns-in_err-record c =
    let f = c.in_err-record.field-0.0 in
    let is : c.in-Some.entry ≡ Err f = search rules in
    let out : c.from_residual.result ≡ Err f = search rules in
    let e = at_fault c.args.sheet.now c.args.roll.now c.loop-entry.sheet (left c.loop-entry.entry-iterator) (left c.next.new.self) c.in-Some.entry c.loop-entry.invariant.2 c.in-Some.ensures.steps.told f is in
    record { answer = ap by_name out ∙ sym (ap unless e.fault); held = e.held; saved = e.saved; law = e.law }

pub returns-in_err-map_err : goal.returns-in_err-map_err
returns-in_err-map_err c =
    let s = c.args.sheet.now in
    let t = c.loop-entry.sheet in
    let roll = c.args.roll.now in
    let rest = left c.next.new.self in
    let p = c.in_ok-record.field-0 in
    let f = c.in_err-map_err.field-0.0 in
    let is : c.in-Some.entry ≡ Ok p = search rules in
    let under = at_record s roll t (left c.loop-entry.entry-iterator) rest c.in-Some.entry c.loop-entry.invariant.2 c.in-Some.ensures.steps.told p is in
    let m = c.make.ensures in
    let cases : MatchResult c.make.result (λ x. c.map_err.result ≡ Ok x) (λ q. IsErrAnd c.map_err.result (λ f. named f ≡ refused (number_of q) p.at.turn p.at.place)) = search rules in
    let out : c.from_residual-in_err-map_err.result ≡ Err f = search rules in
    let e = refuses s roll t c.make.new.sheet (placed p) rest under (record { held = m.held; saved = m.saved; law = m.law }) c.make.result c.map_err.result f m.answer cases c.in_err-map_err.was in
    record { answer = ap by_name out ∙ sym (ap unless e.fault); held = e.held; saved = e.saved; law = e.law }

pub loop-entry-preserved : goal.loop-entry-preserved
loop-entry-preserved c =
    let s = c.args.sheet.now in
    let t = c.loop-entry.sheet in
    let roll = c.args.roll.now in
    let rest = left c.next.new.self in
    let p = c.in_ok-record.field-0 in
    let is : c.in-Some.entry ≡ Ok p = search rules in
    let under = at_record s roll t (left c.loop-entry.entry-iterator) rest c.in-Some.entry c.loop-entry.invariant.2 c.in-Some.ensures.steps.told p is in
    let m = c.make.ensures in
    let done : c.make.result ≡ Ok tt = search rules in
    (tt, tt, continues s roll t c.make.new.sheet (placed p) rest under (record { held = m.held; saved = m.saved; law = m.law }) (ap by_number (sym done) ∙ m.answer))

pub returns : goal.returns
returns c =
    let s = c.args.sheet.now in
    let t = c.loop-entry.sheet in
    let roll = c.args.roll.now in
    let e = finishes s roll t None (goes_on s roll t (left c.loop-entry.entry-iterator) (over None) c.in-None.ensures.steps.told c.loop-entry.invariant.2) in
    record { answer = sym (ap unless e.fault); held = e.held; saved = e.saved; law = e.law }
