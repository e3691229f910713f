use Rattle.std.proofs.Common.{Ok, Err}
use Rattle.field.specs.Refusals.{number_of}
use Rattle.roll.proofs.Making.{made, one_more, same_answer}
use Rattle.roll.proofs.playing.make.Goals as goal

pub returns-in-Ok-Done : goal.returns-in-Ok-Done
returns-in-Ok-Done c =
    let s = c.args.sheet.now in
    let t = c.perform.new.self in
    let e = rw c.in-Ok-Done.field-0-is at c.in-Ok-Done.ensures in
    let m = made s t c.args.record.now c.from.result _ _ c.from.ensures e.step in
    record { answer = same_answer (Ok tt) _ m.answer; held = m.held; saved = m.saved; law = one_more s t c.args.record.now c.from.result _ _ c.from.ensures e.step e.law }

pub returns-in-Err-Alone : goal.returns-in-Err-Alone
returns-in-Err-Alone c =
    let s = c.args.sheet.now in
    let t = c.perform.new.self in
    let e = rw c.in-Err-Alone.field-0-is at c.in-Err-Alone.ensures in
    let m = made s t c.args.record.now c.from.result _ _ c.from.ensures e.step in
    record { answer = same_answer (Err (number_of c.in-Err-Alone.refusal)) _ m.answer; held = m.held; saved = m.saved; law = one_more s t c.args.record.now c.from.result _ _ c.from.ensures e.step e.law }
