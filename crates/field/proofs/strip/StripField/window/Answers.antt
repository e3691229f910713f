use Rattle.std.proofs.Common.{sym, ◌∙◌, arith}
use Rattle.std.proofs.lemmas.Int.{ints}
use Rattle.field.specs.Strip.{record_at}
use Rattle.field.proofs.Same.{same_window}
use Rattle.field.proofs.Records.{record_read, record_past}
use Rattle.field.proofs.strip.StripField.window.Goals as goal

pub returns-then-place-self : goal.returns-then-place-self
returns-then-place-self c =
    c.new.ensures ∙ same_window _ (record_at c.args.self.now.bytes.now c.args.place) (omega (arith, ints)) (omega (arith, ints)) ∙ sym (record_read _ _ c.if-place-self.true)

pub returns-else-place-self : goal.returns-else-place-self
returns-else-place-self c = c.outside.ensures ∙ sym (record_past _ _ c.if-place-self.false)
