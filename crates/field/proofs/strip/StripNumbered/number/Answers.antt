use Rattle.std.proofs.Common.{sym, refl, ◌∙◌}
use Rattle.field.proofs.Records.{number_read, number_past, within_records}
use Rattle.field.proofs.strip.StripNumbered.number.Goals as goal

pub returns-then-place-self : goal.returns-then-place-self
returns-then-place-self c =
    record {
      value = c.from_be_bytes.ensures ∙ sym (number_read _ _ c.if-place-self.true);
      outside = λ h. within_records _ _ c.if-place-self.true h;
    }

pub returns-else-place-self : goal.returns-else-place-self
returns-else-place-self c = record { value = sym (number_past _ _ c.if-place-self.false); outside = λ _. refl }
