-- Range asked of any field.
use Rattle.std.proofs.Common.{◌≡◌, ℕ, List, Ok, Err, Result, sym, refl, ap, ◌∙◌, subst, inl, inr}
use Rattle.field.specs.declared.refusal.Refusal.{Refusal}
use Rattle.field.specs.declared.window.Window.{Window}
use Rattle.field.specs.Refusals.{by_number}
use Rattle.reckoning.specs.declared.ends.Range.{Range}
use Rattle.reckoning.specs.Range.{RangeTold}
use Rattle.sheet.specs.Answers.{Said, range, refusal, said_by}
use Rattle.sheet.specs.Law.{FieldTold}
use Rattle.sheet.proofs.Settling.{none_some, same_some}

told_by : (ws : List Window) (p i : ℕ) (r : Result Range Refusal) → RangeTold p ws i r → FieldTold ws p i (said_by range (by_number r))
told_by ws p i (Ok x) h = record {
  told = λ _ _. (x, refl, h.1);
  failed = λ n e. none_some (sym h.0 ∙ e);
  thirteen = λ _ lacks. absurd (lacks (h.1.0.0.0, h.1.0.0.1));
}
told_by ws p i (Err q) (inl e) = record {
  told = λ f _. none_some (sym f ∙ e);
  failed = λ n f. ap refusal (same_some (sym e ∙ f));
  thirteen = λ f _. none_some (sym f ∙ e);
}
told_by ws p i (Err q) (inr h) = record {
  told = λ _ o. absurd (h.2 o);
  failed = λ n f. none_some (sym h.0 ∙ f);
  thirteen = λ _ _. ap refusal h.1;
}

pub field_told : (ws : List Window) (p i : ℕ) (r : Result Range Refusal) (a : Said) → RangeTold p ws i r → a ≡ said_by range (by_number r) → FieldTold ws p i a
field_told ws p i r a h e = subst (FieldTold ws p i) (sym e) (told_by ws p i r h)
