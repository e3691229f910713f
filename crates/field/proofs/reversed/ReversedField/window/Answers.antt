use Rattle.std.proofs.Common.{sym, ap, ◌∙◌, subst, arith}
use Rattle.std.proofs.lemmas.Int.{ints}
use Rattle.field.specs.Windows.{Window, Told}
use Rattle.field.proofs.Same.{same_window}
use Rattle.field.specs.Reversed.{turned, turned_at}
use Rattle.field.proofs.reversed.ReversedField.window.Goals as goal

-- a time that is told is negated with no overflow
pub returns : goal.returns
returns g c =
    let e = c.window-early.ensures in
    let t = subst (λ (w : Window). Told w.early × Told w.late) (sym e) (g.F.Field.bounded c.args.self.now.0 c.args.place) in
    same_window _ (turned c.window-early.result) (omega (arith, ints)) (omega (arith, ints))
    ∙ ap turned e
    ∙ sym (turned_at (g.F.Field.windows c.args.self.now.0) c.args.place)
