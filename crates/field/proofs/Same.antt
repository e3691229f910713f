-- Windows with the same ends.
use Rattle.std.proofs.Common.{◌≡◌, ap, ◌∙◌}
use Rattle.field.specs.Windows.{Window, window}

pub same_window : (v w : Window) → v.early ≡ w.early → v.late ≡ w.late → v ≡ w
same_window v w e l = ap (λ z. window z v.late) e ∙ ap (window w.early) l
