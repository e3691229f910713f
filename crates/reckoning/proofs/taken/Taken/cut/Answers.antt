use Rattle.std.proofs.Common.{◌<◌, length, get_or, ap, ◌∙◌, w64, to_z, of_z, rules, subst}
use Rattle.std.proofs.lemmas.Int.{to_z-of_z}
use Rattle.field.specs.Windows.{window, outside}
use Rattle.field.specs.declared.window.Window.{Window}
use Rattle.reckoning.proofs.Bisecting.{cut_here, cut_other, cut_more}
use Rattle.reckoning.proofs.taken.Taken.cut.Goals as goal
use Rattle.reckoning.proofs.taken.Taken.cut.Goals.{then-at-place, else-at-place}

pub loop-at-preserved : goal.loop-at-preserved
loop-at-preserved c =
    let ws = c.args.self.now.windows.items in
    let at = c.loop-at.at in
    let late = to_z w64 (of_z w64 c.args.late) in
    let q = ap (λ z. get_or z at outside) c.deref-window-items.ensures.0 in
    let l = subst (λ z. at < length z) c.deref-window-items.ensures.0 c.loop-at-test.true in
    cut_more ws _ _ c.args.place at _ _ l c.loop-at.invariant c.push.ensures.items
    (elim c.if-at-place.branch [
      | then-at-place w ↦
          w.push-is
          ∙ ap (λ (z : Window). window (to_z w64 (of_z w64 z.early)) late) q
          ∙ ap (λ e. window e late) (to_z-of_z w64 (get_or ws at outside).early (search rules))
          ∙ cut_here ws c.args.place at late (subst (λ k. k < length ws) w.if-at-place.true l) w.if-at-place.true
      | else-at-place w ↦ w.push-is ∙ q ∙ cut_other ws c.args.place at late w.if-at-place.false
    ])
