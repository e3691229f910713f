use Rattle.std.proofs.Common.{◌<◌, List, map, length, reverse, get_or, pos, sym, ap, ◌∙◌, subst, w64, to_z, of_z, arith, rules}
use lib.Signed.{le_z}
use Rattle.std.proofs.lemmas.Int.{ints, to_z-of_z}
use Rattle.field.specs.Windows.{outside}
use Rattle.field.specs.declared.window.Window.{Window}
use Rattle.theory.specs.Orders.{window_at}
use Rattle.theory.specs.Closed.{greatest_outside}
use Rattle.reckoning.specs.Values.{Kept, paired, moved}
use Rattle.reckoning.proofs.Plain.{real}
use Rattle.reckoning.proofs.StepsBack.{changed_more, changed_whole, moved_back, not_moved, step_real, length_paired, paired_set, paired_same, near_at, valued}
use Rattle.reckoning.proofs.values.move_back.Goals as goal
use Rattle.reckoning.proofs.values.move_back.Goals.{then-late-window, else-late-window}

pub overflow_sub-values : goal.overflow_sub-values
overflow_sub-values c =
    let t = c.args.taken.now in
    let h = subst (λ z. c.loop-at.at < length z) c.windows-window-items.ensures.windows c.loop-at-test.true in
    let near = near_at (moved t.pace (reverse c.args.closed.now.spans.items) (to_z w64 (of_z w64 c.args.late))) t.windows.items c.args.values.now c.loop-at.values c.loop-at.at c.requires.room c.loop-at.auto.values h c.loop-at.invariant c.requires.near in
    search (rules, ints)

pub loop-at-preserved : goal.loop-at-preserved
loop-at-preserved c =
    let p = c.args.taken.now.pace in
    let f = reverse c.args.closed.now.spans.items in
    let late = to_z w64 (of_z w64 c.args.late) in
    let ws = c.args.taken.now.windows.items in
    let os = c.args.values.now in
    let vs = c.loop-at.values in
    let xs = paired ws os in
    let i = c.loop-at.at in
    let d : Kept = valued (pos 0) (pos 0) in
    let windows = c.windows-window-items.ensures.windows in
    let h = subst (λ z. i < length z) windows c.loop-at-test.true in
    let l = subst (λ n. i < n) (sym (length_paired ws os c.requires.room)) h in
    let v = get_or vs i (pos 0) in
    let k = valued (window_at ws i).late v in
    let inv = c.loop-at.invariant in
    let same = paired_same (moved p f late) ws os vs i c.requires.room c.loop-at.auto.values h inv in
    let near = near_at (moved p f late) ws os vs i c.requires.room c.loop-at.auto.values h inv c.requires.near in
    let win = get_or c.windows-window-items.result.now i outside in
    let real_late = ap (le_z late) (to_z-of_z w64 win.late (search rules) ∙ ap (λ (z : List Window). (get_or z i outside).late) windows) in
    paired_set ws vs i _
    ∙ elim c.if-late-window.branch [
      | then-late-window w ↦
          changed_more (moved p f late) xs (paired ws vs) i d _ l inv
          (moved_back p f late k (get_or xs i d) _ same (sym real_late ∙ w.if-late-window.true)
          (w.values-is ∙ real w.greatest_outside.result w.greatest_outside.type_inv ∙ w.greatest_outside.ensures
          ∙ ap (greatest_outside f) (step_real v c.pace-pace.result p near c.pace-pace.ensures.paced c.pace-pace.ensures.pace)))
      | else-late-window w ↦
          changed_more (moved p f late) xs (paired ws vs) i d _ l inv (not_moved p f late k (get_or xs i d) _ same (sym real_late ∙ w.if-late-window.false) (w.values-is ∙ to_z-of_z w64 v (search rules)))
    ]

pub returns : goal.returns
returns c =
    let t = c.args.taken.now in
    let f = reverse c.args.closed.now.spans.items in
    let ws = t.windows.items in
    let xs = paired ws c.args.values.now in
    let l = length_paired ws c.args.values.now c.requires.room in
    let windows = ap length c.windows-window-items.ensures.windows in
    changed_whole (moved t.pace f (to_z w64 (of_z w64 c.args.late))) xs (paired ws c.loop-at.values) c.loop-at.at (omega (arith, l, windows)) c.loop-at.invariant
    ∙ ap (λ z. map (moved t.pace f z) xs) (to_z-of_z w64 c.args.late c.ranges.late)
