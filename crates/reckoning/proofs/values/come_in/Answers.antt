use Rattle.std.proofs.Common.{◌<◌, ◌≤◌, map, get_or, length, reverse, sym, ap, ◌∙◌, subst, w64, to_z, of_z, arith, rules}
use Rattle.std.specs.List.{AllByRecursion}
use Rattle.field.specs.Windows.{outside}
use Rattle.field.specs.declared.window.Window.{Window}
use Rattle.theory.specs.Orders.{window_at}
use Rattle.std.proofs.lemmas.Int.{to_z-of_z}
use Rattle.reckoning.specs.Values.{Kept, Fit, Near, Timed, paired, moved, kept}
use Rattle.std.proofs.ByRecursion.{All-get_or}
use Rattle.reckoning.proofs.Plain.{real_time}
use Rattle.reckoning.proofs.Lookups.{all_reverse}
use Rattle.reckoning.proofs.StepsBack.{partly, partly_none, partly_all, partly_other, partly_here, partly_near}
use Rattle.reckoning.proofs.values.come_in.Goals as goal
use Rattle.reckoning.proofs.values.come_in.Goals.{then-window-early, else-window-early}

pub loop-window-init : goal.loop-window-init
loop-window-init c =
    c.requires.kept
    ∙ partly_none c.args.taken.now.pace c.args.taken.now.windows.items (reverse c.args.closed.now.spans.items) c.args.early
    ∙ ap (partly c.args.taken.now.pace c.args.taken.now.windows.items (reverse c.args.closed.now.spans.items) 0) (sym (to_z-of_z w64 c.args.early c.ranges.early))

pub move_back-requires-clause-near : goal.move_back-requires-clause-near
move_back-requires-clause-near c =
    let t = c.args.taken.now in
    subst (AllByRecursion (λ (k : Kept). Near k.value)) (sym c.loop-window.invariant)
    (partly_near t.pace t.windows.items (reverse c.args.closed.now.spans.items) c.loop-window.window-index _ t.paced (all_reverse Fit c.args.closed.now.spans.items c.args.closed.now.fit) t.timed (subst (λ z. length z ≤ 64) c.windows-window-items.ensures.windows c.windows-window-items.ensures.few))

pub loop-window-preserved : goal.loop-window-preserved
loop-window-preserved c =
    let t = c.args.taken.now in
    let ws = t.windows.items in
    let f = reverse c.args.closed.now.spans.items in
    let g = c.loop-window.window-index in
    let r = to_z w64 (of_z w64 c.args.early) in
    let win = get_or c.windows-window-items.result.now g outside in
    let q = ap (λ z. get_or z g outside) c.windows-window-items.ensures.windows in
    let early = ap (λ (w : Window). w.early) q in
    let real_early = to_z-of_z w64 win.early (search rules) in
    let l = subst (λ z. g < length z) c.windows-window-items.ensures.windows c.loop-window-test.true in
    let timed = All-get_or Timed ws g outside l t.timed in
    let late = ap (λ (w : Window). to_z w64 (of_z w64 w.late)) q ∙ real_time (window_at ws g).late timed.2 timed.3 in
    elim c.if-window-early.branch [
      | then-window-early w ↦
          ap (paired ws) w.values-is
          ∙ w.move_back.ensures
          ∙ ap (map (moved t.pace f (to_z w64 (of_z w64 win.late)))) c.loop-window.invariant
          ∙ ap (λ z. map (moved t.pace f z) (partly t.pace ws f g r)) late
          ∙ partly_here t.pace ws f g r l (sym early ∙ sym real_early ∙ ap (to_z w64) w.if-window-early.true)
      | else-window-early w ↦
          ap (paired ws) w.values-is
          ∙ c.loop-window.invariant
          ∙ partly_other t.pace ws f g r l (λ z. w.if-window-early.false (ap (of_z w64) (early ∙ z ∙ to_z-of_z w64 c.args.early c.ranges.early)))
    ]

pub returns : goal.returns
returns c =
    let t = c.args.taken.now in
    let q = ap length c.windows-window-items.ensures.windows in
    c.loop-window.invariant
    ∙ partly_all t.pace t.windows.items (reverse c.args.closed.now.spans.items) c.loop-window.window-index _ (omega (arith, q)) (omega (arith, q))
    ∙ ap (kept t.pace t.windows.items (reverse c.args.closed.now.spans.items)) (to_z-of_z w64 c.args.early c.ranges.early)
