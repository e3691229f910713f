use Rattle.std.proofs.Common.{◌≡◌, refl, get_or, pos, ◌+ℤ◌, sym, ap, ◌∙◌, inl, inr, arith, w64, to_z, of_z, rules}
use Rattle.std.proofs.lemmas.Int.{ints, to_z-of_z}
use Rattle.field.specs.declared.window.Window.{Window}
use Rattle.field.specs.Windows.{outside}
use Rattle.theory.proofs.Closed.{ltZ_false}
use Rattle.reckoning.proofs.Plain.{real}
use Rattle.reckoning.proofs.Bisecting.{closing_begin, closing_down, closing_up, closing_end, narrower}
use Rattle.reckoning.proofs.range.bisect.Goals as goal

pub loop-low-init : goal.loop-low-init
loop-low-init c =
    let t = c.args.taken.now in
    let w = get_or c.windows.result.now c.args.place outside in
    let q = ap (λ z. get_or z c.args.place outside) c.windows.ensures.windows in
    closing_begin t.pace t.windows.items c.args.place _ _ t.paced.0 c.requires.inside t.timed
    (to_z-of_z w64 w.early (search rules) ∙ ap (λ (w : Window). w.early) q)
    (to_z-of_z w64 w.late (search rules) ∙ ap (λ (w : Window). w.late) q)
    c.requires.upright c.requires.possible

pub loop-low-smaller-then-is_possible : goal.loop-low-smaller-then-is_possible
loop-low-smaller-then-is_possible c =
    let m = real c.middle-mid.result c.middle-mid.type_inv in
    let e = c.middle-mid.ensures in
    narrower _ _ _ _ (omega (arith, ints)) (omega (arith, ints, m, e.0)) (omega (arith, ints, m, e.1)) (inr (omega (arith, ints, m, e.1)))

pub loop-low-smaller : goal.loop-low-smaller
loop-low-smaller c =
    let k = c.loop-low.invariant in
    let M = to_z w64 (of_z w64 c.middle-mid.result) in
    let m = real c.middle-mid.result c.middle-mid.type_inv in
    let e = c.middle-mid.ensures in
    let n : to_z w64 (of_z w64 (M +ℤ pos 1)) ≡ M +ℤ pos 1 = omega (arith, ints, k.above, k.below, m, e.0, e.1) in
    narrower _ _ _ _ (omega (arith, ints, n, m, e.0)) (omega (arith, ints, n, m, e.1)) (omega (arith, ints)) (inl (omega (arith, ints, n, m, e.0)))

pub loop-low-preserved-then-is_possible : goal.loop-low-preserved-then-is_possible
loop-low-preserved-then-is_possible c =
    let m = real c.middle-mid.result c.middle-mid.type_inv in
    let e = c.middle-mid.ensures in
    closing_down _ _ c.args.place _ _ _ c.args.taken.now.paced.0 c.loop-low.invariant (omega (arith, ints, m, e.0)) (omega (arith, ints, m, e.1)) (sym c.if-is_possible.ensures)

pub loop-low-preserved : goal.loop-low-preserved
loop-low-preserved c =
    let k = c.loop-low.invariant in
    let M = to_z w64 (of_z w64 c.middle-mid.result) in
    let m = real c.middle-mid.result c.middle-mid.type_inv in
    let e = c.middle-mid.ensures in
    let n : to_z w64 (of_z w64 (M +ℤ pos 1)) ≡ M +ℤ pos 1 = omega (arith, ints, k.above, k.below, m, e.0, e.1) in
    closing_up _ _ c.args.place _ _ M c.args.taken.now.paced.0 k (omega (arith, ints, m, e.0)) (omega (arith, ints, m, e.1)) _ (sym c.if-is_possible.ensures) n

pub returns : goal.returns
returns c = closing_end _ _ c.args.taken.now.windows.items c.args.place _ _ refl (ltZ_false _ _ c.loop-low-test.false) c.loop-low.invariant
