use Rattle.std.proofs.Common.{◌<◌, cond, length, pos, ◌-ℤ◌, sym, ap, ◌∙◌, w64, to_z, of_z, rules, subst, get_or}
use Rattle.std.proofs.ByRecursion.{All-get_or}
use Rattle.theory.specs.declared.span.Span.{Span}
use Rattle.theory.specs.Closed.{covers}
use Rattle.reckoning.specs.Values.{Fit}
use Rattle.reckoning.proofs.Lookups.{greatest_step, greatest_none}
use Rattle.reckoning.proofs.Plain.{before_real}
use Rattle.reckoning.proofs.closed.Closed.greatest_outside.Goals as goal
use Rattle.reckoning.proofs.closed.Closed.greatest_outside.Goals.{then-is_closed, else-is_closed}

pub loop-span-init : goal.loop-span-init
loop-span-init c = sym (greatest_none _)

pub loop-span-preserved : goal.loop-span-preserved
loop-span-preserved c =
    let i = c.loop-span.span-index in
    let d : Span = record { first = pos 0; last = pos 0 } in
    let q = ap (λ z. get_or z i d) c.deref-span-items.ensures.0 in
    let s = get_or c.args.self.now.spans.items i d in
    let u = to_z w64 c.loop-span.low-bits in
    let l = subst (λ z. i < length z) c.deref-span-items.ensures.0 c.loop-span-test.true in
    let fit = All-get_or Fit c.args.self.now.spans.items i d l c.args.self.now.fit in
    greatest_step c.args.self.now.spans.items i d _ u _ l c.args.self.now.falling c.loop-span.invariant
    (elim c.if-is_closed.branch [
      | then-is_closed w ↦ w.low-is ∙ ap (λ (z : Span). to_z w64 (of_z w64 (to_z w64 (of_z w64 z.first) -ℤ pos 1))) q ∙ before_real s.first (search rules) fit.0 ∙ ap (λ b. cond b (s.first -ℤ pos 1) u) (w.if-is_closed.ensures ∙ ap (λ z. covers z u) q)
      | else-is_closed w ↦ w.low-is ∙ ap (λ b. cond b (s.first -ℤ pos 1) u) (w.if-is_closed.ensures ∙ ap (λ z. covers z u) q)
    ])
