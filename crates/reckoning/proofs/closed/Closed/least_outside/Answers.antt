use Rattle.std.proofs.Common.{cond, reverse, pos, ◌+ℤ◌, ap, ◌∙◌, w64, to_z, rules, subst}
use Rattle.std.proofs.lemmas.Int.{to_z-of_z}
use Rattle.std.specs.List.{AllByRecursion}
use Rattle.reckoning.specs.Values.{Fit}
use Rattle.theory.specs.Closed.{least_outside}
use Rattle.reckoning.proofs.Lookups.{least_step, least_end, fall_on, all_front}
use Rattle.reckoning.proofs.Plain.{after_real}
use Rattle.reckoning.proofs.closed.Closed.least_outside.Goals as goal

pub loop-span-preserved-then-is_closed : goal.loop-span-preserved-then-is_closed
loop-span-preserved-then-is_closed c =
    let k = c.loop-span.invariant in
    let e = c.in-Some.ensures.steps in
    let s = c.in-Some.span.now in
    let fit = all_front Fit c.next.new.self.iter.rest.now s (subst (AllByRecursion Fit) e k.fit) in
    record {
      falling = fall_on _ _ s e k.falling;
      fit = fit.0;
      same = least_step _ _ s _ _ _ e k.falling k.same (after_real s.last (search rules) fit.1.1 ∙ ap (λ b. cond b (s.last +ℤ pos 1) (to_z w64 c.loop-span.high-bits)) c.if-is_closed.ensures);
    }

pub loop-span-preserved : goal.loop-span-preserved
loop-span-preserved c =
    let k = c.loop-span.invariant in
    let e = c.in-Some.ensures.steps in
    let s = c.in-Some.span.now in
    let fit = all_front Fit c.next.new.self.iter.rest.now s (subst (AllByRecursion Fit) e k.fit) in
    record {
      falling = fall_on _ _ s e k.falling;
      fit = fit.0;
      same = least_step _ _ s _ _ _ e k.falling k.same (ap (λ b. cond b (s.last +ℤ pos 1) (to_z w64 c.loop-span.high-bits)) c.if-is_closed.ensures);
    }

pub returns : goal.returns
returns c =
    least_end _ _ _ c.in-None.ensures.steps.0 c.loop-span.invariant.same
    ∙ ap (least_outside (reverse c.args.self.now.spans.items)) (to_z-of_z w64 c.args.time c.ranges.time)
