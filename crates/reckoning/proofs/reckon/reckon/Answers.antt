use Rattle.std.proofs.Common.{◌≡◌, [], length, reverse, pos, ◌+ℤ◌, ◌-ℤ◌, ◌<ℤ◌, cond, fold, arith, ◌∷◌, ◌++◌, sym, refl, ap, ◌∙◌, subst, w64, to_z, of_z}
use lib.Signed.{lt_z}
use Rattle.std.specs.Int.{int_min}
use Rattle.std.specs.List.{AllByRecursion}
use Rattle.theory.specs.declared.span.Span.{Span}
use Rattle.theory.proofs.Closed.{ltZ_true, ltZ_false}
use Rattle.reckoning.proofs.Plain.{real}
use Rattle.std.proofs.lemmas.List.{reverse-reverse, length-map}
use Rattle.reckoning.specs.Values.{Near, Fit, Next, rest, paired, kept, lows}
use Rattle.reckoning.proofs.Lookups.{all_reverse}
use Rattle.reckoning.proofs.StepsBack.{paired_map, refilled}
use Rattle.reckoning.proofs.Turn.{Along, setting_out, first_kept, coming, failing, done, next_real, capped_high, going_on, stays_grown, joins, joining, grown_is, near_all, least_real}
use Rattle.reckoning.proofs.reckon.reckon.Goals as goal
use Rattle.reckoning.proofs.reckon.reckon.Goals.{After-least-m}

pub loop-early-init : goal.loop-early-init
loop-early-init c =
    let t = c.args.taken.now in
    let none = sym (ap reverse c.none-closed.ensures) in
    record {
      along = subst (Along t.pace t.windows.items (pos 86401)) none (setting_out t.pace t.paced t.windows.items t.timed);
      room = let n = length-map t.windows.items (λ w. w.late +ℤ t.pace) in let l = ap length c.begin-values.ensures in omega (arith, n, l);
      values = ap (paired t.windows.items) c.begin-values.ensures ∙ paired_map (λ w. w.late +ℤ t.pace) t.windows.items ∙ first_kept t.pace t.paced t.windows.items t.timed ∙ ap (λ f. kept t.pace t.windows.items f (pos 86401)) none;
    }

pub come_in-requires-clause-kept : goal.come_in-requires-clause-kept
come_in-requires-clause-kept c =
    let t = c.args.taken.now in
    let f = reverse c.loop-early.closed.spans.items in
    let al = c.loop-early.invariant.along in
    let n = next_real t.pace t.windows.items (to_z w64 c.loop-early.bound-bits) c.in-Some.early f al (subst (λ z. Next z (to_z w64 c.loop-early.bound-bits) c.in-Some.early) c.windows.ensures.windows c.in-Some.ensures) in
    ap (paired t.windows.items) c.deref_mut.ensures.value ∙ c.loop-early.invariant.values ∙ coming t.pace t.paced t.windows.items t.timed (to_z w64 c.loop-early.bound-bits) (to_z w64 (of_z w64 c.in-Some.early)) f n

-- what was taken for the least value is the least of those that are kept
least_is : (c : After-least-m) → to_z w64 (of_z w64 c.least-m.result) ≡ fold int_min (to_z w64 (of_z w64 c.in-Some.early) +ℤ c.args.taken.now.pace) (lows (kept c.args.taken.now.pace c.args.taken.now.windows.items (reverse c.loop-early.closed.spans.items) (to_z w64 (of_z w64 c.in-Some.early))))
least_is c =
    let t = c.args.taken.now in
    let f = reverse c.loop-early.closed.spans.items in
    let al = c.loop-early.invariant.along in
    let n = next_real t.pace t.windows.items (to_z w64 c.loop-early.bound-bits) c.in-Some.early f al (subst (λ z. Next z (to_z w64 c.loop-early.bound-bits) c.in-Some.early) c.windows.ensures.windows c.in-Some.ensures) in
    let back = refilled c.loop-early.values.items c.come_in.new.values (c.come_in.auto.values ∙ ap length c.deref_mut.ensures.value) in
    let looked = ap (λ z. paired z c.deref.result.now) c.windows-in-Some.ensures.windows ∙ ap (paired t.windows.items) (c.deref.ensures.0 ∙ back) ∙ c.come_in.ensures in
    least_real t.pace c.pace-pace.result t.windows.items (to_z w64 c.loop-early.bound-bits) (to_z w64 (of_z w64 c.in-Some.early)) c.least-m.result f _ t.paced c.pace-pace.type_inv c.pace-pace.ensures.pace al n looked c.least-m.type_inv c.least-m.ensures

pub returns-then-m-early-clause-told : goal.returns-then-m-early-clause-told
returns-then-m-early-clause-told c =
    let t = c.args.taken.now in
    let f = reverse c.loop-early.closed.spans.items in
    let al = c.loop-early.invariant.along in
    let n = next_real t.pace t.windows.items (to_z w64 c.loop-early.bound-bits) c.in-Some.early f al (subst (λ z. Next z (to_z w64 c.loop-early.bound-bits) c.in-Some.early) c.windows.ensures.windows c.in-Some.ensures) in
    let E = to_z w64 (of_z w64 c.in-Some.early) in
    let M = to_z w64 (of_z w64 c.least-m.result) in
    let e = least_is (goal.at.returns-then-m-early-clause-told c).After-least-m in
    (refl, failing t.pace t.paced t.windows.items t.timed _ E M f al n e (ltZ_true M E c.if-m-early.true))

pub joining-requires : goal.joining-requires
joining-requires c =
    let t = c.args.taken.now in
    let f = reverse c.loop-early.closed.spans.items in
    let al = c.loop-early.invariant.along in
    let n = next_real t.pace t.windows.items (to_z w64 c.loop-early.bound-bits) c.in-Some.early f al (subst (λ z. Next z (to_z w64 c.loop-early.bound-bits) c.in-Some.early) c.windows.ensures.windows c.in-Some.ensures) in
    let E = to_z w64 (of_z w64 c.in-Some.early) in
    let M = to_z w64 (of_z w64 c.least-m.result) in
    let e = least_is (goal.at.joining-requires c).After-least-m in
    let p = real c.pace-pace.result c.pace-pace.type_inv ∙ c.pace-pace.ensures.pace in
    let k = near_all t.pace _ E M t.paced n.over n.under al.high (capped_high t.pace E M (lows (kept t.pace t.windows.items f E)) e) (ltZ_false M E c.if-m-early.false) in
    record { near = (k.0, subst Near (sym p) k.1, k.2) }

pub join-requires-clause-before : goal.join-requires-clause-before
join-requires-clause-before c =
    let t = c.args.taken.now in
    let f = reverse c.loop-early.closed.spans.items in
    let al = c.loop-early.invariant.along in
    let n = next_real t.pace t.windows.items (to_z w64 c.loop-early.bound-bits) c.in-Some.early f al (subst (λ z. Next z (to_z w64 c.loop-early.bound-bits) c.in-Some.early) c.windows.ensures.windows c.in-Some.ensures) in
    let E = to_z w64 (of_z w64 c.in-Some.early) in
    let M = to_z w64 (of_z w64 c.least-m.result) in
    let p = real c.pace-pace.result c.pace-pace.type_inv ∙ c.pace-pace.ensures.pace in
    let j = c.joining.ensures ∙ ap (λ z. let s : Span = record { first = (M -ℤ z) +ℤ pos 1; last = E -ℤ pos 1 } in s) p in
    let xs = c.loop-early.closed.spans.items in
    let k = joins t.pace t.paced t.windows.items t.timed _ E M f al n (ltZ_false M E c.if-m-early.false) in
    subst (λ (s : Span). AllByRecursion (λ o. s.last <ℤ o.last) xs) (sym j)
    (subst (AllByRecursion (λ o. (E -ℤ pos 1) <ℤ o.last)) (reverse-reverse xs) (all_reverse (λ o. (E -ℤ pos 1) <ℤ o.last) f k.0))

pub join-requires-clause-fit : goal.join-requires-clause-fit
join-requires-clause-fit c =
    let t = c.args.taken.now in
    let f = reverse c.loop-early.closed.spans.items in
    let al = c.loop-early.invariant.along in
    let n = next_real t.pace t.windows.items (to_z w64 c.loop-early.bound-bits) c.in-Some.early f al (subst (λ z. Next z (to_z w64 c.loop-early.bound-bits) c.in-Some.early) c.windows.ensures.windows c.in-Some.ensures) in
    let E = to_z w64 (of_z w64 c.in-Some.early) in
    let M = to_z w64 (of_z w64 c.least-m.result) in
    let p = real c.pace-pace.result c.pace-pace.type_inv ∙ c.pace-pace.ensures.pace in
    let j = c.joining.ensures ∙ ap (λ z. let s : Span = record { first = (M -ℤ z) +ℤ pos 1; last = E -ℤ pos 1 } in s) p in
    subst Fit (sym j) (joins t.pace t.paced t.windows.items t.timed _ E M f al n (ltZ_false M E c.if-m-early.false)).1

pub loop-early-preserved : goal.loop-early-preserved
loop-early-preserved c =
    let t = c.args.taken.now in
    let f = reverse c.loop-early.closed.spans.items in
    let al = c.loop-early.invariant.along in
    let n = next_real t.pace t.windows.items (to_z w64 c.loop-early.bound-bits) c.in-Some.early f al (subst (λ z. Next z (to_z w64 c.loop-early.bound-bits) c.in-Some.early) c.windows.ensures.windows c.in-Some.ensures) in
    let E = to_z w64 (of_z w64 c.in-Some.early) in
    let M = to_z w64 (of_z w64 c.least-m.result) in
    let back = refilled c.loop-early.values.items c.come_in.new.values (c.come_in.auto.values ∙ ap length c.deref_mut.ensures.value) in
    let e = least_is (goal.at.loop-early-preserved c).After-least-m in
    let p = real c.pace-pace.result c.pace-pace.type_inv ∙ c.pace-pace.ensures.pace in
    let j = c.joining.ensures ∙ ap (λ z. let s : Span = record { first = (M -ℤ z) +ℤ pos 1; last = E -ℤ pos 1 } in s) p in
    let xs = c.loop-early.closed.spans.items in
    let ws = t.windows.items in
    let h = ltZ_false M E c.if-m-early.false in
    let s = joining t.pace t.paced ws t.timed M E in
    let g = grown_is xs c.join.new.self.spans.items s (lt_z s.last s.first) (c.join.ensures ∙ ap (λ (z : Span). cond (lt_z z.last z.first) xs (xs ++ z ∷ [])) j) in
    record {
      along = subst (Along t.pace ws E) (sym g) (going_on t.pace t.paced ws t.timed _ E M f al n e h);
      room = let l = ap length back in let m = c.come_in.auto.values in let o = ap length c.deref_mut.ensures.value in omega (arith, l, m, o, c.loop-early.invariant.room);
      values = ap (paired ws) back ∙ c.come_in.ensures ∙ stays_grown t.pace t.paced ws t.timed E M f e h ∙ ap (λ z. kept t.pace ws z E) (sym g);
    }

pub returns-clause-told : goal.returns-clause-told
returns-clause-told c =
    let t = c.args.taken.now in
    done t.pace t.paced t.windows.items t.timed _ _ c.loop-early.invariant.along (subst (λ z. rest z (to_z w64 c.loop-early.bound-bits) ≡ []) c.windows.ensures.windows c.in_default.ensures)
