use Rattle.std.proofs.Common.{rules, ℕ, ◌≡◌, ◌<◌, ◌≤◌, length, take, reverse, w64, ◌+ℤ◌, [], ◌∷◌, ◌++◌, Some, IsSome, to_z, of_z, sym, refl, ap, ◌∙◌, subst, lit<, arith}
use Rattle.std.specs.Int.{int_max}
use Rattle.std.proofs.lemmas.Int.{ints, to_z-of_z}
use Rattle.theory.specs.declared.group.Group.{Group}
use Rattle.theory.specs.Closed.{least_outside}
use Rattle.theory.specs.Written.{by_place, without}
use Rattle.reckoning.specs.Values.{Fit, Near}
use Rattle.reckoning.specs.Order.{least_of, chosen_of}
use Rattle.reckoning.proofs.Lookups.{all_reverse}
use Rattle.reckoning.proofs.Plain.{real}
use Rattle.reckoning.proofs.StepsBack.{refilled}
use Rattle.reckoning.proofs.Playing.{midway_begin, midway_turn, midway_read, midway_near, midway_end, fewer, next_read, max_is}
use Rattle.reckoning.proofs.order.play.Goals as goal
use Rattle.reckoning.proofs.order.play.Goals.{After-next_at, After-truncate}

pub loop-early-init : goal.loop-early-init
loop-early-init c = midway_begin _ _ _ _ _ c.args.taken.now.timed c.new-turns.ensures (c.number-groups.ensures ∙ ap (by_place 0) c.windows.ensures.windows)

start_is : (c : After-next_at) → to_z w64 (of_z w64 c.least_outside-time.result) ≡ least_outside (reverse c.args.closed.now.spans.items) (int_max (to_z w64 c.loop-early.free-bits) c.in-Some.early)
start_is c =
    let t = to_z w64 c.loop-early.free-bits in
    let e : to_z w64 (of_z w64 c.in-Some.early) ≡ c.in-Some.early = to_z-of_z w64 c.in-Some.early (search rules) in
    let m = real c.max.result c.max.type_inv ∙ c.max.ensures ∙ max_is t (to_z w64 (of_z w64 c.in-Some.early)) ∙ ap (int_max t) e in
    real c.least_outside-time.result c.least_outside-time.type_inv ∙ c.least_outside-time.ensures ∙ ap (least_outside (reverse c.args.closed.now.spans.items)) m

some_left : (c : After-next_at) → least_of c.loop-early.groups.items ≡ Some c.in-Some.early
some_left c = sym (c.in-Some.ensures ∙ ap least_of c.deref.ensures.0)

next_is : (c : After-next_at) → (h : Group) × (chosen_of (to_z w64 (of_z w64 c.least_outside-time.result)) c.loop-early.groups.items ≡ Some h) × (c.next_at.result ≡ Some h.place)
next_is c = next_read (reverse c.args.closed.now.spans.items) (to_z w64 c.loop-early.free-bits) c.in-Some.early _ c.loop-early.groups.items c.deref-in-Some.result.now _ (some_left c) (start_is c) c.deref-in-Some.ensures.0 c.next_at.ensures

few_taken : (c : After-next_at) → length c.args.taken.now.windows.items ≤ 64
few_taken c = subst (λ ws. length ws ≤ 64) c.windows.ensures.windows c.windows.ensures.few

start_near : (c : After-next_at) → Near (to_z w64 (of_z w64 c.least_outside-time.result))
start_near c =
    midway_near _ (reverse c.args.closed.now.spans.items) c.args.taken.now.windows.items c.loop-early.turns.items (to_z w64 c.loop-early.free-bits) c.loop-early.groups.items c.in-Some.early _
    (all_reverse Fit c.args.closed.now.spans.items c.args.closed.now.fit) (few_taken c) c.loop-early.invariant (some_left c) (start_is c)

pub unwrap-place-requires : goal.unwrap-place-requires
unwrap-place-requires c = let n = next_is c in subst IsSome (sym n.2) refl

pub push-requires : goal.push-requires
push-requires c =
    let n = next_is (goal.at.push-requires c).After-next_at in
    let l = fewer _ c.loop-early.groups.items n.0 n.1 in
    let few = few_taken (goal.at.push-requires c).After-next_at in
    let m : length c.loop-early.turns.items < 64 = omega (arith, l, few, c.loop-early.invariant.fuel) in
    (lit< tt, m)

pub overflow_add-free : goal.overflow_add-free
overflow_add-free c = let n = start_near (goal.at.overflow_add-free c).After-next_at in search (rules, ints)

left_is : (c : After-truncate) (i : ℕ) → c.unwrap-place.result ≡ i → c.truncate.new.self.items ≡ without i c.loop-early.groups.items
left_is c i e =
    let xs = c.loop-early.groups.items in
    let same = c.deref_mut.ensures.value in
    c.truncate.ensures.items
    ∙ ap (take c.keep_others-kept.result) (refilled xs c.keep_others-kept.new.groups (c.keep_others-kept.auto.groups ∙ ap length same))
    ∙ c.keep_others-kept.ensures
    ∙ ap (λ ys. without c.unwrap-place.result ys) same
    ∙ ap (λ i. without i xs) e

pub loop-early-smaller : goal.loop-early-smaller
loop-early-smaller c =
    let n = next_is (goal.at.loop-early-smaller c).After-next_at in
    let i : c.unwrap-place.result ≡ n.0.place = cc (c.unwrap-place.ensures, n.2) in
    let r = left_is (goal.at.loop-early-smaller c).After-truncate n.0.place i in
    subst (λ z. length z < length c.loop-early.groups.items) (sym r) (fewer _ c.loop-early.groups.items n.0 n.1)

pub loop-early-preserved : goal.loop-early-preserved
loop-early-preserved c =
    let P = c.args.taken.now.pace in
    let U = to_z w64 (of_z w64 c.least_outside-time.result) in
    let pace = c.args.taken.now.paced in
    let k = (goal.at.loop-early-preserved c).After-next_at in
    let u = start_near k in
    let n = next_is k in
    let i : c.unwrap-place.result ≡ n.0.place = cc (c.unwrap-place.ensures, n.2) in
    midway_read P (reverse c.args.closed.now.spans.items) c.args.taken.now.windows.items _ _ (U +ℤ P) _ _ _
    (c.push.ensures.items ∙ ap (λ i. c.loop-early.turns.items ++ record { place = i; time = U } ∷ []) i) (to_z-of_z w64 _ (search (rules, ints)) ∙ ap (λ z. U +ℤ z) (real c.pace.result c.pace.type_inv ∙ c.pace.ensures.pace)) (left_is (goal.at.loop-early-preserved c).After-truncate n.0.place i)
    (midway_turn P (reverse c.args.closed.now.spans.items) c.args.taken.now.windows.items c.loop-early.turns.items (to_z w64 c.loop-early.free-bits) c.loop-early.groups.items c.in-Some.early U n.0
    pace (all_reverse Fit c.args.closed.now.spans.items c.args.closed.now.fit) c.loop-early.invariant (some_left k) (start_is k) n.1)

pub returns : goal.returns
returns c = midway_end _ _ _ _ _ c.loop-early.groups.items (sym (c.in_default.ensures ∙ ap least_of c.deref.ensures.0)) c.loop-early.invariant
