use Rattle.std.proofs.Common.{◌≡◌, None, MatchOption, [], map, fold, rules, tests, sym, ap, ◌∙◌, subst, w64, to_z, of_z}
use lib.Signed.{lt_z}
use Rattle.std.specs.Int.{int_max}
use Rattle.std.specs.List.{find}
use Rattle.std.proofs.lemmas.Int.{to_z-of_z}
use Rattle.std.proofs.lemmas.Iterator.{YieldsList-from_slice, YieldsList-from_map}
use Rattle.std.proofs.lemmas.Iterator.Consumers.{fold_from_yields_List}
use Rattle.field.specs.declared.window.Window.{Window}
use Rattle.reckoning.specs.Values.{rest, Next}
use Rattle.reckoning.proofs.Plain.{real}
use Rattle.reckoning.proofs.Rest.{none_before, none_left, picked, raised}
use Rattle.reckoning.proofs.values.next_early.Goals as goal

pub returns-in_err-first : goal.returns-in_err-first
returns-in_err-first c =
    let ws = c.args.windows.now in
    let i : c.from_residual.result ≡ None = search rules in
    let b = ap (λ z. find (λ x. lt_z x z) (map (λ (w : Window). w.early) ws)) (to_z-of_z w64 c.args.bound c.ranges.bound) in
    subst (λ o. MatchOption o (rest ws c.args.bound ≡ []) (λ e. Next ws c.args.bound e)) (sym i) (none_left ws c.args.bound (none_before ws c.args.bound (sym (c.in_err-first.ensures ∙ b))))

pub returns : goal.returns
returns c =
    let ws = c.args.windows.now in
    let t = c.in_ok-first.first in
    let b = ap (λ z. find (λ x. lt_z x z) (map (λ (w : Window). w.early) ws)) (to_z-of_z w64 c.args.bound c.ranges.bound) in
    let T = to_z w64 (of_z w64 t) in
    let k = to_z-of_z w64 t (search rules) in
    let e =
    real c.fold-top.result c.fold-top.type_inv
    ∙ fold_from_yields_List _ int_max _ c.fold-top.result c.fold-top.ensures.ran (YieldsList-from_map _ (raised c.args.bound T) (YieldsList-from_slice ws (cc)) c.map.ensures.closure (λ x r q k. search (rules, tests, to_z-of_z))) (λ a x b q k. search (rules, tests, to_z-of_z))
    ∙ ap (λ z. fold int_max (to_z w64 (of_z w64 z)) (map (raised c.args.bound T) ws)) k
    ∙ ap (λ z. fold int_max z (map (raised c.args.bound z) ws)) k in
    subst (Next ws c.args.bound) (sym e) (picked ws c.args.bound t c.requires (sym (c.in_ok-first.ensures ∙ b)))
