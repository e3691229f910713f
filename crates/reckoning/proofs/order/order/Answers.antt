use Rattle.std.proofs.Common.{◌≡◌, ◌≤◌, map, reverse, length, pos, Err, sym, ap, ◌∙◌, subst, rules}
use Rattle.reckoning.specs.Order.{played, start_of}
use Rattle.reckoning.proofs.Asked.{asked_passed, room_passed, thirteen_err, thirteen_ok}
use Rattle.reckoning.proofs.Listed.{list_read, played_fits, plays, plays_front}
use Rattle.reckoning.proofs.order.order.Goals as goal

pub write-requires : goal.write-requires
write-requires g c =
    let t = c.in_ok-taken.ensures.told in
    let room = length c.args.list.now in
    let fits = room_passed c.args.pace (g.F.Field.windows c.args.field.now) room t.0 in
    played_fits _ _ _ c.play-turns.result.items _ room c.deref.ensures.0 c.play-turns.ensures (subst (λ ws. length ws ≤ room) (sym t.1) fits)

pub returns-in_err-taken-clause-thirteen : goal.returns-in_err-taken-clause-thirteen
returns-in_err-taken-clause-thirteen g c =
    let q = c.in_err-taken.field-0.0 in
    let i : c.from_residual.result ≡ Err q = search rules in
    thirteen_err c.args.pace (g.F.Field.windows c.args.field.now) (length c.args.list.now) c.from_residual.result q i c.in_err-taken.ensures.told

pub returns-clause-thirteen : goal.returns-clause-thirteen
returns-clause-thirteen g c =
    let t = c.in_ok-taken.ensures.told in
    thirteen_ok c.args.pace (g.F.Field.windows c.args.field.now) (length c.args.list.now) c.len.result _ t.0 t.3

pub returns-clause-plays : goal.returns-clause-plays
returns-clause-plays g c =
    let ws = g.F.Field.windows c.args.field.now in
    let ns = g.F.Numbered.numbers c.args.field.now in
    let t = c.in_ok-taken.ensures.told in
    let S = start_of ns in
    let P = pos c.args.pace in
    let f = reverse c.in_ok-taken.closed.spans.items in
    let W = played P f ws in
    let tw = c.play-turns.ensures ∙ ap (λ v. played v f c.in_ok-taken.taken.windows.items) t.2 ∙ ap (played P f) t.1 in
    let l = list_read S W c.play-turns.result.items c.deref.result.now c.args.list.now c.write.new.list c.len.result c.len.ensures.value c.deref.ensures.0 tw c.write.ensures in
    plays_front P ws (map S W) c.args.list.now c.write.new.list c.len.result l.0 l.1 (plays P ws ns f (asked_passed c.args.pace ws (length c.args.list.now) t.0).0.0 t.3)
