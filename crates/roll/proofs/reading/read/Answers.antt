use Rattle.std.proofs.Common.{ap, ◌∙◌, rules}
use Rattle.roll.specs.Records.{body_read, kind}
use Rattle.roll.proofs.Whole.{read_whole}
use Rattle.roll.proofs.reading.read.Goals as goal

pub returns : goal.returns
returns c =
    let bs = c.args.bytes.now in
    read_whole bs c.from.result _ c.in-len2-up.len_at_least (search rules) c.from.ensures (c.by_kind.ensures ∙ ap (body_read (kind bs)) c.in-Some.ensures.lookup.0.2)
