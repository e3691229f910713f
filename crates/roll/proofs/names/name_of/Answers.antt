use Rattle.std.proofs.Common.{◌≡◌, rules}
use Rattle.roll.specs.Names.{name_of}
use Rattle.roll.proofs.ShortNames.{name_of_short}
use Rattle.roll.proofs.names.name_of.Goals as goal

pub returns-clause-short : goal.returns-clause-short
returns-clause-short c =
    let name : c.unwrap_or.result.now ≡ name_of c.args.roll.now c.args.number = search rules in
    rw name (name_of_short c.args.roll.now c.args.number)
