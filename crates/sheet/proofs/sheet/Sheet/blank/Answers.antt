use Rattle.std.proofs.Common.{refl}
use Rattle.sheet.proofs.Beginning.{blank_lawful}
use Rattle.sheet.proofs.sheet.Sheet.blank.Goals as goal

pub returns-clause-law : goal.returns-clause-law
returns-clause-law c = blank_lawful _ c.args.number refl c.in_ok-holding.ensures refl
