use Rattle.std.proofs.Common.{refl}
use Rattle.sheet.specs.Content.{blank}
use Rattle.sheet.proofs.Keeping.{none_kept, owed}
use Rattle.sheet.proofs.sheet.Holding.blank.Goals as goal

pub invariant_of-result : goal.invariant_of-result
invariant_of-result c = record { keeps = owed blank (none_kept 480 refl) _ 480 c.in_ok-empty.ensures refl }
