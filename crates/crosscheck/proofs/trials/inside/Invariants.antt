use Rattle.sheet.specs.Sheets.{SameTrial}
use Rattle.crosscheck.proofs.trials.inside.Given as goal

abbrev pub invariant-loop-act : goal.invariant-loop-act
invariant-loop-act l = SameTrial l.initial.sheet l.sheet
