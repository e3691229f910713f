use Rattle.std.proofs.Common.{◌∙◌, arith}
use Rattle.std.proofs.lemmas.Int.{ints}
use Rattle.sheet.specs.Standings.{counts}
use Rattle.field.proofs.Same.{same_window}
use Rattle.sheet.proofs.row.Row.window.Goals as goal

pub returns : goal.returns
returns c = c.new.ensures ∙ same_window _ (counts c.args.self.now) (omega (arith, ints, c.counts-early.ensures.early)) (omega (arith, ints, c.counts-early.ensures.late))
