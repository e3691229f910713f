use Rattle.std.proofs.Common.{◌∙◌}
use Rattle.sheet.proofs.ToldWindows.{window_told}
use Rattle.sheet.proofs.rows.told.RowsField.window.Goals as goal

pub returns : goal.returns
returns c = c.window.ensures ∙ window_told c.args.self.now.rows.now c.args.place c.row_at.result c.row_at.ensures
