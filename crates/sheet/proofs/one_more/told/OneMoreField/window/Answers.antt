use Rattle.std.proofs.Common.{◌∙◌}
use Rattle.std.specs.List.{insert}
use Rattle.sheet.proofs.ToldWindows.{window_told}
use Rattle.sheet.proofs.one_more.told.OneMoreField.window.Goals as goal

pub returns : goal.returns
returns c =
    let s = c.args.self.now in
    c.window.ensures ∙ window_told (insert s.rows.now s.place s.row) c.args.place c.row_at.result c.row_at.ensures
