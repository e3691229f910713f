use Rattle.std.proofs.Common.{ap}
use Rattle.sheet.specs.Content.{windows_of}
use Rattle.sheet.specs.Sheets.{content_of}
use Rattle.sheet.proofs.Tried.{tried, few_in}
use Rattle.sheet.proofs.sheet.Holding.plays_at.Goals as goal

pub returns : goal.returns
returns c =
    let h = c.args.self.now in
    tried (record { rows = (content_of h).rows; pace = c.args.pace }) _ c.possible.result (ap windows_of c.rows.ensures) c.possible.ensures.answer c.requires (few_in h) h.keeps.kept
