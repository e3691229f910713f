use Rattle.sheet.specs.Sheets.{content}
use Rattle.sheet.proofs.Keeping.{kept_by_sheet}
use Rattle.sheet.proofs.Playing.{plays}
use Rattle.sheet.proofs.sheet.Sheet.rows.Goals as goal

pub returns-clause-possible : goal.returns-clause-possible
returns-clause-possible c =
    let s = c.args.self.now in
    let k = kept_by_sheet s in
    plays (content s) k.steady k.possible
