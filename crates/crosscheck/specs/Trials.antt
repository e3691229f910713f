-- What a trial needs of the calls inside it.
use Rattle.std.specs.Prelude.{◌≡◌, true, is_some}
use Rattle.sheet.specs.declared.sheet.Sheet.{Sheet}
use Rattle.sheet.specs.declared.sheet.trial.Slip.{Slip}
use Rattle.sheet.specs.Sheets.{at_open}

-- a trial is open, and the slip carries the sheet's number
pub record Takes (s : Sheet) (slip : Slip) : Type 0 where
  pub opened : is_some (at_open s) ≡ true
  pub carries : slip.sheet ≡ s.number
