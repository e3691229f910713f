-- Rows read at a place, as the list of their windows tells them.
use Rattle.std.proofs.Common.{◌≡◌, ℕ, List, map, get_or, sym, ap, ◌∙◌}
use lib.ListN.{get_or-map}
use Rattle.field.specs.Windows.{window_at}
use Rattle.sheet.specs.declared.row.Row.{Row}
use Rattle.sheet.specs.Standings.{counts, nobody}

module _ (rs : List Row) (k : ℕ) (r : Row) (e : r ≡ get_or rs k nobody) where
  pub window_told : counts r ≡ window_at (map counts rs) k
  window_told = ap counts e ∙ sym (get_or-map counts rs k nobody)
