-- What no sheet that can exist lacks.
use Rattle.std.specs.Prelude.{◌≡◌, ◌≤◌, true, length}
use Rattle.std.specs.List.{list_all}
use Rattle.sheet.specs.Sound.{sound}
use Rattle.sheet.specs.Content.{Content, rising, numbers_of, paced, playable}

-- ascending numbers, sound rows, a pace in range, and an order of play of all rows
pub record Kept (c : Content) : Type 0 where
  pub sorted : rising (numbers_of c.rows) ≡ true
  pub kept : list_all sound c.rows ≡ true
  pub steady : paced c.pace ≡ true
  pub possible : playable c.rows c.pace ≡ true

-- and no more than 64 rows
pub record CanExist (c : Content) : Type 0 where
  pub few : length c.rows ≤ 64
  pub keeps : Kept c
