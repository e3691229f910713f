use Rattle.std.proofs.Common.{◌≡◌, ◌+◌, ◌*◌, ◌≤◌, ◌++◌, length, take}
use Rattle.std.specs.List.{flat_map}
use Rattle.page.specs.Pages.{text}
use Rattle.roll.specs.Written.{entry, stand}
use Rattle.roll.proofs.writing.page_of.Given as goal

abbrev pub invariant-loop-row : goal.invariant-loop-row
invariant-loop-row l = record {
  added : text l.page ≡ text l.initial.page ++ flat_map entry (take l.row-index l.rows);
  short : length (text l.page) ≤ 9 + 12 * l.row-index;
}

abbrev pub invariant-loop-row-2 : goal.invariant-loop-row-2
invariant-loop-row-2 l = record {
  added : text l.page ≡ text l.initial.page ++ flat_map stand (take l.row-index l.rows);
  short : length (text l.page) ≤ 9 + 12 * 64 + 12 * l.row-index;
}
