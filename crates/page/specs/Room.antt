-- The room of a page.
use Rattle.std.specs.Prelude.{ℕ}

-- 64 lines of 90 bytes
abbrev pub most : ℕ
most = 5760
