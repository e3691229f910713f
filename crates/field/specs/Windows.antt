-- A field means a list of windows, counted by place from 0.
use Rattle.std.specs.Prelude.{ℕ, List, ℤ, pos, negsuc, ◌≤ℤ◌, slice_index_or}
-- an early and a late start, both included
pub use Rattle.field.specs.declared.window.Window.{Window}

abbrev pub window : ℤ → ℤ → Window
window e l = record { early = e; late = l }

-- what is told at a place outside
abbrev pub outside : Window
outside = window (pos 0) (pos 0)

-- what is told at a place
abbrev pub window_at : List Window → ℕ → Window
window_at ws k = slice_index_or ws k outside

abbrev pub early_at : List Window → ℕ → ℤ
early_at ws k = (window_at ws k).early

abbrev pub late_at : List Window → ℕ → ℤ
late_at ws k = (window_at ws k).late

-- every time that a field tells lies from -2^31 to 2^31
abbrev pub Told : ℤ → Type 0
Told z = (negsuc 2147483647 ≤ℤ z) × (z ≤ℤ pos 2147483648)
