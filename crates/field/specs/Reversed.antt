-- A window turned round, and that its times are still told.
use Rattle.std.specs.Prelude.{◌≡◌, ℕ, List, map, ℤ, neg_ℤ}
use Rattle.std.proofs.Common.{arith}
use Rattle.std.proofs.Math.ListN.{get_or-map}
use Rattle.std.proofs.lemmas.Int.{ints}
use Rattle.field.specs.Windows.{Window, window, outside, window_at, early_at, late_at, Told}

-- early..late becomes -late..-early
abbrev pub turned : Window → Window
turned w = window (neg_ℤ w.late) (neg_ℤ w.early)

pub turned_at : (ws : List Window) (k : ℕ) → window_at (map turned ws) k ≡ turned (window_at ws k)
turned_at ws k = get_or-map turned ws k outside

neg_told : (z : ℤ) → Told z → Told (neg_ℤ z)
neg_told z h = (omega (arith, ints), omega (arith, ints))

pub turned_told : (ws : List Window) (k : ℕ) → Told (early_at ws k) × Told (late_at ws k) → Told (early_at (map turned ws) k) × Told (late_at (map turned ws) k)
turned_told ws k h = rw (turned_at ws k, early_at, late_at) (neg_told _ h.1, neg_told _ h.0)
