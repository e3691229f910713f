-- Reading a strip's lists at a place, inside and outside.
use Rattle.std.proofs.Common.{◌≡◌, ℕ, ◌/◌, ◌<◌, ◌≤◌, List, length, get_or, arith}
use Rattle.std.proofs.lemmas.List.{get_or_past}
use Rattle.std.proofs.lemmas.List.FromFn.{length-map-range_with_len, get_or-map-range_with_len}
use Rattle.field.specs.Windows.{outside}
use Rattle.field.specs.Strip.{records, record_at, numbers_of, number_at}

pub record_read : (bs : List ℕ) (k : ℕ) → k < length bs / 10 → get_or (records bs) k outside ≡ record_at bs k
record_read bs k h = get_or-map-range_with_len (record_at bs) 0 (length bs / 10) k k outside h (omega arith)

pub record_past : (bs : List ℕ) (k : ℕ) → length bs / 10 ≤ k → get_or (records bs) k outside ≡ outside
record_past bs k h = get_or_past (records bs) k outside (rw length-map-range_with_len h)

pub number_read : (bs : List ℕ) (k : ℕ) → k < length bs / 10 → get_or (numbers_of bs) k 0 ≡ number_at bs k
number_read bs k h = get_or-map-range_with_len (number_at bs) 0 (length bs / 10) k k 0 h (omega arith)

pub number_past : (bs : List ℕ) (k : ℕ) → length bs / 10 ≤ k → get_or (numbers_of bs) k 0 ≡ 0
number_past bs k h = get_or_past (numbers_of bs) k 0 (rw length-map-range_with_len h)

-- a place within the records is none outside the field
pub within_records : {A : Type 0} (bs : List ℕ) (k : ℕ) → k < length bs / 10 → length (records bs) ≤ k → A
within_records bs k h out = let n = length-map-range_with_len (record_at bs) 0 (length bs / 10) in absurd (omega arith)
