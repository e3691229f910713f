-- What a sheet holds.
use Rattle.std.specs.Prelude.{ℕ, suc, Bool, true, cond, ◌&&◌, ltb, List, [], ◌∷◌, map, reverse, length, pos, is_some, nat_eq, nat_le, nat_lt, slice_index_or}
use Rattle.std.specs.List.{insert, list_all}
use Rattle.std.specs.Option.{unwrap_or}
use Rattle.field.specs.declared.window.Window.{Window}
use Rattle.theory.specs.declared.span.Span.{Span}
use Rattle.theory.specs.Method.{forbidden}
use Rattle.theory.specs.Orders.{Possible}
use Rattle.reckoning.specs.declared.start.Start.{Start}
use Rattle.reckoning.specs.Order.{start_of, played}
use Rattle.sheet.specs.declared.row.Row.{Row}
use Rattle.sheet.specs.Standings.{counts, nobody}

pub record Content : Type 0 where
  pub rows : List Row
  pub pace : ℕ

-- a blank sheet has no rows and pace 480
abbrev pub blank : Content
blank = record { rows = []; pace = 480 }

-- ---- rows by number

-- the first place whose row passes a test, and the count where none does
abbrev pub first : (Row → Bool) → List Row → ℕ
first t [] = 0
first t (r ∷ rs) = cond (t r) 0 (suc (first t rs))

-- the place of a group
abbrev pub place : ℕ → List Row → ℕ
place g rs = first (λ r. nat_eq r.number g) rs

-- the group is on the sheet
abbrev pub on : ℕ → List Row → Bool
on g rs = nat_lt (place g rs) (length rs)

abbrev pub row : ℕ → List Row → Row
row g rs = slice_index_or rs (place g rs) nobody

-- a new number's place is before the first higher one
abbrev pub place_for : ℕ → List Row → ℕ
place_for g rs = first (λ r. ltb g r.number) rs

abbrev pub joined : Row → List Row → List Row
joined r rs = insert rs (place_for r.number rs) r

-- each number is below all that follow
abbrev pub rising : List ℕ → Bool
rising [] = true
rising (n ∷ ns) = list_all (ltb n) ns && rising ns

-- ---- what is reckoned from rows and pace

-- by place, the windows that count and the numbers
abbrev pub windows_of : List Row → List Window
windows_of rs = map counts rs

abbrev pub numbers_of : List Row → List ℕ
numbers_of rs = map (λ r. r.number) rs

-- the pace is 1 to 3,600
abbrev pub paced : ℕ → Bool
paced p = nat_le 1 p && nat_le p 3600

-- all groups together have an order of play, those already away too: as the method finds it
abbrev pub playable : List Row → ℕ → Bool
playable rs p = is_some (forbidden (pos p) (windows_of rs))

-- the same, in the subject's words
abbrev pub Playable : Content → Type 0
Playable c = Possible (pos c.pace) (windows_of c.rows)

-- the finished closed set
abbrev pub closed : Content → List Span
closed c = unwrap_or (forbidden (pos c.pace) (windows_of c.rows)) []

-- the closed spans in the order found
abbrev pub spans_of : Content → List Span
spans_of c = reverse (closed c)

-- the written order of the rows
abbrev pub order_of : Content → List Start
order_of c = map (start_of (numbers_of c.rows)) (played (pos c.pace) (closed c) (windows_of c.rows))
