-- The list of the written order.
use Rattle.std.specs.Prelude.{◌≡◌, ℕ, ◌<◌, List, [], ◌∷◌, map, length, ℤ, pos, ◌+ℤ◌, ◌≤ℤ◌, Option, Some, None, Result, ◌≢◌, slice_index}
use Rattle.std.specs.List.{AllByRecursion}
use Rattle.field.specs.declared.window.Window.{Window}
use Rattle.theory.specs.declared.span.Span.{Span}
use Rattle.theory.specs.declared.group.Group.{Group}
use Rattle.theory.specs.declared.group.Played.{Played}
use Rattle.theory.specs.Orders.{OrderOfPlay, start_at}
use Rattle.theory.specs.Written.{least_early, chosen, play_all, by_place}
use Rattle.reckoning.specs.declared.start.Start.{Start}
use Rattle.reckoning.specs.Lists.{told}

-- the least early of some groups, and the chosen one
unfoldable pub least_of : List Group → Option ℤ
least_of [] = None
least_of (g ∷ gs) = Some (least_early g gs)

unfoldable pub chosen_of : ℤ → List Group → Option Group
chosen_of t [] = None
chosen_of t (g ∷ gs) = Some (chosen t g gs)

-- the groups of a field as they are played
abbrev pub played : ℤ → List Span → List Window → List Played
played p f ws = play_all p f (by_place 0 ws)

-- an entry of the list: place, number and start
abbrev pub start_of : List ℕ → Played → Start
start_of ns s = record { place = s.place; number = slice_index ns s.place; start = s.time }

abbrev pub order_told : ℕ → List Window → List ℕ → ℕ → Result (List Start) ℕ
order_told p ws ns room = told p ws room (λ f. map (start_of ns) (played (pos p) f ws))

-- every later entry starts at least the pace later
abbrev pub Ascending : ℤ → List Start → Type 0
Ascending p [] = Unit {0}
Ascending p (e ∷ es) = AllByRecursion (λ d. (e.start +ℤ p) ≤ℤ d.start) es × Ascending p es

-- no place comes twice
abbrev pub Once : List Start → Type 0
Once [] = Unit {0}
Once (e ∷ es) = AllByRecursion (λ d. d.place ≢ e.place) es × Once es

-- the entries are an order of play: each place once with its start, in ascending starts
pub record Plays (p : ℤ) (ws : List Window) (es : List Start) : Type 0 where
  pub starts : List ℤ
  pub order : OrderOfPlay p ws starts
  pub whole : length es ≡ length ws
  pub listed : AllByRecursion (λ e. (e.place < length ws) × (start_at starts e.place ≡ e.start)) es
  pub once : Once es
  pub ascending : Ascending p es
