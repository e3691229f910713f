-- Windows and orders of play.
use Rattle.std.specs.Prelude.{◌≡◌, ℕ, suc, ◌<◌, Bool, cond, ◌&&◌, ◌⊎◌, List, [], ◌∷◌, length, ℤ, pos, ◌+ℤ◌, ◌≤ℤ◌, int_le, slice_index_or}
-- an early and a late start, both included
use Rattle.field.specs.declared.window.Window.{Window}
pub use Rattle.field.specs.Windows.{window_at}

-- x is a start in the window w
pub record In (w : Window) (x : ℤ) : Type 0 where
  pub from : w.early ≤ℤ x
  pub to : x ≤ℤ w.late

-- two starts are at least p apart
abbrev pub Apart : ℤ → ℤ → ℤ → Type 0
Apart p x y = ((x +ℤ p) ≤ℤ y) ⊎ ((y +ℤ p) ≤ℤ x)

abbrev pub start_at : List ℤ → ℕ → ℤ
start_at xs i = slice_index_or xs i (pos 0)

-- each place has a start in its window, and any two places' starts are at least p apart
pub record OrderOfPlay (p : ℤ) (ws : List Window) (xs : List ℤ) : Type 0 where
  pub same : length xs ≡ length ws
  pub within : (i : ℕ) → i < length ws → In (window_at ws i) (start_at xs i)
  pub apart : (i j : ℕ) → i < j → j < length ws → Apart p (start_at xs i) (start_at xs j)

-- some order of play exists
abbrev pub Possible : ℤ → List Window → Type 0
Possible p ws = (xs : List ℤ) × OrderOfPlay p ws xs

-- how many windows pass a test
abbrev pub count : (Window → Bool) → List Window → ℕ
count f [] = 0
count f (w ∷ ws) = cond (f w) (suc (count f ws)) (count f ws)

-- early at least r and late at most l
abbrev pub enclosed : ℤ → ℤ → Window → Bool
enclosed r l w = int_le r w.early && int_le w.late l

-- n(r, l)
abbrev pub counted : List Window → ℤ → ℤ → ℕ
counted ws r l = count (enclosed r l) ws
