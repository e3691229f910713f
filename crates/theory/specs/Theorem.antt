-- The scheduling theorem: for every pace from 1 and every list of windows the method is right.
use Rattle.std.specs.Prelude.{◌≡◌, ℕ, ◌<◌, List, map, length, ℤ, pos, neg_ℤ, ◌≤ℤ◌, is_some, Some, None, Decides, slice_set}
use Rattle.field.specs.declared.window.Window.{Window}
use Rattle.field.specs.Windows.{window}
use Rattle.field.specs.Reversed.{turned}
use Rattle.theory.specs.declared.span.Span.{Span}
use Rattle.theory.specs.Orders.{In, OrderOfPlay, Possible, window_at, start_at}
use Rattle.theory.specs.Closed.{Outside}
use Rattle.theory.specs.Method.{forbidden}
use Rattle.theory.specs.Written.{written}

-- soundness: in every order of play no start lies in a closed span
abbrev pub Sound : Type 0
Sound =
    (p : ℤ) (ws : List Window) →
    pos 1 ≤ℤ p →
    (f : List Span) →
    forbidden p ws ≡ Some f →
    (xs : List ℤ) →
    OrderOfPlay p ws xs →
    (i : ℕ) →
    i < length ws →
    Outside f (start_at xs i)

-- where the method fails there is no order of play
abbrev pub FailsRightly : Type 0
FailsRightly = (p : ℤ) (ws : List Window) → pos 1 ≤ℤ p → forbidden p ws ≡ None → Possible p ws → ⊥

-- completeness: where it does not fail, the written order is an order of play
abbrev pub Complete : Type 0
Complete = (p : ℤ) (ws : List Window) → pos 1 ≤ℤ p → (f : List Span) → forbidden p ws ≡ Some f → OrderOfPlay p ws (written p f ws)

-- so the method fails exactly when no order of play exists
abbrev pub Decided : Type 0
Decided = (p : ℤ) (ws : List Window) → pos 1 ≤ℤ p → Decides (is_some (forbidden p ws)) (Possible p ws)

-- duality: the orders of play of the reversed field are the negated ones of the field
abbrev pub Turned : Type 0
Turned =
    (p : ℤ) (ws : List Window) (xs : List ℤ) →
    (OrderOfPlay p ws xs → OrderOfPlay p (map turned ws) (map neg_ℤ xs)) × (OrderOfPlay p (map turned ws) xs → OrderOfPlay p ws (map neg_ℤ xs))

-- the field with the window of place i cut to early..x
abbrev pub cut : List Window → ℕ → ℤ → List Window
cut ws i x = slice_set ws i (window (window_at ws i).early x)

-- a window that is cut less leaves the orders of play that it left
abbrev pub CutStaysPossible : Type 0
CutStaysPossible =
    (p : ℤ) (ws : List Window) (i : ℕ) (x y : ℤ) →
    i < length ws →
    x ≤ℤ y →
    y ≤ℤ (window_at ws i).late →
    Possible p (cut ws i x) →
    Possible p (cut ws i y)

-- x is the least start that an order of play gives place i
abbrev pub First : ℤ → List Window → ℕ → ℤ → Type 0
First p ws i x = ((xs : List ℤ) × OrderOfPlay p ws xs × (start_at xs i ≡ x)) × ((xs : List ℤ) → OrderOfPlay p ws xs → x ≤ℤ start_at xs i)

-- x is the greatest start that an order of play gives place i
abbrev pub Last : ℤ → List Window → ℕ → ℤ → Type 0
Last p ws i x = ((xs : List ℤ) × OrderOfPlay p ws xs × (start_at xs i ≡ x)) × ((xs : List ℤ) → OrderOfPlay p ws xs → start_at xs i ≤ℤ x)

-- x is the least time of its window to which place i can be cut
abbrev pub Shortest : ℤ → List Window → ℕ → ℤ → Type 0
Shortest p ws i x = In (window_at ws i) x × Possible p (cut ws i x) × ((y : ℤ) → In (window_at ws i) y → Possible p (cut ws i y) → x ≤ℤ y)

-- the least time to which a place can be cut is its first start
abbrev pub LeastCutIsFirst : Type 0
LeastCutIsFirst = (p : ℤ) (ws : List Window) (i : ℕ) (x : ℤ) → i < length ws → (First p ws i x → Shortest p ws i x) × (Shortest p ws i x → First p ws i x)

-- the last start of a place is minus its first start in the reversed field
abbrev pub LastIsFirstTurned : Type 0
LastIsFirstTurned =
    (p : ℤ) (ws : List Window) (i : ℕ) (x : ℤ) →
    i < length ws →
    (Last p ws i x → First p (map turned ws) i (neg_ℤ x)) × (First p (map turned ws) i (neg_ℤ x) → Last p ws i x)
