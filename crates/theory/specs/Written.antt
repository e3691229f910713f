-- The written order: earliest deadline first, outside the closed set.
use Rattle.std.specs.Prelude.{ℕ, zero, suc, Bool, cond, not, ◌&&◌, ◌||◌, List, [], ◌∷◌, map, length, ℤ, pos, ◌+ℤ◌, filter, ◌==◌, int_le, int_lt}
use Rattle.std.specs.Int.{int_min, int_max}
use Rattle.field.specs.declared.window.Window.{Window}
use Rattle.theory.specs.declared.span.Span.{Span}
-- a place with its window, and a place with its start
use Rattle.theory.specs.declared.group.Group.{Group}
use Rattle.theory.specs.declared.group.Played.{Played}
use Rattle.theory.specs.Closed.{least_outside}

-- the groups of a field, by place from i
unfoldable pub by_place : ℕ → List Window → List Group
by_place i [] = []
by_place i (w ∷ ws) = record { place = i; win = w } ∷ by_place (suc i) ws

unfoldable pub least_early : Group → List Group → ℤ
least_early g [] = g.win.early
least_early g (h ∷ hs) = int_min g.win.early (least_early h hs)

-- at t the group g goes before h: it is released, and h is not or has no lesser late
abbrev pub goes_first : ℤ → Group → Group → Bool
goes_first t g h = int_le g.win.early t && (int_lt t h.win.early || int_le g.win.late h.win.late)

-- of the groups with early at most t, the one with the least late; of equal lates, the lowest place
unfoldable pub chosen : ℤ → Group → List Group → Group
chosen t g [] = g
chosen t g (h ∷ hs) = let b = chosen t h hs in cond (goes_first t g b) g b

unfoldable pub without : ℕ → List Group → List Group
without i gs = filter (λ g. not (g.place == i)) gs

-- the groups left are gs, of which there are at most n, and the time is t: it becomes the greater of t and
-- the least early left, and then the least time from there outside the closed set; the chosen group
-- starts, and the time grows by the pace
unfoldable pub play : ℤ → List Span → ℕ → ℤ → List Group → List Played
play p f zero t gs = []
play p f (suc n) t [] = []
play p f (suc n) t (g ∷ gs) =
    let u = least_outside f (int_max t (least_early g gs)) in
    let h = chosen u g gs in
    record { place = h.place; time = u } ∷ play p f n (u +ℤ p) (without h.place (g ∷ gs))

-- all groups, from the least early on
unfoldable pub play_all : ℤ → List Span → List Group → List Played
play_all p f [] = []
play_all p f (g ∷ gs) = play p f (length (g ∷ gs)) (least_early g gs) (g ∷ gs)

-- the start of a place
unfoldable pub time_of : ℕ → List Played → ℤ
time_of i [] = pos 0
time_of i (s ∷ ss) = let more = time_of i ss in cond (i == s.place) s.time more

-- the starts of the written order by place
unfoldable pub written : ℤ → List Span → List Window → List ℤ
written p f ws = map (λ g. time_of g.place (play_all p f (by_place 0 ws))) (by_place 0 ws)
