-- A test that each window passes.
use Rattle.std.proofs.Common.{◌≡◌, Bool, true, ◌&&◌, List, [], ◌∷◌, pos, negsuc}
use lib.Signed.{le_z}
use Rattle.std.specs.List.{AllByRecursion}
use Rattle.std.proofs.ByRecursion.{All-weaker}
use Rattle.std.proofs.lemmas.Bool.{and_parts}
use Rattle.field.specs.declared.window.Window.{Window}
use Rattle.theory.proofs.Closed.{leZ_true}
use Rattle.reckoning.specs.Questions.{every, timed}
use Rattle.reckoning.specs.Values.{Timed}

pub all_every : (t : Window → Bool) (ws : List Window) → every t ws ≡ true → AllByRecursion (λ w. t w ≡ true) ws
all_every t [] h = tt
all_every t (w ∷ ws) h = let p = and_parts (t w) (every t ws) h in (p.0, all_every t ws p.1)

pub timed_all : (ws : List Window) → every timed ws ≡ true → AllByRecursion Timed ws
timed_all ws h = All-weaker (λ w. timed w ≡ true) Timed each ws (all_every timed ws h)
  where
    each : (w : Window) → timed w ≡ true → Timed w
    each w e =
        let a = le_z (negsuc 86399) w.early in
        let b = le_z w.early (pos 86400) in
        let c = le_z (negsuc 86399) w.late in
        let d = le_z w.late (pos 86400) in
        let p = and_parts (a && b) (c && d) e in
        let q = and_parts a b p.0 in
        let r = and_parts c d p.1 in
        (leZ_true (negsuc 86399) w.early q.0, leZ_true w.early (pos 86400) q.1, leZ_true (negsuc 86399) w.late r.0, leZ_true w.late (pos 86400) r.1)
