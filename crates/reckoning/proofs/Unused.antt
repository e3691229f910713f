-- No order of play starts a group in a span that is told.
use Rattle.std.proofs.Common.{◌≡◌, ℕ, List, ◌++◌, reverse, length, take, drop, ℤ, pos, ◌≤ℤ◌, Some, sym, ap, ◌∙◌, subst, arith}
use Rattle.std.proofs.ByRecursion.{All-get_or}
use Rattle.std.proofs.lemmas.List.{reverse-reverse, take_at}
use Rattle.std.specs.List.{AllByRecursion}
use Rattle.field.specs.declared.window.Window.{Window}
use Rattle.theory.specs.declared.span.Span.{Span}
use Rattle.theory.specs.Orders.{start_at}
use Rattle.theory.specs.Closed.{Off, Outside}
use Rattle.theory.specs.Method.{forbidden}
use Rattle.theory.proofs.Sound.{Good, good}
use Rattle.reckoning.specs.Spans.{Unused}
use Rattle.reckoning.proofs.Lookups.{all_reverse}

found_unused : (p : ℤ) (ws : List Window) (ss : List Span) → pos 1 ≤ℤ p → forbidden p ws ≡ Some (reverse ss) → Unused p ws ss
found_unused p ws ss h e xs o i k =
    let out = All-get_or (Outside (reverse ss)) xs i (pos 0) (omega (arith, o.same)) (subst (Good xs) e (good p ws xs h o)) in
    subst (AllByRecursion (Off (start_at xs i))) (reverse-reverse ss) (all_reverse (Off (start_at xs i)) (reverse ss) out)

pub unused : (p : ℤ) (ws : List Window) (ss before exit : List Span) (n : ℕ) → pos 1 ≤ℤ p → forbidden p ws ≡ Some (reverse ss) → n ≡ length ss → exit ≡ ss ++ drop (length ss) before → Unused p ws (take n exit)
unused p ws ss before exit n h e l d = subst (Unused p ws) (sym (ap (take n) d ∙ take_at ss (drop (length ss) before) n (sym l))) (found_unused p ws ss h e)
