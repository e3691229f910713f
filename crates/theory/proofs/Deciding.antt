-- Where the method does not fail there is an order of play, and only there.
use Rattle.std.proofs.Common.{◌≡◌, ℕ, true, List, ℤ, pos, ◌≤ℤ◌, is_some, Some, None, Option, refl, arith}
use Rattle.field.specs.declared.window.Window.{Window}
use Rattle.theory.specs.declared.span.Span.{Span}
use Rattle.theory.specs.Orders.{Possible}
use Rattle.theory.specs.Method.{forbidden}
use Rattle.theory.specs.Written.{written}
use Rattle.theory.proofs.Sound.{Good, good}
use Rattle.theory.proofs.Complete.{complete}

pub possible_some : (p : ℤ) (ws : List Window) → pos 1 ≤ℤ p → Possible p ws → is_some (forbidden p ws) ≡ true
possible_some p ws pace o = go (forbidden p ws) (good p ws o.0 pace o.1)
  where
    go : (r : Option (List Span)) → Good o.0 r → is_some r ≡ true
    go None g = absurd g
    go (Some f) g = refl

pub some_possible : (p : ℤ) (ws : List Window) → pos 1 ≤ℤ p → is_some (forbidden p ws) ≡ true → Possible p ws
some_possible p ws pace e = go (forbidden p ws) refl e
  where
    go : (r : Option (List Span)) → forbidden p ws ≡ r → is_some r ≡ true → Possible p ws
    go None q k = let y : ◌≡◌ {A = ℕ} 0 1 = cc in absurd (omega arith)
    go (Some f) q k = (written p f ws, complete p pace ws f q)
