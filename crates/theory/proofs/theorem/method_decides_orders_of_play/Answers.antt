use Rattle.std.proofs.Common.{pos, subst, arith}
use Rattle.std.proofs.ByRecursion.{All-get_or}
use Rattle.theory.specs.Closed.{Outside}
use Rattle.theory.proofs.Sound.{Good, good}
use Rattle.theory.proofs.Complete.{complete}
use Rattle.theory.proofs.Deciding.{possible_some, some_possible}
use Rattle.theory.proofs.Turned.{turned_order, unturned_order, last_first, first_last}
use Rattle.theory.proofs.Cutting.{cut_less, first_shortest, shortest_first}
use Rattle.theory.proofs.theorem.method_decides_orders_of_play.Goals as goal

pub returns : goal.returns
returns c =
    record {
      soundness = λ p ws h f e xs o i k. All-get_or (Outside f) xs i (pos 0) (omega (arith, o.same)) (subst (Good xs) e (good p ws xs h o));
      failure = λ p ws h e o. subst (Good o.0) e (good p ws o.0 h o.1);
      completeness = λ p ws h f e. complete p h ws f e;
      decision = λ p ws h. (some_possible p ws h, possible_some p ws h);
      duality = λ p ws xs. (turned_order p ws xs, unturned_order p ws xs);
      cutting = λ p ws i x y h k l o. cut_less p ws i h x y k l o;
      least = λ p ws i x h. (first_shortest p ws i h x, shortest_first p ws i h x);
      last = λ p ws i x h. (last_first p ws i x h, first_last p ws i x h);
    }
