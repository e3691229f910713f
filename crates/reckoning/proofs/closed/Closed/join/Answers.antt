use Rattle.std.proofs.Common.{[], ◌∷◌, sym, subst, reverse}
use Rattle.std.proofs.ByRecursion.{All-append}
use Rattle.std.specs.List.{AllByRecursion}
use Rattle.reckoning.specs.Values.{Falling, Fit}
use Rattle.reckoning.proofs.Lookups.{falling_push}
use Rattle.reckoning.proofs.closed.Closed.join.Goals as goal

pub invariant_of-self : goal.invariant_of-self
invariant_of-self c = record {
  falling = subst (λ z. Falling (reverse z)) (sym c.push.ensures.items) (falling_push _ _ c.requires.before c.args.self.now.falling);
  fit = subst (AllByRecursion Fit) (sym c.push.ensures.items) (All-append Fit _ (c.args.span ∷ []) c.args.self.now.fit (c.requires.fit, tt));
}
