use Rattle.theory.proofs.Closed.{greatest_le, greatest_out, greatest_most, least_ge, least_out, least_least, fits_back, back_fits, forward_fits, fits_forward}
use Rattle.std.proofs.Common.{suc}
use Rattle.theory.proofs.lookups.lookups_are_exact.Goals as goal

pub returns : goal.returns
returns c =
    record {
      extremal =
          λ f t. (
            record { bound = greatest_le f t; out = greatest_out f t; most = greatest_most f t },
            record { bound = least_ge f t; out = least_out f t; least = least_least f t },
          );
      adjoint = λ p f e l q h. ((λ k. back_fits p h f l q e (fits_forward p h f l q e k)), (λ k. forward_fits p h f l q e (fits_back p h f l (suc q) e k)));
    }
