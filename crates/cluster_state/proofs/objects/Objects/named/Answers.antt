-- Proofs of `objects::Objects::named`: the result meets the contract.

use Rattle.cluster_state.proofs.Prelude.{◌∙◌, [], ap, option_map_or}
use Rattle.cluster_state.proofs.Placed.{copied_or}
use Rattle.cluster_state.proofs.objects.Objects.named.Goals as goal

pub returns : goal.returns
returns c =
    copied_or (λ m. m.entries) c.get.result ∙ ap (λ o. option_map_or (λ m. m.entries) o []) c.get.ensures.value
