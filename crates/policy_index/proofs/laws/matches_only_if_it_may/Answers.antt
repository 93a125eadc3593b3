-- Proof obligations of `laws::matches_only_if_it_may`.
use Rattle.policy_index.proofs.Sound.{matches_only_if_it_may}
use Rattle.policy_index.proofs.laws.matches_only_if_it_may.Goals as goal

pub returns : goal.returns
returns c = matches_only_if_it_may
