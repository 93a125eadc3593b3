-- The text of a line as a cluster decides it.
use Rattle.gatekeeper_runner.proofs.Prelude.{◌≡◌, ℕ, Bool, Limits, List, Option, sym, subst, OneImage, too_long_text}
use Rattle.streams.specs.Streams.{Stream}
use Rattle.line_answers.specs.Lines.{AnswersInputLine}
use Rattle.line_answers.proofs.Meaning.{line_gives}
use Rattle.admission.specs.declared.language.Language.{Language}
use Rattle.cluster_state.specs.State.{ClusterState}
use Rattle.cluster_gate.specs.Dispatch.{DecidesInCluster}
use Rattle.gatekeeper_runner.proofs.LineEnds.{ends_gives}
use Rattle.gatekeeper_runner.specs.Endings.{EndsLines}
use Rattle.gatekeeper_runner.specs.Cluster.Lines.{AnswersClusterLine, DecidesAsCluster, DecidesClusterLine, IsKeeperOf, decides, decision_text}
use Rattle.gatekeeper_runner.specs.Cluster.Starting.{AnsweringCluster}
use Rattle.gatekeeper_runner.specs.declared.cluster.keeper.ClusterKeeper.{ClusterKeeper}

pub cluster_decided : (l : Language) (s : ClusterState) (limits : Limits) (line text : List ℕ) (decision : Option (List ℕ)) → DecidesInCluster l OneImage s line limits decision
    → text ≡ decision_text line decision → DecidesClusterLine l OneImage s limits line text
cluster_decided l s limits line text decision by is = subst (DecidesClusterLine l OneImage s limits line) (sym is) (decides {decision = decision} by)

-- the lines are answered as the cluster of this state does
pub as_cluster : (c : AnsweringCluster) (k : ClusterKeeper) → IsKeeperOf c k → (verbose reports : Bool) (r r_after w w_after e e_after : Stream) (status : ℕ)
    → EndsLines verbose reports (AnswersInputLine c.max_line too_long_text (DecidesAsCluster OneImage k)) r r_after w w_after e e_after status
    → EndsLines verbose reports (AnswersClusterLine OneImage c) r r_after w w_after e e_after status
as_cluster c k keeps verbose reports r r_after w w_after e e_after status ends =
    let gives = line_gives c.max_line too_long_text (DecidesAsCluster OneImage k) (DecidesClusterLine c.language OneImage c.state k.limits) (λ line text by. by c.language c.state keeps.of_state) in
    rw (← keeps.limits) (ends_gives _ _ gives r r_after w w_after verbose reports e e_after status ends)
