-- Proof obligations of `cluster::Cluster::events`.
use Rattle.cluster_gate.proofs.Prelude.{◌∙◌, [], IfOk-weaker, sym}
use Rattle.cluster_gate.specs.Dispatch.{no_policies}
use Rattle.cluster_gate.proofs.cluster.Cluster.events.Goals as goal

pub returns-then-is_exempt : goal.returns-then-is_exempt
returns-then-is_exempt c language s is = rw (sym c.is_exempt.ensures ∙ c.if-is_exempt.true) ([], c.new.ensures, no_policies)

pub returns-else-is_exempt : goal.returns-else-is_exempt
returns-else-is_exempt c =
    IfOk-weaker c.dispatch.result _ _ (λ e h language s is. rw (sym c.is_exempt.ensures ∙ c.if-is_exempt.false) (h language s is)) c.dispatch.ensures
