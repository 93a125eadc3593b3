-- The answer to a line in a cluster.
use Rattle.std.specs.Prelude.{◌≡◌, ℕ, false, List, Option, Some, None, Result, Ok, Err, string_bytes}
use Rattle.serde_json.specs.Data as json
use Rattle.line_answers.specs.Lines.{AnswersInputLine, LineTexts}
use Rattle.policy_glue.specs.Documents.{document_of}
use Rattle.cli.specs.declared.refusal.Refusal.TheVariants.{Memory}
use Rattle.admission.specs.Standing.{Images}
use Rattle.admission.specs.declared.language.Language.{Language}
use Rattle.admission.specs.declared.limits.Limits.{Limits}
use Rattle.admission.specs.declared.run_error.RunError.{TheVariants.ReviewRefused}
use Rattle.cluster_state.specs.State.{ClusterState}
use Rattle.cluster_gate.specs.Dispatch.{DecidesInCluster}
use Rattle.cluster_gate.specs.Gates.{FirstIsBlocked, IsClusterFor, NoneIsBlocked}
use Rattle.gatekeeper_runner.specs.Cluster.Starting.{AnsweringCluster}
use Rattle.gatekeeper_runner.specs.Refusals.{refusal_text, too_long_text, uid_shown}
use Rattle.gatekeeper_runner.specs.Cluster.Telling.{TellsPolicies}
use Rattle.gatekeeper_runner.specs.Orders.{ClusterOrder}
use Rattle.gatekeeper_runner.specs.declared.cluster_fault.ClusterFault.{TheVariants.Blocked}
use Rattle.gatekeeper_runner.specs.declared.cluster.keeper.ClusterKeeper.{ClusterKeeper}
use Rattle.gatekeeper_runner.specs.declared.start_refusal.StartRefusal.{StartRefusal, TheVariants.Plain, TheVariants.Cluster}

-- the refusal of a line that is not a review
abbrev pub no_review_text : List ℕ → List ℕ
no_review_text line = refusal_text (record { error = ReviewRefused; policy = None }) (uid_shown (document_of line))

-- the text of what is decided about the review in a line, if it is one
abbrev pub decision_text : List ℕ → Option (List ℕ) → List ℕ
decision_text line (Some text) = text
decision_text line None = no_review_text line

-- a line that is read and is not blank, and its text by what the cluster decides, whose policies are read in this language
pub data DecidesClusterLine (l : Language) (chosen : Images) (s : ClusterState) (limits : Limits) (line : List ℕ) : List ℕ → Type 0 where
  decides : {decision : Option (List ℕ)} → DecidesInCluster l chosen s line limits decision
      → DecidesClusterLine l chosen s limits line (decision_text line decision)

-- a line, and what is written for it, which depends on the cluster's state and this line alone
abbrev pub AnswersClusterLine : Images → AnsweringCluster → LineTexts
AnswersClusterLine chosen c = AnswersInputLine c.max_line too_long_text (DecidesClusterLine c.language chosen c.state c.limits)

-- ---- the code's

-- the line is decided by the state of the code's cluster
abbrev pub DecidesAsCluster : Images → ClusterKeeper → List ℕ → List ℕ → Type 0
DecidesAsCluster chosen k line text =
    (l : Language) (s : ClusterState) → IsClusterFor l s k.cluster → DecidesClusterLine l chosen s k.limits line text

-- the code's cluster, and its lines on the policies, are these
pub record IsKeeperOf (c : AnsweringCluster) (k : ClusterKeeper) : Type 0 where
  pub of_state : IsClusterFor c.language c.state k.cluster
  pub limits : k.limits ≡ c.limits
  pub told : TellsPolicies c.language c.lists c.state c.state.policies k.told.items

-- a cluster with this state is opened, or the first blocked policy is the refusal
abbrev pub OpensKeeper : List json.Data → ClusterOrder → ClusterState → Result ClusterKeeper StartRefusal → Type 0
OpensKeeper lists order s (Ok k) =
    IsKeeperOf (record {
      lists = lists;
      language = order.settings.language;
      state = s;
      limits = order.settings.limits;
      max_line = order.settings.max_line;
    }) k
    × (order.partial ≡ false → NoneIsBlocked order.settings.language s s.policies)
OpensKeeper lists order s (Err (Plain r)) = r ≡ Memory
OpensKeeper lists order s (Err (Cluster (Blocked name cause))) =
    (order.partial ≡ false) × FirstIsBlocked order.settings.language s s.policies (string_bytes name) cause
OpensKeeper lists order s (Err (Cluster _)) = ⊥
