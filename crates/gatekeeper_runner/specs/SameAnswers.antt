-- Equal lines have equal answers.
use Rattle.std.specs.Prelude.{◌≡◌, ◌≢◌, ℕ, List, Option, Ok}
use Rattle.host.specs.FileSystem.{FileSystem}
use Rattle.policy_glue.specs.OneImage.{OneImage}
use Rattle.line_answers.specs.Lines.{no_memory_text}
use Rattle.gatekeeper_runner.specs.Cluster.Lines.{AnswersClusterLine}
use Rattle.gatekeeper_runner.specs.Cluster.Starting.{AnsweringCluster, ClusterStarts}
use Rattle.gatekeeper_runner.specs.Policies.Lines.{AnswersReviewLine}
use Rattle.gatekeeper_runner.specs.Orders.{ClusterOrder}
use Rattle.gatekeeper_runner.specs.Policies.Together.{Gatekeeper}

-- two answers to one line are the same if neither reports a failed allocation
abbrev pub LinesHaveOneAnswer : Type 0
LinesHaveOneAnswer = (t : Gatekeeper) (line a b : List ℕ) → a ≢ no_memory_text → b ≢ no_memory_text
    → AnswersReviewLine OneImage t line a → AnswersReviewLine OneImage t line b → a ≡ b

-- so are two answers of a cluster that was read from files, under the same condition
abbrev pub ClusterLinesHaveOneAnswer : Type 0
ClusterLinesHaveOneAnswer = (known : Option FileSystem) (order : ClusterOrder) (c : AnsweringCluster) (line a b : List ℕ)
    → ClusterStarts known order (Ok c) → a ≢ no_memory_text → b ≢ no_memory_text
    → AnswersClusterLine OneImage c line a → AnswersClusterLine OneImage c line b → a ≡ b
