-- The answers that allow a request, as the status of the gatekeeper takes them, are those of decisions that allow it.
use Rattle.std.specs.Prelude.{◌≡◌, ℕ, List, Bool, ◌&&◌, false, Option, is_none}
use Rattle.line_answers.specs.Lines.{line_of, passes}
use Rattle.policy_glue.specs.Rejections.{Rejection, response_text}
use Rattle.admission_documents.specs.Requests.{Request}
use Rattle.cluster_response.specs.Events.{Event, summary_of}
use Rattle.cluster_response.specs.Response.{cluster_response, status_of}
use Rattle.gatekeeper_runner.specs.Refusals.{refusal_text, Refused}

-- the response of policies that decide together passes exactly if they do not reject the request
abbrev pub ResponsesPassIfAllowed : Type 0
ResponsesPassIfAllowed = (rejection : Option Rejection) (uid : List ℕ) → passes (line_of (response_text rejection uid)) ≡ is_none rejection

-- a refusal does not pass
abbrev pub RefusalsDoNotPass : Type 0
RefusalsDoNotPass = (refused : Refused) (uid : Option (List ℕ)) → passes (line_of (refusal_text refused uid)) ≡ false

-- by these events the namespace is found, no policy denies the request, and each decides
abbrev pub is_allowed_by : Request → List Event → Bool
is_allowed_by q es = is_none (status_of q (summary_of es)) && is_none (summary_of es).undecided

-- the answer of a cluster passes exactly if its events allow the request
abbrev pub ClusterAnswersPassIfAllowed : Type 0
ClusterAnswersPassIfAllowed = (q : Request) (uid : List ℕ) (es : List Event)
    → passes (line_of (cluster_response q uid es)) ≡ is_allowed_by q es
