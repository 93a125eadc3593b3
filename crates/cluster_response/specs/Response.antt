-- The response to a review by the events of its dispatch (AdmissionReview, admission.k8s.io/v1): compact JSON with keys in
-- byte order.
use Rattle.std.specs.Prelude.{ℕ, List, [], ◌∷◌, map, Option, Some, None, codes, is_none, option_map, if◌then◌else◌}
use Rattle.serde_json.specs.Data as json
use Rattle.serde_json.specs.View.{items_of}
use Rattle.serde_json.specs.Written.{compact_text}
use Rattle.admission_documents.specs.Requests.{Request}
use Rattle.verdicts.specs.Response.{review_tree, status_tree}
use Rattle.cluster_plan.specs.Steps.{absent_text}
use Rattle.cluster_response.specs.Annotations.{annotation_text}
use Rattle.cluster_response.specs.Events.{ClusterAudit, ClusterDenial, Event, EventSummary, Undecided, summary_of}
use Rattle.cluster_response.specs.Messages.{denied_message}
use Rattle.cluster_response.specs.Refusals.{cluster_refusal_code}

-- ---- parts

-- the status where the request's namespace is not found
abbrev pub not_found_status : List ℕ → json.Data
not_found_status namespace = json.object
    (json.member (codes "code") (json.number (json.unsigned 404))
    (json.member (codes "message") (json.string (absent_text namespace))
    (json.member (codes "reason") (json.string (codes "NotFound")) json.no_members)))

-- the status of a denial
abbrev pub denial_status : Request → ClusterDenial → json.Data
denial_status q d = status_tree (denied_message q d) d.reason

-- the annotations of a failure that is audited
abbrev pub annotations_tree : ClusterAudit → json.Data
annotations_tree a = json.object
    (json.member (codes "validation.policy.admission.k8s.io/validation_failure") (json.string (annotation_text a)) json.no_members)

-- a list of texts
abbrev pub texts_tree : List (List ℕ) → json.Data
texts_tree ts = json.array (items_of (map json.string ts))

-- a list of texts, unless there are none
abbrev pub if_texts : List (List ℕ) → Option json.Data
if_texts [] = None
if_texts (t ∷ ts) = Some (texts_tree (t ∷ ts))

-- a member before others, if it has a value
abbrev pub if_member : List ℕ → Option json.Data → json.Members → json.Members
if_member name None members = members
if_member name (Some d) members = json.member name d members

-- ---- the response

-- a decision by its parts: the request is allowed if there is no status
abbrev pub decision_from : Option json.Data → Option json.Data → List ℕ → Option json.Data → json.Data
decision_from annotations status uid warnings = json.object
    (json.member (codes "allowed") (json.boolean (is_none status))
    (if_member (codes "auditAnnotations") annotations
    (if_member (codes "status") status
    (json.member (codes "uid") (json.string uid)
    (if_member (codes "warnings") warnings json.no_members)))))

-- the decision with this status
abbrev pub decision_tree : Option json.Data → List ℕ → EventSummary → json.Data
decision_tree status uid s = decision_from (option_map annotations_tree s.audit) status uid (if_texts s.warnings)

-- no decision, because a policy does not decide
abbrev pub undecided_tree : Undecided → List ℕ → json.Data
undecided_tree r uid = json.object
    (json.member (codes "policy") (json.string r.policy)
    (json.member (codes "refused") (json.string (cluster_refusal_code r.refusal))
    (json.member (codes "uid") (json.string uid) json.no_members)))

-- why the request is not allowed: its namespace is not found, or else the first denial
abbrev pub status_of : Request → EventSummary → Option json.Data
status_of q s = if s.ended then Some (not_found_status q.attributes.namespace) else option_map (denial_status q) s.denial

-- the answer: a status decides first, then a policy that does not decide
abbrev pub answer_by : Option json.Data → Option Undecided → List ℕ → EventSummary → json.Data
answer_by (Some status) r uid s = review_tree (decision_tree (Some status) uid s)
answer_by None (Some r) uid s = undecided_tree r uid
answer_by None None uid s = review_tree (decision_tree None uid s)

-- the answer to a request with this uid
abbrev pub answer_tree : Request → List ℕ → EventSummary → json.Data
answer_tree q uid s = answer_by (status_of q s) s.undecided uid s

-- the text of the answer by what counts of the events
abbrev pub summary_response : Request → List ℕ → EventSummary → List ℕ
summary_response q uid s = compact_text (answer_tree q uid s)

-- the text of the answer by the events
unfoldable pub cluster_response : Request → List ℕ → List Event → List ℕ
cluster_response q uid es = summary_response q uid (summary_of es)
