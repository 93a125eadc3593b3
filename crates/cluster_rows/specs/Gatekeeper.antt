-- What the program gatekeeper writes, as the pages on the gatekeeper and on clusters describe it: refusals of lines,
-- joined decisions, and its lines on a cluster's policies.
use Rattle.std.specs.Prelude.{◌≡◌, ℕ, true, false, List, [], ◌∷◌, ◌++◌, Option, Some, None, Result, Ok, Err, String, codes, string_bytes}
use Rattle.std.specs.declared.alloc.Global.{Global}
use Rattle.serde_json.specs.Data as json
use Rattle.serde_json.specs.Read.{read}
use Rattle.policy_glue.specs.Rejections.{Rejection}
use Rattle.policy_glue.specs.declared.policy_error.PolicyError.TheVariants.{NotJson}
use Rattle.policy_glue.specs.declared.reason.Reason.{Reason}
use Rattle.policy_glue.specs.declared.reason.Reason.TheVariants.{Forbidden, Invalid}
use Rattle.streams.specs.declared.session_error.SessionError.TheVariants as session_error
use Rattle.cli.specs.declared.refusal.Refusal.TheVariants as refusal
use Rattle.admission.specs.Decisions.{Decision}
use Rattle.admission.specs.declared.language.Language.TheVariants.{Profile}
use Rattle.admission.specs.declared.policy_refusal.PolicyRefusal.TheVariants.{Unread}
use Rattle.admission.specs.declared.run_error.RunError.{RunError}
use Rattle.admission.specs.declared.run_error.RunError.TheVariants as run_error
use Rattle.admission.specs.declared.wide_refusal.WideRefusal.TheVariants as wide_refusal
use Rattle.admission_documents.specs.Matching.{match_all}
use Rattle.cluster_state.specs.Bindings.{Binding}
use Rattle.cluster_state.specs.Objects.{no_objects}
use Rattle.cluster_state.specs.Policies.{BoundPolicy}
use Rattle.cluster_state.specs.Rows.{config_kind}
use Rattle.cluster_state.specs.State.{ClusterState}
use Rattle.cluster_state.specs.declared.action.Action.TheVariants.{Deny}
use Rattle.cluster_state.specs.declared.state_error.StateError.TheVariants.{NotAList, InvalidItem, DuplicateItem}
use Rattle.cluster_state.specs.declared.binding_part.BindingPart.TheVariants.{PolicyName, ValidationActions}
use Rattle.cluster_state.specs.declared.state_error.StateError.TheVariants.{NoNamespace, InvalidBinding}
use Rattle.cluster_state.specs.declared.state_error.StateError.TheVariants.{InvalidPolicy, Memory}
use Rattle.wide_policy.specs.declared.wide_policy_error.WidePolicyError.TheVariants.{HasAuditAnnotations}
use Rattle.cluster_gate.specs.declared.block_cause.BlockCause.TheVariants.{Refused, NamesNamespace, UnknownParamKind}
use Rattle.gatekeeper_runner.specs.Endings.{ending_of}
use Rattle.gatekeeper_runner.specs.Cluster.Lines.{decision_text}
use Rattle.gatekeeper_runner.specs.Cluster.Starting.{cause_code, cause_text, code_and_name, fault_line, fault_text, state_text}
use Rattle.gatekeeper_runner.specs.Cluster.Telling.{block_text, params_text, policy_line}
use Rattle.host.specs.declared.file_failure.FileFailure.TheVariants.{NotFound, PermissionDenied, IsADirectory, Other}
use Rattle.gatekeeper_runner.specs.FileFaults.{file_text}
use Rattle.gatekeeper_runner.specs.Policies.Lines.{answer_text}
use Rattle.gatekeeper_runner.specs.Refusals.{refusal_text, too_long_text, uid_shown, Refused as RefusedReview}
use Rattle.gatekeeper_runner.specs.Policies.Together.{PolicyResult, and_also, joined, rejections, told_refusal}
use Rattle.gatekeeper_runner.specs.declared.cluster_fault.ClusterFault.TheVariants.{NoList, NoState, Blocked, InFile}
use Rattle.gatekeeper_runner.specs.declared.file_fault.FileFault.{FileFault}
use Rattle.gatekeeper_runner.specs.declared.file_fault.FileFault.TheVariants as file_fault

-- ---- lines

-- the review with uid u1 is refused because of its form
abbrev pub no_review : RefusedReview
no_review = record { error = run_error.ReviewRefused; policy = None }

pub record GatekeeperLinesHold : Type 0 where
  pub refused : refusal_text no_review (Some (codes "u1")) ≡ codes "{\"refused\":\"N2\",\"uid\":\"u1\"}"
  pub refused_without_uid : refusal_text (record { error = run_error.NamespaceOrParamsRefused; policy = None }) None
      ≡ codes "{\"refused\":\"N3\"}"
  pub refused_by_policy : refusal_text
      (record {
        error = run_error.OutOfSteps;
        policy = Some (record { name = codes "a.json"; failure_policy = codes "Fail" });
      }) (Some (codes "u1"))
      ≡ codes "{\"refused\":\"N4\",\"uid\":\"u1\",\"policy\":\"a.json\",\"failurePolicy\":\"Fail\"}"
  pub too_long : too_long_text ≡ codes "{\"refused\":\"N2\"}"
  pub uid : uid_shown (read (codes "{\"request\":{\"uid\":\"u1\"}}")) ≡ Some (codes "u1")
  pub number_as_uid : uid_shown (read (codes "{\"request\":{\"uid\":1}}")) ≡ None
  pub answered_line : answer_text (codes "{}") (Ok (record { rejection = None; uid = codes "u1" }))
      ≡ codes "{\"apiVersion\":\"admission.k8s.io/v1\",\"kind\":\"AdmissionReview\",\"response\":{\"allowed\":true,\"uid\":\"u1\"}}"
  pub refused_line : answer_text (codes "{\"request\":{\"uid\":\"u2\"}}") (Err no_review) ≡ codes "{\"refused\":\"N2\",\"uid\":\"u2\"}"
  pub decision_in_a_cluster : decision_text (codes "{}") (Some (codes "{\"a\":1}")) ≡ codes "{\"a\":1}"
  pub no_review_in_a_cluster : decision_text (codes "{\"request\":{\"uid\":\"u2\"}}") None ≡ codes "{\"refused\":\"N2\",\"uid\":\"u2\"}"
  -- status 1 exactly with --status, if all lines were answered and some answer does not allow
  pub all_answered : ending_of false (Ok true) ≡ Ok 0
  pub some_denied : ending_of false (Ok false) ≡ Ok 0
  pub all_allowed : ending_of true (Ok true) ≡ Ok 0
  pub some_denied_with_status : ending_of true (Ok false) ≡ Ok 1
  pub unread : ending_of false (Err session_error.ReadFailed) ≡ Err refusal.Input
  pub unwritten : ending_of false (Err session_error.WriteFailed) ≡ Err refusal.Output
  pub unread_with_status : ending_of true (Err session_error.ReadFailed) ≡ Err refusal.Input
  pub unwritten_with_status : ending_of true (Err session_error.WriteFailed) ≡ Err refusal.Output

-- ---- several policies

abbrev pub rejects : List ℕ → Reason → Rejection
rejects message reason = record { message = message; reason = reason }

-- the policy in this file, which has no name, with its result
abbrev pub result_of : List ℕ → Result Decision RunError → PolicyResult
result_of file result = record { policy = record { file = file; language = Profile; document = codes "{}" }; result = result }

abbrev pub allowing : PolicyResult
allowing = result_of (codes "a.json") (Ok (record { rejection = None; uid = codes "u1" }))

-- the policy in this file rejects with this message
abbrev pub rejecting : List ℕ → List ℕ → Reason → PolicyResult
rejecting file message reason = result_of file (Ok (record { rejection = Some (rejects message reason); uid = codes "u1" }))

abbrev pub endless : List ℕ → PolicyResult
endless file = result_of file (Err run_error.OutOfSteps)

-- a policy under Ignore in this file does not end in its steps
abbrev pub ignoring : List ℕ → PolicyResult
ignoring file = record {
  policy = record { file = file; language = Profile; document = codes "{\"spec\":{\"failurePolicy\":\"Ignore\"}}" };
  result = Err run_error.OutOfSteps;
}

abbrev pub ignored_by : List ℕ → RefusedReview
ignored_by file = record { error = run_error.OutOfSteps; policy = Some (record { name = file; failure_policy = codes "Ignore" }) }

-- the refusal by the policy in this file, which has no failure policy of its own
abbrev pub refused_by : List ℕ → RefusedReview
refused_by file = record { error = run_error.OutOfSteps; policy = Some (record { name = file; failure_policy = codes "Fail" }) }

abbrev pub first_reason : Rejection
first_reason = rejects (codes "m") Forbidden

-- messages are joined in the order of policies, with the reason of the first; a rejection comes before any refusal
pub record TogetherRowsHold : Type 0 where
  pub none_and_one : and_also None (Some first_reason) ≡ Some first_reason
  pub one_and_none : and_also (Some first_reason) None ≡ Some first_reason
  pub two : and_also (Some first_reason) (Some (rejects (codes "n") Invalid)) ≡ Some (rejects (codes "m; n") Forbidden)
  pub of_all :
      rejections (allowing ∷ rejecting (codes "b.json") (codes "m") Forbidden ∷ endless (codes "c.json")
      ∷ rejecting (codes "d.json") (codes "n") Invalid ∷ [])
      ≡ Some (rejects (codes "m; n") Forbidden)
  pub of_none : rejections (allowing ∷ endless (codes "c.json") ∷ []) ≡ None
  pub first_refusal : told_refusal (allowing ∷ endless (codes "b.json") ∷ endless (codes "c.json") ∷ [])
      ≡ Some (refused_by (codes "b.json"))
  pub no_refusal : told_refusal (allowing ∷ []) ≡ None
  -- the first under Fail, else the first
  pub fail_after_ignore : told_refusal (ignoring (codes "a.json") ∷ endless (codes "b.json") ∷ endless (codes "c.json") ∷ [])
      ≡ Some (refused_by (codes "b.json"))
  pub fail_before_ignore : told_refusal (endless (codes "a.json") ∷ ignoring (codes "b.json") ∷ []) ≡ Some (refused_by (codes "a.json"))
  pub ignore_alone : told_refusal (ignoring (codes "a.json") ∷ ignoring (codes "b.json") ∷ allowing ∷ [])
      ≡ Some (ignored_by (codes "a.json"))
  pub rejected : joined (Some first_reason) (Some no_review) (codes "u1") ≡ Ok (record { rejection = Some first_reason; uid = codes "u1" })
  pub refused : joined None (Some no_review) (codes "u1") ≡ Err no_review
  pub allowed : joined None None (codes "u1") ≡ Ok (record { rejection = None; uid = codes "u1" })

-- ---- clusters

pub record FaultLineRowsHold : Type 0 where
  pub no_list : state_text (NotAList 0) ≡ codes "C1 0"
  pub no_item : state_text (InvalidItem 3) ≡ codes "C2 3"
  pub no_namespace : state_text NoNamespace ≡ codes "C4"
  pub no_memory : state_text Memory ≡ codes "memory"
  pub line : fault_line (NoState NoNamespace) ≡ codes "celbpf: C4\n"
  pub name : code_and_name (codes "C1") (codes "c.json") ≡ codes "C1 c.json"
  pub refused : cause_text (Refused (Unread NotJson)) ≡ codes " K1"
  pub names_namespace : cause_text NamesNamespace ≡ codes " namespaceObject"
  pub unknown_kind : cause_text UnknownParamKind ≡ []
  pub code_of_a_refused_policy : cause_code (Refused (Unread NotJson)) ≡ codes "C7"
  pub code_of_a_name : cause_code NamesNamespace ≡ codes "C7"
  pub code_of_a_kind : cause_code UnknownParamKind ≡ codes "C8"
  pub missing_file : file_text (codes "p.json") (file_fault.Unread NotFound) ≡ codes "p.json: not found"
  pub forbidden_file : file_text (codes "p.json") (file_fault.Unread PermissionDenied) ≡ codes "p.json: permission denied"
  pub directory : file_text (codes "p.json") (file_fault.Unread IsADirectory) ≡ codes "p.json: is a directory"
  pub unread_file : file_text (codes "p.json") (file_fault.Unread Other) ≡ codes "p.json: cannot be read"
  pub refused_file : file_text (codes "p.json") (file_fault.Refused (Unread NotJson)) ≡ codes "p.json: K1"
  pub refused_wide_file : file_text (codes "p.json") (file_fault.RefusedWide (wide_refusal.Unread HasAuditAnnotations))
      ≡ codes "p.json: K3 auditAnnotations"
  pub no_memory_for_a_file : file_text (codes "p.json") file_fault.Memory ≡ codes "memory"

-- the texts with a name, for every name
pub record FaultNameRowsHold : Type 0 where
  pub duplicate : (name : String Global) → state_text (DuplicateItem name) ≡ codes "C3 " ++ string_bytes name
  pub binding : (name : String Global) → state_text (InvalidBinding name ValidationActions)
      ≡ (codes "C5 " ++ string_bytes name) ++ codes ": spec.validationActions"
  pub binding_of_no_policy : (name : String Global) → state_text (InvalidBinding name PolicyName)
      ≡ (codes "C5 " ++ string_bytes name) ++ codes ": spec.policyName"
  pub policy : (name : String Global) → state_text (InvalidPolicy name) ≡ codes "C6 " ++ string_bytes name
  pub no_list : (name : String Global) → fault_text (NoList name) ≡ codes "C1 " ++ string_bytes name
  pub no_kind : (name : String Global) → fault_text (Blocked name UnknownParamKind) ≡ (codes "C8 " ++ string_bytes name) ++ []
  pub named : (name : String Global) → fault_text (Blocked name NamesNamespace)
      ≡ (codes "C7 " ++ string_bytes name) ++ codes " namespaceObject"
  pub in_file : (name : String Global) (fault : FileFault) → fault_text (InFile name fault) ≡ file_text (string_bytes name) fault

-- two lists: two maps of configuration, and objects of another kind, of another version, and of neither
abbrev pub listed : Option json.Data → Option json.Data → List json.Data
listed (Some l) (Some m) = l ∷ m ∷ []
listed _ _ = []

abbrev pub lists : List json.Data
lists = listed
    (read (codes "{\"items\":[{\"apiVersion\":\"v1\",\"kind\":\"ConfigMap\"},{\"apiVersion\":\"v1\",\"kind\":\"Pod\"},{\"apiVersion\":\"v2\",\"kind\":\"ConfigMap\"}]}"))
    (read (codes "{\"items\":[{\"apiVersion\":\"v1\",\"kind\":\"ConfigMap\"},{\"apiVersion\":\"v1\"},{\"kind\":\"ConfigMap\"},{}]}"))

-- a binding of this name to the policy of this name
abbrev pub binding : List ℕ → List ℕ → Binding
binding name policy = record { name = name; policy_name = policy; actions = Deny ∷ []; resources = match_all; param_ref = None }

-- the policy p, which has params
abbrev pub with_params : BoundPolicy
with_params = record { name = codes "p"; document = json.null; constraints = match_all; param_kind = Some config_kind }

-- bindings of p and of q
abbrev pub bound : ClusterState
bound = record {
  items = [];
  objects = no_objects;
  bindings = binding (codes "a") (codes "p") ∷ binding (codes "b") (codes "q") ∷ binding (codes "c") (codes "p") ∷ [];
  policies = with_params ∷ [];
}

-- the line on a policy: its bindings, its kind of params with the number of those listed, and why it is blocked
pub record TellingRowsHold : Type 0 where
  pub params : params_text lists (Some config_kind) ≡ codes ", params v1 ConfigMap 2"
  pub no_params : params_text lists None ≡ []
  pub not_blocked : block_text None ≡ []
  pub blocked : block_text (Some (Refused (Unread NotJson))) ≡ codes ", blocked C7 K1"
  pub blocked_by_a_name : block_text (Some NamesNamespace) ≡ codes ", blocked C7 namespaceObject"
  pub blocked_by_its_kind : block_text (Some UnknownParamKind) ≡ codes ", blocked C8"
  pub line : policy_line lists bound with_params None ≡ codes "gatekeeper: policy p, bindings a c, params v1 ConfigMap 2\n"
  pub line_of_a_blocked_policy : policy_line lists bound (record with_params { param_kind = None }) (Some NamesNamespace)
      ≡ codes "gatekeeper: policy p, bindings a c, blocked C7 namespaceObject\n"
