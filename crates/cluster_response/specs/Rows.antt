-- Answers to requests, worked by hand.
use Rattle.std.specs.Prelude.{◌≡◌, ℕ, true, false, List, [], ◌∷◌, ◌++◌, Option, Some, None, codes}
use Rattle.serde_json.specs.Data as json
use Rattle.serde_json.specs.Read.{read}
use Rattle.admission_documents.specs.Matching.{match_all}
use Rattle.admission_documents.specs.Requests.{Request}
use Rattle.admission_match.specs.Requests.{GroupVersionResource}
use Rattle.admission_match.specs.declared.operation.Operation.TheVariants.{Create}
use Rattle.cluster_state.specs.Bindings.{Binding}
use Rattle.cluster_state.specs.declared.action.Action.{Action}
use Rattle.cluster_state.specs.declared.action.Action.TheVariants.{Deny, Warn, Audit}
use Rattle.verdicts.specs.Findings.{PolicyFinding}
use Rattle.verdicts.specs.declared.reason.Reason.{Reason}
use Rattle.verdicts.specs.declared.reason.Reason.TheVariants.{Forbidden, Invalid}
use Rattle.cluster_plan.specs.Quotes.{go_quoted}
use Rattle.cluster_response.specs.Annotations.{html_safe}
use Rattle.cluster_response.specs.Events.{Event, refuses, ends, configuration_event, findings_events}
use Rattle.cluster_response.specs.Messages.{shown_name, shown_resource}
use Rattle.cluster_response.specs.Response.{cluster_response}
use Rattle.cluster_response.specs.declared.cluster_refusal.ClusterRefusal.{ClusterRefusal}
use Rattle.cluster_response.specs.declared.cluster_refusal.ClusterRefusal.TheVariants.{ReviewRefused, NamespaceOrParamsRefused, OutOfSteps, OverLimit, OutOfReads, UnknownMatch, PolicyRefused, UnknownParamKind}

-- ---- requests

abbrev pub deployments : GroupVersionResource
deployments = record { group = codes "apps"; version = codes "v1"; resource = codes "deployments" }

abbrev pub pods : GroupVersionResource
pods = record { group = []; version = codes "v1"; resource = codes "pods" }

-- a request on a resource in prod, with this name and object
abbrev pub request_on : GroupVersionResource → List ℕ → Option json.Data → Request
request_on resource name object = record {
  kind = record { group = resource.group; version = resource.version; kind = codes "K" };
  attributes = record {
    resource = resource;
    subresource = [];
    name = name;
    namespace = codes "prod";
    operation = Create;
    object = None;
    old_object = None;
  };
  object = object;
  old_object = None;
}

abbrev pub web : Request
web = request_on deployments (codes "web") None

-- the name that is shown of a request without a name and with this object
abbrev pub shown_of : List ℕ → List ℕ
shown_of object = shown_name (request_on pods [] (read object))

pub record NameRowsHold : Type 0 where
  pub own : shown_name web ≡ codes "web"
  pub own_first : shown_name (request_on pods (codes "a") (read (codes "{\"metadata\":{\"name\":\"b\"}}"))) ≡ codes "a"
  pub in_object : shown_of (codes "{\"metadata\":{\"name\":\"b\",\"generateName\":\"c-\"}}") ≡ codes "b"
  pub generated : shown_of (codes "{\"metadata\":{\"generateName\":\"c-\"}}") ≡ codes "c-"
  pub empty_name : shown_of (codes "{\"metadata\":{\"name\":\"\",\"generateName\":\"c-\"}}") ≡ codes "c-"
  pub no_name : shown_of (codes "{\"metadata\":{}}") ≡ codes "Unknown"
  pub no_metadata : shown_of (codes "{\"spec\":{}}") ≡ codes "Unknown/errorGettingName"
  pub null_metadata : shown_of (codes "{\"metadata\":null}") ≡ codes "Unknown/errorGettingName"
  pub no_text : shown_of (codes "{\"metadata\":{\"name\":1}}") ≡ codes "Unknown"
  pub no_object : shown_name (request_on pods [] None) ≡ codes "Unknown"
  pub old_object_alone :
      shown_name (record (request_on pods [] None) { old_object = read (codes "{\"metadata\":{\"name\":\"b\"}}") }) ≡ codes "Unknown"
  pub of_a_group : shown_resource deployments ≡ codes "deployments.apps"
  pub of_no_group : shown_resource pods ≡ codes "pods"
  pub quotes : go_quoted (codes "a\"b\\c") ≡ codes "\"a\\\"b\\\\c\""
  pub quotes_of_others : go_quoted (39 ∷ 195 ∷ 164 ∷ []) ≡ 34 ∷ 39 ∷ 195 ∷ 164 ∷ 34 ∷ []
  pub html : html_safe (codes "a<b>&c") ≡ codes "a\\u003cb\\u003e\\u0026c"
  pub separators : html_safe (226 ∷ 128 ∷ 168 ∷ 226 ∷ 128 ∷ 169 ∷ 195 ∷ 164 ∷ []) ≡ codes "\\u2028\\u2029" ++ 195 ∷ 164 ∷ []

-- ---- answers

-- the binding b with these actions
abbrev pub bound : List Action → Binding
bound actions = record { name = codes "b"; policy_name = codes "p"; actions = actions; resources = match_all; param_ref = None }

-- what a validation finds: its place, message and reason
abbrev pub found : ℕ → List ℕ → Reason → PolicyFinding
found index message reason = record { index = index; message = message; reason = reason }

-- the findings of the policy p under these actions
abbrev pub under : List Action → List PolicyFinding → List Event
under actions fs = findings_events (codes "p") (bound actions) fs

abbrev pub twice : List PolicyFinding
twice = found 0 (codes "m") Forbidden ∷ found 1 (codes "n") Invalid ∷ []

-- the answer to the request u1 on web
abbrev pub answer : List Event → List ℕ
answer es = cluster_response web (codes "u1") es

-- a review with this response
abbrev pub reviewed : List ℕ → List ℕ
reviewed response =
    codes "{\"apiVersion\":\"admission.k8s.io/v1\",\"kind\":\"AdmissionReview\",\"response\":" ++ (response ++ codes "}")

-- the annotation of the first finding under Warn and Audit
abbrev pub annotated : List ℕ
annotated =
    codes "\"auditAnnotations\":{\"validation.policy.admission.k8s.io/validation_failure\":\"[{\\\"message\\\":\\\"m\\\",\\\"policy\\\":\\\"p\\\",\\\"binding\\\":\\\"b\\\",\\\"expressionIndex\\\":0,\\\"validationActions\\\":[\\\"Warn\\\",\\\"Audit\\\"]}]\"}"

abbrev pub warning_of_m : List ℕ
warning_of_m = codes "\"Validation failed for ValidatingAdmissionPolicy 'p' with binding 'b': m\""

abbrev pub warning_of_n : List ℕ
warning_of_n = codes "\"Validation failed for ValidatingAdmissionPolicy 'p' with binding 'b': n\""

-- the first denial of p by b
abbrev pub denied_by_m : List ℕ
denied_by_m =
    codes "{\"allowed\":false,\"status\":{\"code\":403,\"message\":\"deployments.apps \\\"web\\\" is forbidden: ValidatingAdmissionPolicy 'p' with binding 'b' denied request: m\",\"reason\":\"Forbidden\"},\"uid\":\"u1\"}"

abbrev pub is_not_found : List ℕ
is_not_found = codes "\"status\":{\"code\":404,\"message\":\"namespaces \\\"prod\\\" not found\",\"reason\":\"NotFound\"},\"uid\":\"u1\""

-- a policy of this name under Fail does not decide, or one under Ignore
abbrev pub under_fail : List ℕ → ClusterRefusal → Event
under_fail policy refusal = refuses (record { policy = policy; fails_closed = true; refusal = refusal })

abbrev pub under_ignore : List ℕ → ClusterRefusal → Event
under_ignore policy refusal = refuses (record { policy = policy; fails_closed = false; refusal = refusal })

-- the policy q does not decide, for this reason
abbrev pub undecided_by : ClusterRefusal → Event
undecided_by refusal = under_fail (codes "q") refusal

-- the line that says so
abbrev pub refused_as : List ℕ → List ℕ
refused_as code = codes "{\"policy\":\"q\",\"refused\":\"" ++ (code ++ codes "\",\"uid\":\"u1\"}")

-- the annotation of a finding, with its message, place and actions
abbrev pub annotation_of : List ℕ → List ℕ → List ℕ → List ℕ
annotation_of message place actions =
    codes "\"auditAnnotations\":{\"validation.policy.admission.k8s.io/validation_failure\":\"[{\\\"message\\\":\\\"" ++ (message
    ++ (codes "\\\",\\\"policy\\\":\\\"p\\\",\\\"binding\\\":\\\"b\\\",\\\"expressionIndex\\\":"
    ++ (place ++ (codes ",\\\"validationActions\\\":[" ++ (actions ++ codes "]}]\"}")))))

pub record AnswerRowsHold : Type 0 where
  pub no_events : answer [] ≡ reviewed (codes "{\"allowed\":true,\"uid\":\"u1\"}")
  pub warned_and_audited : answer (under (Warn ∷ Audit ∷ []) (found 0 (codes "m") Invalid ∷ []))
      ≡ reviewed (codes "{\"allowed\":true," ++ (annotated ++ (codes ",\"uid\":\"u1\",\"warnings\":[" ++ (warning_of_m ++ codes "]}"))))
  pub denied : answer (under (Deny ∷ []) (found 0 (codes "m") Forbidden ∷ [])) ≡ reviewed denied_by_m
  pub two_denials : answer (under (Deny ∷ []) twice) ≡ reviewed denied_by_m
  pub two_warned_and_audited : answer (under (Warn ∷ Audit ∷ []) twice)
      ≡ reviewed (codes "{\"allowed\":true," ++ (annotated ++ (codes ",\"uid\":\"u1\",\"warnings\":["
      ++ (warning_of_m ++ (codes "," ++ (warning_of_n ++ codes "]}"))))))
  pub same_message_twice : answer (under (Warn ∷ []) (found 0 (codes "m") Invalid ∷ found 1 (codes "m") Invalid ∷ []))
      ≡ reviewed (codes "{\"allowed\":true,\"uid\":\"u1\",\"warnings\":[" ++ (warning_of_m ++ codes "]}"))
  pub message_told_again : answer (under (Warn ∷ []) (twice ++ found 2 (codes "m") Invalid ∷ []))
      ≡ reviewed (codes "{\"allowed\":true,\"uid\":\"u1\",\"warnings\":[" ++ (warning_of_m ++ (codes "," ++ (warning_of_n ++ codes "]}"))))
  pub no_namespace : answer (ends ∷ []) ≡ reviewed (codes "{\"allowed\":false," ++ (is_not_found ++ codes "}"))
  pub no_namespace_after_denial : answer (under (Deny ∷ []) twice ++ ends ∷ [])
      ≡ reviewed (codes "{\"allowed\":false," ++ (is_not_found ++ codes "}"))
  pub no_namespace_after_warning : answer (under (Warn ∷ []) (found 0 (codes "m") Invalid ∷ []) ++ ends ∷ [])
      ≡ reviewed (codes "{\"allowed\":false," ++ (is_not_found ++ (codes ",\"warnings\":[" ++ (warning_of_m ++ codes "]}"))))
  pub policy_not_configured : answer (configuration_event (codes "p") None (codes "e") ∷ [])
      ≡ reviewed (codes "{\"allowed\":false,\"status\":{\"code\":422,\"message\":\"deployments.apps \\\"web\\\" is forbidden: ValidatingAdmissionPolicy 'p' denied request: failed to configure policy: e\",\"reason\":\"Invalid\"},\"uid\":\"u1\"}")
  pub binding_not_configured : answer (configuration_event (codes "p") (Some (codes "b")) (codes "e") ∷ [])
      ≡ reviewed (codes "{\"allowed\":false,\"status\":{\"code\":422,\"message\":\"deployments.apps \\\"web\\\" is forbidden: ValidatingAdmissionPolicy 'p' with binding 'b' denied request: failed to configure binding: e\",\"reason\":\"Invalid\"},\"uid\":\"u1\"}")
  pub undecided : answer (under_fail (codes "q") OutOfSteps ∷ under_fail (codes "r") PolicyRefused ∷ []) ≡ refused_as (codes "N4")
  pub denied_after_refusal : answer (under_fail (codes "a") OutOfSteps ∷ under (Deny ∷ []) twice) ≡ reviewed denied_by_m
  pub no_namespace_after_refusal : answer (under_fail (codes "a") OutOfSteps ∷ ends ∷ [])
      ≡ reviewed (codes "{\"allowed\":false," ++ (is_not_found ++ codes "}"))
  -- a denial beside audits and warnings
  pub denied_and_audited : answer (under (Deny ∷ Audit ∷ []) (found 1 (codes "m") Forbidden ∷ found 2 (codes "n") Invalid ∷ []))
      ≡ reviewed (codes "{\"allowed\":false," ++ (annotation_of (codes "m") (codes "1") (codes "\\\"Deny\\\",\\\"Audit\\\"")
      ++ codes ",\"status\":{\"code\":403,\"message\":\"deployments.apps \\\"web\\\" is forbidden: ValidatingAdmissionPolicy 'p' with binding 'b' denied request: m\",\"reason\":\"Forbidden\"},\"uid\":\"u1\"}"))
  pub denied_with_warning : answer (under (Warn ∷ []) (found 0 (codes "n") Invalid ∷ []) ++ under (Deny ∷ []) twice)
      ≡ reviewed (codes "{\"allowed\":false,\"status\":{\"code\":403,\"message\":\"deployments.apps \\\"web\\\" is forbidden: ValidatingAdmissionPolicy 'p' with binding 'b' denied request: m\",\"reason\":\"Forbidden\"},\"uid\":\"u1\",\"warnings\":["
      ++ (warning_of_n ++ codes "]}"))
  -- texts in the annotation
  pub escaped : answer (under (Audit ∷ []) (found 0 (codes "<a>\"&") Invalid ∷ []))
      ≡ reviewed (codes "{\"allowed\":true,"
      ++ (annotation_of (codes "\\\\u003ca\\\\u003e\\\\\\\"\\\\u0026") (codes "0") (codes "\\\"Audit\\\"") ++ codes ",\"uid\":\"u1\"}"))
  -- refusals: the first under Fail, else the first
  pub fail_after_ignore : answer (under_ignore (codes "a") OutOfSteps ∷ under_fail (codes "q") PolicyRefused ∷ []) ≡ refused_as (codes "C7")
  pub fail_before_ignore : answer (under_fail (codes "q") PolicyRefused ∷ under_ignore (codes "r") OutOfSteps ∷ []) ≡ refused_as (codes "C7")
  pub fail_between : answer (under_ignore (codes "a") OutOfSteps ∷ under_fail (codes "q") OverLimit ∷ under_fail (codes "r") OutOfSteps ∷ [])
      ≡ refused_as (codes "N5")
  pub ignore_alone : answer (under_ignore (codes "q") OverLimit ∷ under_ignore (codes "r") OutOfSteps ∷ []) ≡ refused_as (codes "N5")
  pub denied_between : answer (under_ignore (codes "a") OutOfSteps ∷ under (Deny ∷ []) twice ++ under_fail (codes "q") OverLimit ∷ [])
      ≡ reviewed denied_by_m
  pub reads_under_fail :
      answer (under_ignore (codes "a") OutOfSteps ∷ under_fail (codes "q") OutOfReads ∷ under_fail (codes "r") OutOfSteps ∷ [])
      ≡ refused_as (codes "N7")
  pub reads_under_ignore : answer (under_ignore (codes "a") OutOfReads ∷ under_fail (codes "q") OutOfSteps ∷ []) ≡ refused_as (codes "N4")
  pub after_warning : answer (under (Warn ∷ Audit ∷ []) twice ++ undecided_by OverLimit ∷ []) ≡ refused_as (codes "N5")
  pub of_review : answer (undecided_by ReviewRefused ∷ []) ≡ refused_as (codes "N2")
  pub of_params : answer (undecided_by NamespaceOrParamsRefused ∷ []) ≡ refused_as (codes "N3")
  pub of_match : answer (undecided_by UnknownMatch ∷ []) ≡ refused_as (codes "N6")
  pub of_policy : answer (undecided_by PolicyRefused ∷ []) ≡ refused_as (codes "C7")
  pub of_kind : answer (undecided_by UnknownParamKind ∷ []) ≡ refused_as (codes "C8")
