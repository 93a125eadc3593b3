-- What happens while policies are evaluated on a request, in its order, and what counts of it.
use Rattle.std.specs.Prelude.{◌≡◌, ℕ, Bool, true, false, not, List, [], ◌∷◌, ◌++◌, map, filter, Option, Some, None, option_map, bytes_eq, codes, string_bytes}
use Rattle.std.specs.List.{concat, flat_map}
use Rattle.cluster_state.specs.Bindings.{Binding}
use Rattle.cluster_state.specs.declared.action.Action.{Action}
use Rattle.cluster_state.specs.declared.action.Action.TheVariants.{Deny, Warn, Audit}
use Rattle.verdicts.specs.Findings.{PolicyFinding}
use Rattle.verdicts.specs.declared.reason.Reason.{Reason}
use Rattle.verdicts.specs.declared.reason.Reason.TheVariants.{Invalid}
use Rattle.cluster_response.specs.Firsts.{told_of}
use Rattle.cluster_response.specs.declared.audit.Audit.{Audit as CodeAudit}
use Rattle.cluster_response.specs.declared.cluster_refusal.ClusterRefusal.{ClusterRefusal}
use Rattle.cluster_response.specs.declared.denial.Denial.{Denial as CodeDenial}
use Rattle.cluster_response.specs.declared.events.Events.{Events as CodeEvents}
use Rattle.cluster_response.specs.declared.undecided.Undecided.{Undecided as CodeUndecided}

-- a denial by a policy, and by one of its bindings unless the policy itself is not configured
pub record ClusterDenial : Type 0 where
  pub policy : List ℕ
  pub binding : Option (List ℕ)
  pub message : List ℕ
  pub reason : Reason

-- a failure that a binding audits: its message, the place of the validation, and all actions of the binding
pub record ClusterAudit : Type 0 where
  pub policy : List ℕ
  pub binding : List ℕ
  pub index : ℕ
  pub message : List ℕ
  pub actions : List Action

-- a policy that does not decide the request, whether it fails closed, and why it does not decide
pub record Undecided : Type 0 where
  pub policy : List ℕ
  pub fails_closed : Bool
  pub refusal : ClusterRefusal

-- a denial, a warning by its text, a failure that is audited, a policy that does not decide, or the end because the
-- request's namespace is not found
pub data Event : Type 0 where
  denies : ClusterDenial → Event
  warns : List ℕ → Event
  audits : ClusterAudit → Event
  refuses : Undecided → Event
  ends : Event

-- ---- what findings and errors give

-- the text of a warning
unfoldable pub warning_text : List ℕ → List ℕ → List ℕ → List ℕ
warning_text policy binding message = concat
    (codes "Validation failed for ValidatingAdmissionPolicy '" ∷ policy ∷ codes "' with binding '" ∷ binding ∷ codes "': "
    ∷ message ∷ [])

-- what an action of a binding makes of a finding of the policy
abbrev pub action_event : List ℕ → Binding → PolicyFinding → Action → Event
action_event policy b f Deny = denies (record { policy = policy; binding = Some b.name; message = f.message; reason = f.reason })
action_event policy b f Warn = warns (warning_text policy b.name f.message)
action_event policy b f Audit =
    audits (record { policy = policy; binding = b.name; index = f.index; message = f.message; actions = b.actions })

-- the events of a finding: one for each action, in its order
abbrev pub finding_events : List ℕ → Binding → PolicyFinding → List Event
finding_events policy b f = map (action_event policy b f) b.actions

-- the events of the findings of one evaluation
abbrev pub findings_events : List ℕ → Binding → List PolicyFinding → List Event
findings_events policy b fs = flat_map (finding_events policy b) fs

-- what is not configured: the policy, or a binding
unfoldable pub configured : Option (List ℕ) → List ℕ
configured None = codes "failed to configure policy: "
configured (Some binding) = codes "failed to configure binding: "

-- an error of configuration denies, with any actions of the binding
abbrev pub configuration_event : List ℕ → Option (List ℕ) → List ℕ → Event
configuration_event policy binding error =
    denies (record { policy = policy; binding = binding; message = configured binding ++ error; reason = Invalid })

-- ---- what counts

-- the first denial
abbrev pub first_denial : List Event → Option ClusterDenial
first_denial [] = None
first_denial (denies d ∷ es) = Some d
first_denial (warns t ∷ es) = first_denial es
first_denial (audits a ∷ es) = first_denial es
first_denial (refuses r ∷ es) = first_denial es
first_denial (ends ∷ es) = first_denial es

-- the first failure that is audited
abbrev pub first_audit : List Event → Option ClusterAudit
first_audit [] = None
first_audit (denies d ∷ es) = first_audit es
first_audit (warns t ∷ es) = first_audit es
first_audit (audits a ∷ es) = Some a
first_audit (refuses r ∷ es) = first_audit es
first_audit (ends ∷ es) = first_audit es

-- the policies that do not decide, in order
abbrev pub all_undecided : List Event → List Undecided
all_undecided [] = []
all_undecided (denies d ∷ es) = all_undecided es
all_undecided (warns t ∷ es) = all_undecided es
all_undecided (audits a ∷ es) = all_undecided es
all_undecided (refuses r ∷ es) = r ∷ all_undecided es
all_undecided (ends ∷ es) = all_undecided es

abbrev pub is_closed : Undecided → Bool
is_closed r = r.fails_closed

-- the policy that is told of those that do not decide: the first that fails closed, else the first
abbrev pub told_undecided : List Event → Option Undecided
told_undecided es = told_of is_closed (all_undecided es)

-- the dispatch ended because the namespace is not found
abbrev pub has_end : List Event → Bool
has_end [] = false
has_end (denies d ∷ es) = has_end es
has_end (warns t ∷ es) = has_end es
has_end (audits a ∷ es) = has_end es
has_end (refuses r ∷ es) = has_end es
has_end (ends ∷ es) = true

-- the texts of the warnings
abbrev pub warning_texts : List Event → List (List ℕ)
warning_texts [] = []
warning_texts (denies d ∷ es) = warning_texts es
warning_texts (warns t ∷ es) = t ∷ warning_texts es
warning_texts (audits a ∷ es) = warning_texts es
warning_texts (refuses r ∷ es) = warning_texts es
warning_texts (ends ∷ es) = warning_texts es

-- each text once, in the order of first occurrences
abbrev pub each_once : List (List ℕ) → List (List ℕ)
each_once [] = []
each_once (t ∷ ts) = t ∷ filter (λ u. not (bytes_eq u t)) (each_once ts)

-- all that a response depends on
pub record EventSummary : Type 0 where
  pub denial : Option ClusterDenial
  pub warnings : List (List ℕ)
  pub audit : Option ClusterAudit
  pub undecided : Option Undecided
  pub ended : Bool

-- the first of each kind, the policy that is told of those that do not decide, and each warning once
abbrev pub summary_of : List Event → EventSummary
summary_of es = record {
  denial = first_denial es;
  warnings = each_once (warning_texts es);
  audit = first_audit es;
  undecided = told_undecided es;
  ended = has_end es;
}

-- ---- the code's

abbrev pub denial_view : CodeDenial → ClusterDenial
denial_view d = record {
  policy = string_bytes d.policy;
  binding = option_map string_bytes d.binding;
  message = string_bytes d.message;
  reason = d.reason;
}

abbrev pub audit_view : CodeAudit → ClusterAudit
audit_view a = record {
  policy = string_bytes a.policy;
  binding = string_bytes a.binding;
  index = a.index;
  message = string_bytes a.message;
  actions = a.actions.items;
}

abbrev pub undecided_view : CodeUndecided → Undecided
undecided_view r = record { policy = string_bytes r.policy; fails_closed = r.fails_closed; refusal = r.refusal }

abbrev pub events_view : CodeEvents → EventSummary
events_view e = record {
  denial = option_map denial_view e.denial;
  warnings = map string_bytes e.warnings.keys;
  audit = option_map audit_view e.audit;
  undecided = option_map undecided_view e.undecided;
  ended = e.ended;
}

-- the code keeps what counts of these events
abbrev pub KeepsEvents : CodeEvents → List Event → Type 0
KeepsEvents e es = events_view e ≡ summary_of es
