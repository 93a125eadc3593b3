-- Bindings (Kubernetes, ValidatingAdmissionPolicyBinding of admissionregistration.k8s.io/v1), with the API server's defaults.
use Rattle.std.specs.Prelude.{◌≡◌, ℕ, ◌&&◌, ◌==◌, Bool, true, false, not, List, [], ◌∷◌, Option, Some, None, Result, Ok, Err, bytes_eq, codes, length, nat_le, option_map, if◌then◌else◌}
use Rattle.std.specs.List.{filter, list_any}
use Rattle.serde_json.specs.Data as json
use Rattle.label_selectors.specs.Selectors.{LabelSelector, selector_view}
use Rattle.admission_match.specs.Matching.{MatchResources, match_view}
use Rattle.json_fields.specs.Fields.{field, has_only, list_of, text_of, text_or_empty_of}
use Rattle.admission_documents.specs.Matching.{match_resources_of}
use Rattle.admission_documents.specs.Selectors.{selector_of}
use Rattle.cluster_state.specs.Objects.{Named}
use Rattle.cluster_state.specs.Refusals.{Refusal, invalid_binding}
use Rattle.cluster_state.specs.declared.action.Action.{Action}
use Rattle.cluster_state.specs.declared.action.Action.TheVariants.{Deny, Warn, Audit}
use Rattle.cluster_state.specs.declared.binding.Binding.{Binding as CodeBinding}
use Rattle.cluster_state.specs.declared.binding_error.BindingError.{BindingError}
use Rattle.cluster_state.specs.declared.binding_error.BindingError.TheVariants as binding_error
use Rattle.cluster_state.specs.declared.binding_part.BindingPart.{BindingPart}
use Rattle.cluster_state.specs.declared.binding_part.BindingPart.TheVariants as part
use Rattle.cluster_state.specs.declared.param_choice.ParamChoice.{ParamChoice as CodeChoice}
use Rattle.cluster_state.specs.declared.param_choice.ParamChoice.TheVariants as code
use Rattle.cluster_state.specs.declared.param_ref.ParamRef.{ParamRef as CodeRef}

-- which objects are params: the one with a name, or those that a selector selects
pub data ParamChoice : Type 0 where
  by_name : List ℕ → ParamChoice
  by_labels : LabelSelector → ParamChoice

-- where to find a binding's params (ParamRef)
pub record ParamRef : Type 0 where
  pub choice : ParamChoice
  pub namespace : List ℕ
  pub denies_absence : Bool

-- a binding
pub record Binding : Type 0 where
  pub name : List ℕ
  pub policy_name : List ℕ
  pub actions : List Action
  pub resources : MatchResources
  pub param_ref : Option ParamRef

-- ---- its reference to params

-- `name` or `selector`, exactly one of which is required
abbrev pub choice_from : Option (List ℕ) → Option json.Data → Option ParamChoice
choice_from None s = None
choice_from (Some n) None = if length n == 0 then None else Some (by_name n)
choice_from (Some n) (Some d) = if length n == 0 then option_map by_labels (selector_of (Some d)) else None

-- the choice in a document
unfoldable pub choice_in : json.Data → Option ParamChoice
choice_in d = choice_from (text_or_empty_of (field (codes "name") d)) (field (codes "selector") d)

-- whether the absence of params denies (ParameterNotFoundActionType); the field is required
abbrev pub absence_named : List ℕ → Option Bool
absence_named t = if bytes_eq t (codes "Deny") then Some true else (if bytes_eq t (codes "Allow") then Some false else None)

unfoldable pub absence_of : Option json.Data → Option Bool
absence_of (Some (json.string s)) = absence_named s
absence_of _ = None

-- the fields of a reference to params
unfoldable pub param_ref_keys : List (List ℕ)
param_ref_keys = codes "name" ∷ codes "namespace" ∷ codes "parameterNotFoundAction" ∷ codes "selector" ∷ []

-- a reference to params, if each of its parts has the right form
abbrev pub param_ref_from : Option ParamChoice → Option (List ℕ) → Option Bool → Option ParamRef
param_ref_from (Some choice) (Some namespace) (Some denies) =
    Some (record { choice = choice; namespace = namespace; denies_absence = denies })
param_ref_from _ _ _ = None

unfoldable pub param_ref_parts : json.Data → Option ParamRef
param_ref_parts d = param_ref_from
    (choice_in d) (text_or_empty_of (field (codes "namespace") d)) (absence_of (field (codes "parameterNotFoundAction") d))

abbrev pub param_ref_in : json.Data → Option ParamRef
param_ref_in d = if has_only param_ref_keys d then param_ref_parts d else None

-- an optional reference to params
unfoldable pub param_ref_of : Option json.Data → Option (Option ParamRef)
param_ref_of None = Some None
param_ref_of (Some d) = option_map Some (param_ref_in d)

-- ---- its actions

abbrev pub action_named : List ℕ → Option Action
action_named t =
    if bytes_eq t (codes "Deny") then Some Deny
    else (if bytes_eq t (codes "Warn") then Some Warn
    else (if bytes_eq t (codes "Audit") then Some Audit else None))

abbrev pub action_in : json.Data → Option Action
action_in (json.string s) = action_named s
action_in _ = None

abbrev pub is_action : Action → Action → Bool
is_action Deny Deny = true
is_action Deny Warn = false
is_action Deny Audit = false
is_action Warn Deny = false
is_action Warn Warn = true
is_action Warn Audit = false
is_action Audit Deny = false
is_action Audit Warn = false
is_action Audit Audit = true

-- the action is one of these
abbrev pub has_action : Action → List Action → Bool
has_action a actions = list_any (is_action a) actions

-- no action occurs twice
abbrev pub are_distinct : List Action → Bool
are_distinct [] = true
are_distinct (a ∷ actions) = not (has_action a actions) && are_distinct actions

-- one to three different actions, without Deny and Warn together
unfoldable pub are_actions : List Action → Bool
are_actions actions =
    not (length actions == 0) && nat_le (length actions) 3 && are_distinct actions
    && not (has_action Deny actions && has_action Warn actions)

abbrev pub if_actions : Option (List Action) → Option (List Action)
if_actions (Some actions) = if are_actions actions then Some actions else None
if_actions None = None

unfoldable pub actions_of : Option json.Data → Option (List Action)
actions_of o = if_actions (list_of action_in o)

-- ---- a binding

-- a text that is not empty
unfoldable pub if_text : Option (List ℕ) → Option (List ℕ)
if_text (Some t) = if length t == 0 then None else Some t
if_text None = None

-- the fields of a binding's specification
unfoldable pub binding_keys : List (List ℕ)
binding_keys = codes "matchResources" ∷ codes "paramRef" ∷ codes "policyName" ∷ codes "validationActions" ∷ []

-- a binding, or the first of its parts that does not have the right form
abbrev pub binding_from : List ℕ → Option (List ℕ) → Option (List Action) → Option MatchResources
    → Option (Option ParamRef) → Result Binding BindingPart
binding_from name None _ _ _ = Err part.PolicyName
binding_from name (Some policy) None _ _ = Err part.ValidationActions
binding_from name (Some policy) (Some actions) None _ = Err part.MatchResources
binding_from name (Some policy) (Some actions) (Some resources) None = Err part.ParamRef
binding_from name (Some policy) (Some actions) (Some resources) (Some params) = Ok (record {
  name = name;
  policy_name = policy;
  actions = actions;
  resources = resources;
  param_ref = params;
})

-- its `policyName`, `validationActions`, `matchResources` and `paramRef`
unfoldable pub binding_parts : List ℕ → json.Data → Result Binding BindingPart
binding_parts name d = binding_from name
    (if_text (text_of (field (codes "policyName") d)))
    (actions_of (field (codes "validationActions") d))
    (match_resources_of (field (codes "matchResources") d))
    (param_ref_of (field (codes "paramRef") d))

abbrev pub binding_spec : List ℕ → Option json.Data → Result Binding BindingPart
binding_spec name None = Err part.Spec
binding_spec name (Some d) = if has_only binding_keys d then binding_parts name d else Err part.Spec

-- the binding with this name in a document, or its first invalid part
unfoldable pub binding_in : List ℕ → json.Data → Result Binding BindingPart
binding_in name d = binding_spec name (field (codes "spec") d)

-- this binding in front of the others, or its refusal
abbrev pub binding_before : List ℕ → Result Binding BindingPart → Result (List Binding) Refusal → Result (List Binding) Refusal
binding_before name (Err p) rest = Err (invalid_binding name p)
binding_before name (Ok b) (Ok bs) = Ok (b ∷ bs)
binding_before name (Ok b) (Err e) = Err e

-- all bindings
abbrev pub bindings_in : Named → Result (List Binding) Refusal
bindings_in [] = Ok []
bindings_in (o ∷ os) = binding_before o.0 (binding_in o.0 o.1) (bindings_in os)

-- the bindings of the policy of this name, in the order of their names
abbrev pub bindings_of : List ℕ → List Binding → List Binding
bindings_of name bs = filter (λ b. bytes_eq b.policy_name name) bs

-- ---- values of the code

abbrev pub choice_view : CodeChoice → ParamChoice
choice_view (code.Named n) = by_name n.now
choice_view (code.Selected s) = by_labels (selector_view s)

abbrev pub param_ref_view : CodeRef → ParamRef
param_ref_view r = record { choice = choice_view r.choice; namespace = r.namespace.now; denies_absence = r.denies_absence }

abbrev pub binding_view : CodeBinding → Binding
binding_view b = record {
  name = b.name.now;
  policy_name = b.policy_name.now;
  actions = b.actions.items;
  resources = match_view b.resources;
  param_ref = option_map param_ref_view b.param_ref;
}

-- the binding is returned, or its first invalid part; or an allocation failed
abbrev pub ReadsBinding : Result Binding BindingPart → Result CodeBinding BindingError → Type 0
ReadsBinding due (Ok b) = due ≡ Ok (binding_view b)
ReadsBinding due (Err (binding_error.InvalidPart p)) = due ≡ Err p
ReadsBinding due (Err binding_error.Memory) = Unit {0}
