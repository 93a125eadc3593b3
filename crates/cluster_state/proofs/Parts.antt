-- Records all of whose parts are there.
use Rattle.cluster_state.proofs.Prelude.{◌∙◌, Ok, Err, None, ap, match_view, option_map, param_ref_view, sym, ◌≡◌, List, ℕ, Option, Some, refl, codes, Action, MatchResources, ParamKind, ParamRef, actions_of, binding_parts, field, if_text, match_constraints_of, match_resources_of, param_kind_of, param_ref_of, policy_parts, text_of}
use Rattle.serde_json.specs.Data as json
use Rattle.admission_documents.specs.Fields.{ReadsField}
use Rattle.cluster_state.specs.Bindings.{ReadsBinding}
use Rattle.cluster_state.specs.Parts.{binding_error_in}
use Rattle.cluster_state.specs.declared.binding_part.BindingPart.TheVariants as part
use Rattle.admission_documents.specs.declared.field_error.FieldError.{FieldError}
use Rattle.admission_documents.specs.declared.field_error.FieldError.TheVariants.{InvalidField, Memory}

pub binding_whole : (name : List ℕ) (d : json.Data) (p : List ℕ) (as_told : List Action) (m : MatchResources) (r : Option ParamRef)
    → if_text (text_of (field (codes "policyName") d)) ≡ Some p → actions_of (field (codes "validationActions") d) ≡ Some as_told
    → match_resources_of (field (codes "matchResources") d) ≡ Some m → param_ref_of (field (codes "paramRef") d) ≡ Some r
    → binding_parts name d ≡ Ok (record { name = name; policy_name = p; actions = as_told; resources = m; param_ref = r })
unfolding binding_parts
binding_whole name d p as_told m r a b e f = rw (a, b, e, f) refl

pub policy_whole : (name : List ℕ) (d spec : json.Data) (m : MatchResources) (k : Option ParamKind)
    → match_constraints_of (field (codes "matchConstraints") spec) ≡ Some m → param_kind_of (field (codes "paramKind") spec) ≡ Some k
    → policy_parts name d spec ≡ Some (record { name = name; document = d; constraints = m; param_kind = k })
unfolding policy_parts
policy_whole name d spec m k a b = rw (a, b) refl

-- a binding whose match resources are refused
pub resources_refused : (name : List ℕ) (d : json.Data) (p : List ℕ) (as_told : List Action) (o : Option json.Data) (error : FieldError)
    → if_text (text_of (field (codes "policyName") d)) ≡ Some p → actions_of (field (codes "validationActions") d) ≡ Some as_told
    → o ≡ field (codes "matchResources") d → ReadsField match_view (match_resources_of o) (Err error)
    → ReadsBinding (binding_parts name d) (Err (binding_error_in part.MatchResources error))
unfolding binding_parts
resources_refused name d p as_told o InvalidField a b s r = rw (a, b, ap match_resources_of (sym s) ∙ r) refl
resources_refused name d p as_told o Memory a b s r = tt

-- a binding whose reference to params is refused
pub params_refused : (name : List ℕ) (d : json.Data) (p : List ℕ) (as_told : List Action) (m : MatchResources) (o : Option json.Data)
    (error : FieldError) → if_text (text_of (field (codes "policyName") d)) ≡ Some p → actions_of (field (codes "validationActions") d) ≡ Some as_told
    → match_resources_of (field (codes "matchResources") d) ≡ Some m → o ≡ field (codes "paramRef") d
    → ReadsField (option_map param_ref_view) (param_ref_of o) (Err error)
    → ReadsBinding (binding_parts name d) (Err (binding_error_in part.ParamRef error))
unfolding binding_parts
params_refused name d p as_told m o InvalidField a b e s r = rw (a, b, e, ap param_ref_of (sym s) ∙ r) refl
params_refused name d p as_told m o Memory a b e s r = tt

pub policy_refused : (name : List ℕ) (d spec : json.Data) (m : MatchResources) → match_constraints_of (field (codes "matchConstraints") spec) ≡ Some m
    → param_kind_of (field (codes "paramKind") spec) ≡ None → policy_parts name d spec ≡ None
unfolding policy_parts
policy_refused name d spec m a b = rw (a, b) refl
