-- The parts of a binding that may be invalid: their paths, and the errors of reading them.
use Rattle.std.specs.Prelude.{ℕ, List, codes}
use Rattle.admission_documents.specs.declared.field_error.FieldError.{FieldError}
use Rattle.admission_documents.specs.declared.field_error.FieldError.TheVariants as field_error
use Rattle.cluster_state.specs.declared.binding_error.BindingError.{BindingError}
use Rattle.cluster_state.specs.declared.binding_error.BindingError.TheVariants.{InvalidPart, Memory}
use Rattle.cluster_state.specs.declared.binding_part.BindingPart.{BindingPart}
use Rattle.cluster_state.specs.declared.binding_part.BindingPart.TheVariants.{Spec, PolicyName, ValidationActions, MatchResources, ParamRef}

-- the path of a part in a manifest
abbrev pub binding_part_path : BindingPart → List ℕ
binding_part_path Spec = codes "spec"
binding_part_path PolicyName = codes "spec.policyName"
binding_part_path ValidationActions = codes "spec.validationActions"
binding_part_path MatchResources = codes "spec.matchResources"
binding_part_path ParamRef = codes "spec.paramRef"

-- the error of a part that cannot be read
abbrev pub binding_error_in : BindingPart → FieldError → BindingError
binding_error_in part field_error.InvalidField = InvalidPart part
binding_error_in part field_error.Memory = Memory
