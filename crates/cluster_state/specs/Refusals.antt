-- Why lists are refused, and the results of reading them.
use Rattle.std.specs.Prelude.{◌≡◌, ℕ, List, Result, Ok, Err, string_bytes}
use Rattle.cluster_state.specs.declared.binding_part.BindingPart.{BindingPart}
use Rattle.cluster_state.specs.declared.state_error.StateError.{StateError}
use Rattle.cluster_state.specs.declared.state_error.StateError.TheVariants.{NotAList, InvalidItem, DuplicateItem, NoNamespace, InvalidBinding, InvalidPolicy, Memory}

-- why a state is refused, with the place of a list or of an item, or with the name of an object; of a binding also with its first
-- invalid part
pub data Refusal : Type 0 where
  not_a_list : ℕ → Refusal
  invalid_item : ℕ → Refusal
  duplicate_item : List ℕ → Refusal
  no_namespace : Refusal
  invalid_binding : List ℕ → BindingPart → Refusal
  invalid_policy : List ℕ → Refusal

-- the refusal that is due; or an allocation failed
abbrev pub IsDueRefusal : {A : Type 0} → Result A Refusal → StateError → Type 0
IsDueRefusal due (NotAList place) = due ≡ Err (not_a_list place)
IsDueRefusal due (InvalidItem place) = due ≡ Err (invalid_item place)
IsDueRefusal due (DuplicateItem name) = due ≡ Err (duplicate_item (string_bytes name))
IsDueRefusal due NoNamespace = due ≡ Err no_namespace
IsDueRefusal due (InvalidBinding name part) = due ≡ Err (invalid_binding (string_bytes name) part)
IsDueRefusal due (InvalidPolicy name) = due ≡ Err (invalid_policy (string_bytes name))
IsDueRefusal due Memory = Unit {0}

-- the value that is due, as `see` shows it, or its refusal; or an allocation failed
abbrev pub ReadsDue : {A B : Type 0} → (B → A) → Result A Refusal → Result B StateError → Type 0
ReadsDue see due (Ok b) = due ≡ Ok (see b)
ReadsDue see due (Err e) = IsDueRefusal due e
