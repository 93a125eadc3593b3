-- The names that these proofs cite of the library and of the definitions here. Declares nothing.
pub use Rattle.std.proofs.Common.{◌≡◌, ◌∙◌, ◌+◌, ◌<◌, ◌++◌, ◌∷◌, ℕ, arith, get_or, length, List, [], Bool, true, false, Option, Some, None, Result, Ok, Err, ap, append_assoc, drop, flat_map, map, map-id, refl, string_bytes, subst, sym}
pub use Rattle.std.proofs.lemmas.List.{drop_more, map-append}
pub use Rattle.std.proofs.lemmas.Iterator.{YieldsList-from_chars}
pub use Rattle.std.proofs.lemmas.Iterator.Consumers.{YieldsList-end}
pub use Rattle.std.specs.Borrow.{Bor}
pub use Rattle.std.specs.Prelude.{option_map}
pub use Rattle.std.specs.Str.{bytes_eq}
pub use Rattle.serde_json.specs.View.{view}
pub use Rattle.std.proofs.lemmas.List.Elements.{All-cons, All-head, All-map, All-nil, All-tail}
pub use Rattle.std.specs.List.{All}
pub use Rattle.admission_documents.specs.Requests.{Request, request_view}
pub use Rattle.cluster_state.specs.Bindings.{Binding, binding_view}
pub use Rattle.cluster_state.specs.Items.{Item}
pub use Rattle.cluster_state.specs.Numbers.{IsNumbered, IsNumberedNamespace}
pub use Rattle.cluster_state.specs.State.{ClusterState, state_view}
pub use Rattle.cluster_state.specs.declared.document.Document.{Document}
pub use Rattle.cluster_state.specs.declared.param_error.ParamError.{ParamError}
pub use Rattle.cluster_plan.specs.Quotes.{go_escape}
pub use Rattle.cluster_plan.specs.Steps.{AskedPolicy, IsNumberedIf, IsNumberedStep, PlannedStep, asked_view, error_steps, evaluates, evaluations, found_params, step_documents, step_view}
pub use Rattle.cluster_plan.specs.declared.step.Step.{Step as CodeStep}
pub use Rattle.cluster_state.specs.declared.binding.Binding.{Binding as CodeBinding}
