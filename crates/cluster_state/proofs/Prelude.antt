-- The names of the library and of the definitions that these proofs use. Declares nothing.
pub use Rattle.std.proofs.Common.{◌≡◌, ◌||◌, ◌∙◌, ◌++◌, ◌∷◌, ◌+◌, ◌&&◌, ℕ, Bool, true, false, not, List, [], Option, None, Some, Result, Ok, Err, ap, append-nil, append_assoc, arith, codes, cond, drop, length, map, refl, subst, sym, string_bytes, rules, if◌then◌else◌}
pub use Rattle.std.proofs.lemmas.List.{map-append}
pub use Rattle.std.proofs.lemmas.Result.{IfOk-weaker}
pub use Rattle.std.proofs.lemmas.Map.Text.{is_eq-slice_cmp}
pub use Rattle.std.specs.BTreeMap.{BTreeMap, get_by, insert_entry, is_at, UpdatesBy}
pub use Rattle.std.specs.Bool.{Decides}
pub use Rattle.std.specs.Borrow.{Bor}
pub use Rattle.std.specs.Cmp.Lexicographic.{slice_cmp}
pub use Rattle.std.specs.List.{list_any}
pub use Rattle.std.specs.Map.{lookup}
pub use Rattle.std.specs.Ordering.{is_eq, match_ordering, nat_cmp, ordering_then}
pub use Rattle.std.specs.Option.{option_copied, option_map_or}
pub use Rattle.std.specs.Prelude.{is_some, option_map}
pub use Rattle.std.specs.Str.{bytes_eq}
pub use Rattle.std.specs.declared.cmp.Ordering.{Ordering}
pub use Rattle.std.specs.declared.cmp.Ordering.TheVariants.{Less, Equal, Greater}
pub use Rattle.serde_json.specs.View.{items_view, view}
pub use Rattle.serde_json.specs.declared.value.Value.{Value}
pub use Rattle.cluster_state.specs.Bindings.{Binding, ParamRef, action_in, binding_before, binding_view, bindings_in}
pub use Rattle.cluster_state.specs.Policies.{BoundPolicy, policies_in, policy_before, policy_view}
pub use Rattle.cluster_state.specs.Items.{Collection, Item, before, documents_in, item_before, item_in, item_view, items_in}
pub use Rattle.cluster_state.specs.Objects.{Collections, Entries, Named, Objects, collection_cmp, collection_view, entries_at, entries_in, entries_of, is_collection, is_taken, named_in, named_view, no_objects, object_named, objects_view, with_item, with_items, with_name}
pub use Rattle.cluster_state.specs.Refusals.{Refusal, duplicate_item}
pub use Rattle.cluster_state.specs.declared.binding.Binding.{Binding as CodeBinding}
pub use Rattle.cluster_state.specs.declared.document.Document.{Document}
pub use Rattle.cluster_state.specs.declared.item.Item.{Item as CodeItem}
pub use Rattle.label_selectors.specs.Selectors.{LabelSelector, selector_view}
pub use Rattle.cluster_state.specs.Bindings.{by_labels}
pub use Rattle.cluster_state.specs.Params.{chosen, is_served, scope_by, some_item}
pub use Rattle.cluster_state.specs.Policies.{ParamKind, param_kind_view}
unfoldable pub use Rattle.cluster_state.specs.Params.{version_in}
pub use Rattle.admission_match.specs.Matching.{MatchResources, match_view}
pub use Rattle.cluster_state.specs.Bindings.{param_ref_view}
pub use Rattle.cluster_state.specs.Items.{items_of}
pub use Rattle.cluster_state.specs.State.{AreObjects, ClusterState, bindings, bindings_then, items_then, objects_of, policies, policies_then, state_of, state_with}
pub use Rattle.cluster_state.specs.declared.action.Action.{Action}
unfoldable pub use Rattle.json_fields.specs.Fields.{field}
unfoldable pub use Rattle.admission_documents.specs.Matching.{match_constraints_of, match_resources_of}
unfoldable pub use Rattle.cluster_state.specs.Bindings.{actions_of, binding_in, binding_parts, if_text, param_ref_of}
unfoldable pub use Rattle.cluster_state.specs.Policies.{is_bound, param_kind_of, policy_in, policy_parts}
pub use Rattle.json_fields.specs.Fields.{text_of}
