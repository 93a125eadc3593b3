-- The names that these proofs cite of the library and of the definitions here. Declares nothing.
pub use Rattle.std.proofs.Common.{◌≡◌, ◌||◌, ◌&&◌, ◌∙◌, ◌++◌, ◌∷◌, ◌+◌, ℕ, Bool, true, false, not, true≢false, List, [], Option, None, Some, String, Global, ap, sym, refl, append-nil, append_assoc, arith, rules, map, map-id, drop, filter, flat_map, fold, bytes_eq, codes, string_bytes, string_eq, option_map, if◌then◌else◌}
pub use Rattle.std.specs.List.{list_any}
pub use Rattle.std.specs.Prelude.{is_some}
pub use Rattle.std.proofs.lemmas.List.{map-append}
pub use Rattle.std.proofs.lemmas.List.Elements.{filter-append}
pub use Rattle.std.proofs.lemmas.Result.{IfOk-weaker, on_ok_weaker}
pub use Rattle.std.proofs.lemmas.Slice.Eq.{bytes_eq-Decides}
pub use Rattle.std.proofs.lemmas.Iterator.{YieldsList-from_chars}
pub use Rattle.std.proofs.lemmas.Iterator.Consumers.{YieldsList-end}
pub use Rattle.serde_json.specs.View.{items_of, view}
pub use Rattle.serde_json.specs.Written.{compact_text, has_float, items_have_float, members_have_float}
pub use Rattle.serde_json.specs.declared.value.Value.{Value}
pub use Rattle.admission_documents.specs.Requests.{Request, request_view}
pub use Rattle.cluster_state.specs.Bindings.{binding_view}
pub use Rattle.verdicts.specs.Findings.{finding_view}
unfoldable pub use Rattle.verdicts.specs.Response.{review_tree}
pub use Rattle.cluster_response.specs.Annotations.{action_tree, html_escape}
pub use Rattle.cluster_response.specs.Events.{ClusterAudit, ClusterDenial, Event, EventSummary, KeepsEvents, Undecided, action_event, configuration_event, denies, warns, audits, refuses, ends, all_undecided, each_once, events_view, finding_events, findings_events, first_audit, first_denial, has_end, is_closed, summary_of, told_undecided, warning_texts}
pub use Rattle.cluster_response.specs.Firsts.{first_of, preferred, told_of}
pub use Rattle.cluster_response.specs.Keeping.{or_first, or_there, with_event, with_events}
pub use Rattle.cluster_response.specs.Laws.{AllowsByEvents, allowed_in, is_against, is_closed_refusal, is_refusal, warns_by}
unfoldable pub use Rattle.cluster_response.specs.Messages.{denial_text}
pub use Rattle.cluster_response.specs.Response.{annotations_tree, answer_by, answer_tree, decision_tree, if_member, if_texts, status_of, summary_response}
unfoldable pub use Rattle.cluster_response.specs.Response.{cluster_response}
pub use Rattle.cluster_response.specs.declared.events.Events.{Events as CodeEvents}
