-- The names of the library and of the definitions that these proofs use. Declares nothing.
pub use Rattle.std.proofs.Common.{◌≡◌, ◌∙◌, ◌++◌, ℕ, List, Option, None, Some, ap, codes, drop, length, map, refl, string_bytes, sym}
pub use Rattle.serde_json.specs.View.{items_view, members_view}
pub use Rattle.label_selectors.specs.Selectors.{Label, LabelSelector, Requirement, label_view, requirement_view, selector_view}
pub use Rattle.admission_match.specs.Matching.{MatchResources}
pub use Rattle.admission_match.specs.Rules.{Rule, rule_view}
pub use Rattle.admission_match.specs.declared.match_policy.MatchPolicy.{MatchPolicy}
pub use Rattle.json_fields.specs.Fields.{each, keys_within, text_in}
pub use Rattle.admission_documents.specs.Matching.{ResourcePatterns, patterns_view, rule_in}
pub use Rattle.admission_documents.specs.Selectors.{are_texts, each_label, requirement_in}
unfoldable pub use Rattle.json_fields.specs.Fields.{field, texts_of}
unfoldable pub use Rattle.admission_documents.specs.Matching.{match_constraints_of, match_keys, match_parts, match_policy_of, match_resources_of, patterns_in, rule_keys, rule_parts, rules_of, scope_of}
unfoldable pub use Rattle.admission_documents.specs.Requests.{is_as_sent, keeps_kind, keeps_resource, keeps_subresource, kind_in, operation_of, request_in, resource_in, target_parts}
unfoldable pub use Rattle.admission_documents.specs.Selectors.{label_in, labels_in, match_expressions_of, match_labels_of, requirement_keys, requirement_parts, selector_keys, selector_of, selector_parts}
