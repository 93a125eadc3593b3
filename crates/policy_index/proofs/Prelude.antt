-- The names of the library, of the crates below and of the definitions that these proofs use. Declares nothing.
pub use Rattle.std.proofs.Common.{◌&&◌, ◌+◌, ◌++◌, ◌<◌, ◌==◌, ◌||◌, ◌∙◌, ◌∷◌, ◌≡◌, ◌≤◌, ℕ, Bool, false, true, List, [], Option, None, Some, Global, ap, arith, bytes_eq, codes, cond, drop, get_or, if◌then◌else◌, length, lit<, map, refl, set, string_bytes, sym, take}
pub use Rattle.std.proofs.lemmas.Bool.{ltb-false, or_from, or_parts, true≢false}
pub use Rattle.std.proofs.lemmas.List.{append-nil, append_assoc, drop_all, drop_more, length-map, length-take-le, map-append, set-set, take_all, take_more}
pub use Rattle.std.proofs.Math.Nat.{le_of_lt}
pub use Rattle.std.proofs.Math.Seq.{set-append_seam}
pub use Rattle.std.proofs.lemmas.Map.Text.{btree_map_updates_text}
pub use Rattle.std.proofs.lemmas.Slice.Eq.{bytes_eq-Decides}
pub use Rattle.std.proofs.lemmas.Str.Pattern.{split_once_first}
pub use Rattle.std.specs.Bool.{nat_lt}
pub use Rattle.std.specs.BTreeMap.{BTreeMap, IsEmpty, get_by_text}
pub use Rattle.std.specs.Borrow.{Bor}
pub use Rattle.std.specs.List.{list_any, position_or_len}
pub use Rattle.std.specs.Prelude.{Vec, option_map, unwrap_or}
pub use Rattle.std.specs.declared.string.String.{String}
pub use Rattle.admission_match.proofs.Covered.{none_covered}
pub use Rattle.admission_match.specs.Matching.{MatchResources, Namespaces, at_excludes, at_namespace, at_rules, if_selected, is_outside_namespaces, match_view, namespace_answer, object_passes, passes_if, writes_namespace}
pub use Rattle.admission_match.specs.Requests.{Attributes}
pub use Rattle.admission_match.specs.Rules.{Rule, covers_cut, covers_one, is_or_any, rule_view, rules_answer}
pub use Rattle.admission_match.specs.declared.answer.Answer.TheVariants.{No}
pub use Rattle.admission_match.specs.declared.match_policy.MatchPolicy.TheVariants.{Exact}
pub use Rattle.admission_match.specs.declared.match_resources.MatchResources.{MatchResources as CodeMatchResources}
pub use Rattle.admission_match.specs.declared.rule.Rule.{Rule as CodeRule}
pub use Rattle.label_selectors.specs.Selectors.{LabelSelector, is_empty}
pub use Rattle.policy_index.specs.Building.{has, marked, patterns_have, rules_have, views}
pub use Rattle.policy_index.specs.Naming.{candidates, named_resource, names, one_names}
unfoldable pub use Rattle.admission_match.specs.Matching.{match_answer}
unfoldable pub use Rattle.admission_match.specs.Rules.{covers}
unfoldable pub use Rattle.policy_index.specs.Indexes.{answers}
unfoldable pub use Rattle.policy_index.specs.Naming.{may_match}
