-- The names of the library, of the crate below and of the definitions that these proofs use. Declares nothing.
pub use Rattle.std.proofs.Common.{ap, arith, bytes_eq, codes, inl, inr, if◌then◌else◌, length, map, not, refl, string_bytes, subst, sym}
pub use Rattle.std.proofs.Common.{Bool, Global, false, true, List, [], ℕ}
pub use Rattle.std.proofs.Common.{◌&&◌, ◌++◌, ◌==◌, ◌||◌, ◌∙◌, ◌∷◌, ◌≡◌, ◌≢◌, ◌⊎◌}
pub use Rattle.std.proofs.lemmas.Bool.{and_from, and_parts, cases_Bool, cond_both, false_from_ne_true, ne_eqb, not-true, not_from_false, or_cases, or_from, or_left, or_parts, or_right, true≢false}
pub use Rattle.std.proofs.lemmas.List.Elements.{All-head, All-tail}
pub use Rattle.std.proofs.lemmas.Slice.Eq.{bytes_eq-Decides}
pub use Rattle.std.specs.List.{All, list_any}
pub use Rattle.std.specs.declared.string.String.{String}
pub use Rattle.label_selectors.specs.Selectors.{is_one_of}
pub use Rattle.admission_match.specs.Laws.{served_answer, server_answer, some_fits}
pub use Rattle.admission_match.specs.Matching.{MatchResources, Namespaces, at_excludes, at_namespace, at_rules, namespace_answer, object_passes}
pub use Rattle.admission_match.specs.Requests.{Attributes, GroupVersionResource, attributes_view, resource_view}
pub use Rattle.admission_match.specs.Rules.{Rule, are, at_version, covers_one, fits_other_version, fits_own_group, fits_request, fits_shared_group, has_or_any, is_cluster, is_or_any, rule_view, rules_answer, scope_fits, sharing_groups}
pub use Rattle.admission_match.specs.declared.answer.Answer.{Answer}
pub use Rattle.admission_match.specs.declared.answer.Answer.TheVariants.{No, Unknown}
pub use Rattle.admission_match.specs.declared.match_policy.MatchPolicy.{MatchPolicy}
pub use Rattle.admission_match.specs.declared.match_policy.MatchPolicy.TheVariants.{Equivalent, Exact}
pub use Rattle.admission_match.specs.declared.namespace_answer.NamespaceAnswer.{NamespaceAnswer}
pub use Rattle.admission_match.specs.declared.namespace_answer.NamespaceAnswer.TheVariants.{KeptOut, NoLabels, Passes}
pub use Rattle.admission_match.specs.declared.rule.Rule.{Rule as CodeRule}
pub use Rattle.admission_match.specs.declared.rules_answer.RulesAnswer.{RulesAnswer}
pub use Rattle.admission_match.specs.declared.rules_answer.RulesAnswer.TheVariants.{NoneFits, NotKnown, SomeFits}
unfoldable pub use Rattle.admission_match.specs.Matching.{match_answer}
unfoldable pub use Rattle.admission_match.specs.Rules.{covers, fits, is_candidate, is_shared, may_fit}
