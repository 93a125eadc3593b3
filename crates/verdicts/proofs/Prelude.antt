-- The names of the library, of the crates below and of the definitions that these proofs use. Declares nothing.
pub use Rattle.std.proofs.Common.{Bool, List, None, Ok, Option, Result}
pub use Rattle.std.proofs.Common.{Some, ℕ, [], ap, append-nil, append_assoc, arith, codes, drop}
pub use Rattle.std.proofs.Common.{false, get_or, if◌then◌else◌, length, map, nat_lt, not}
pub use Rattle.std.proofs.Common.{option_map, refl, rules, set, slice_get, slice_index}
pub use Rattle.std.proofs.Common.{string_bytes, subst, suc, sym, take, true, vec_len, zero}
pub use Rattle.std.proofs.Common.{◌&&◌, ◌*◌, ◌++◌, ◌+◌, ◌-◌, ◌<◌, ◌||◌, ◌∙◌, ◌∷◌, ◌≡◌, ◌≢◌, ◌≤◌}
pub use Rattle.std.proofs.lemmas.Bool.{cases_eq, cases_lt, ltb-false}
pub use Rattle.std.proofs.lemmas.Bool.Decides.{nat_tests}
pub use Rattle.std.proofs.lemmas.Cmp.{nat_list_eq_equiv}
pub use Rattle.std.proofs.lemmas.List.{get_or-set_other, get_or-set_same, length-map, length-set}
pub use Rattle.std.proofs.lemmas.List.{map-append, map-set, take-append-drop, take_more}
pub use Rattle.std.proofs.lemmas.List.Folds.{list_any-append}
pub use Rattle.std.proofs.lemmas.Map.Text.{is_eq-slice_cmp}
pub use Rattle.std.proofs.lemmas.Option.{slice_get-get_or, slice_get_past}
pub use Rattle.std.proofs.lemmas.Result.{IfOk-weaker}
pub use Rattle.std.specs.BTreeSet.{BTreeSet, IsEmpty, Updates, contains}
pub use Rattle.std.specs.Borrow.{Bor}
pub use Rattle.std.specs.Cmp.Lexicographic.{slice_cmp}
pub use Rattle.std.specs.List.{list_any}
pub use Rattle.std.specs.Ordering.{is_eq, nat_cmp}
pub use Rattle.std.specs.Str.{bytes_eq}
pub use Rattle.guest_memory.proofs.RegionWords.{read_word}
pub use Rattle.guest_memory.specs.Memory.{IsMemory, Memory, base_of}
unfoldable pub use Rattle.guest_memory.specs.RegionWords.{word_in}
pub use Rattle.serde_json.specs.View.{items_view}
pub use Rattle.value_store.specs.Value.{ValueOrError}
pub use Rattle.verdicts.specs.Denials.{denial_view, denials_by, denials_read, denials_told, denies_word, lent}
pub use Rattle.verdicts.specs.Words.{AreRead, Encodes, VerdictWords, message_at}
pub use Rattle.verdicts.specs.Layout.{IsLayout, finding_word, first_message, first_result, message_in}
pub use Rattle.verdicts.specs.Words.{ok_or_zero, result_at, text_named, words_view}
pub use Rattle.verdicts.specs.Layout.{outcome_of, outcome_word, truth_word}
pub use Rattle.verdicts.specs.Rejections.{Rejection, rejection_tree, rejection_by, rejection_of, rejection_view}
pub use Rattle.verdicts.specs.Policy.{NamedExpression, Policy, Validation, named_view, policy_view, validation_view}
pub use Rattle.verdicts.specs.Policy.{part_limit}
pub use Rattle.verdicts.specs.Reading.{IsAcceptedPolicy, are_distinct, has_line_break, named_in, validation_in}
pub use Rattle.verdicts.specs.Response.{Denial, denial_text, denials_of, separator_of, tree_of}
pub use Rattle.verdicts.specs.Verdict.{Finding, CheckResult, Verdict, denies}
pub use Rattle.verdicts.specs.declared.outcome.Outcome.{Outcome}
pub use Rattle.verdicts.specs.declared.outcome.Outcome.TheVariants.{Admitted, Skipped}
pub use Rattle.verdicts.specs.declared.failure_policy.FailurePolicy.{FailurePolicy}
pub use Rattle.verdicts.specs.declared.named_expression.NamedExpression.{NamedExpression as CodeNamedExpression}
pub use Rattle.verdicts.specs.declared.parts.Parts.{Parts}
unfoldable pub use Rattle.verdicts.specs.Words.{verdict_word}
unfoldable pub use Rattle.verdicts.specs.Rejections.{response_text}
unfoldable pub use Rattle.verdicts.specs.Response.{response_of}
