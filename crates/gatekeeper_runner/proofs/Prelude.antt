-- The names of the library, of the crates below and of the definitions that these proofs use. Declares nothing.
pub use Rattle.std.proofs.Common.{Bool, Err, List, None, Ok, OnErr, OnOk, Option, Result, Some}
pub use Rattle.std.proofs.Common.{String, ℕ, [], ap, append-nil, append_assoc, arith, codes, drop, false, get_or, inl}
pub use Rattle.std.proofs.Common.{inr, length, map, option_map, refl, string_bytes}
pub use Rattle.std.proofs.Common.{subst, suc, sym, take, true, unwrap_or, zero, ◌++◌, ◌+◌, ◌<◌, ◌∙◌, ◌∷◌, ◌≡◌, ◌≢◌, ◌≤◌}
pub use Rattle.std.proofs.Math.Seq.{split_at}
pub use Rattle.std.proofs.lemmas.List.{map-append, take_all, take_more}
pub use Rattle.std.proofs.lemmas.Result.{IfOk-weaker, on_ok_weaker}
pub use Rattle.std.specs.declared.alloc.Global.{Global}
pub use Rattle.clap.proofs.WalkLemmas.{raw_values-rows}
pub use Rattle.clap.specs.Words.{App, Kinds, Row, Text, app_of, fault_of, found_of, is_simple, is_simple_and_free}
pub use Rattle.clap.specs.Words.{matches_of, new_app, with_rule}
pub use Rattle.policy_glue.specs.Rejections.{Rejection, rejection_view}
pub use Rattle.policy_glue.specs.OneImage.{OneImage}
unfoldable pub use Rattle.policy_glue.specs.Documents.{document_of}
unfoldable pub use Rattle.policy_glue.specs.Evaluation.{decision_of}
pub use Rattle.admission.proofs.Decided.{refused_so}
pub use Rattle.admission.proofs.OneReview.{cases_once}
pub use Rattle.admission.proofs.Results.{is_err}
pub use Rattle.admission.proofs.Standing.{of_one}
pub use Rattle.admission.specs.Deciding.{Reply, CompilesDocument, Documents, IsPolicy, answer_of, decision}
pub use Rattle.host.specs.FileSystem.{FileSystem}
pub use Rattle.admission.specs.OneAnswer.{ReviewHasOneResult, IsAnswerTo}
pub use Rattle.admission.specs.Decisions.{IsDecisionOf, Decision, DecidesReview, decision_from_verdict}
pub use Rattle.admission.specs.Standing.{RunAgrees}
pub use Rattle.host.specs.declared.order_error.OrderError.{OrderError}
pub use Rattle.host.specs.declared.order_error.OrderError.TheVariants.{InvalidArguments}
pub use Rattle.admission.specs.declared.policy_refusal.PolicyRefusal.{PolicyRefusal}
pub use Rattle.cli.specs.Ending.{no_words}
pub use Rattle.admission.specs.declared.run_error.RunError.{RunError}
pub use Rattle.admission.specs.declared.run_error.RunError.TheVariants.{Memory}
unfoldable pub use Rattle.cli.specs.Arguments.{option_rule, reads_rule, required_option_rule, steps_rule, with_documents}
pub use Rattle.admission.specs.declared.limits.Limits.{Limits}
unfoldable pub use Rattle.admission.specs.Reviews.{uid_in}
pub use Rattle.gatekeeper_runner.specs.Policies.Lines.{DecidesLine, answer_text, decides}
pub use Rattle.gatekeeper_runner.specs.Refusals.{too_long_text, RefusingPolicy, Refused, label_view, refused_view}
pub use Rattle.gatekeeper_runner.specs.Orders.{GatekeeperOrderReturns, choice_faults, go_together, lines_order_view}
pub use Rattle.gatekeeper_runner.specs.SameAnswers.{LinesHaveOneAnswer}
pub use Rattle.gatekeeper_runner.specs.Policies.Starting.{GatesFrom, IsUnopened, OneUnopened, Opens, no_namespace}
pub use Rattle.gatekeeper_runner.specs.Policies.Starting.{no_params, no_policy, ready, refused, unread}
pub use Rattle.gatekeeper_runner.specs.Policies.Together.{AreGates, AreResults, AreValuesOf, DecideTogether, DecidesAlone}
pub use Rattle.gatekeeper_runner.specs.Policies.Together.{Gatekeeper, IsGateOf, IsResult, PolicyFile, PolicyResult}
pub use Rattle.gatekeeper_runner.specs.Policies.Together.{and_also, decided, gatekeeper_of, joined, label_of}
pub use Rattle.gatekeeper_runner.specs.Policies.Together.{refused_and, rejection_in, rejections, is_by_fail, refusals, told_refusal, under}
pub use Rattle.gatekeeper_runner.specs.Policies.Tally.{AddsResult, AreTallied, IsTallyOf, ending_of}
pub use Rattle.gatekeeper_runner.specs.declared.policies.named_gate.NamedGate.{NamedGate}
pub use Rattle.gatekeeper_runner.specs.declared.policies.tally.Tally.{Tally}
unfoldable pub use Rattle.gatekeeper_runner.specs.Refusals.{refusal_text}
unfoldable pub use Rattle.gatekeeper_runner.specs.Orders.{entered, faults, files_rule, gatekeeper_app, lines_faults, max_line_rule}
unfoldable pub use Rattle.gatekeeper_runner.specs.Orders.{is_translate, order_of_words, translation_app, translation_from}
unfoldable pub use Rattle.gatekeeper_runner.specs.Orders.{lines_app, policies_app, switch_rule}
pub use Rattle.gatekeeper_runner.specs.declared.start_refusal.StartRefusal.{StartRefusal}
