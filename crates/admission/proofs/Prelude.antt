-- The names of the library, of the crates below and of the definitions that these proofs use. Declares nothing.
pub use Rattle.std.proofs.Common.{Bool, Err, FitsSigned, IsErrAnd, List, None, Ok, Option, Ordering, Result, Some}
pub use Rattle.std.proofs.Common.{String, ℕ, [], ap, arith, bytes_eq, codes, cond, false, get_or, if◌then◌else◌, inl}
pub use Rattle.std.proofs.Common.{inr, is_eq, length, map, nat_cmp, nat_le, option_and_then, option_map, refl}
pub use Rattle.std.proofs.Common.{slice_get, string_bytes, subst, suc, sym, true, unwrap_or, ◌*◌, ◌++◌, ◌+◌, ◌^◌, ◌∙◌}
pub use Rattle.std.proofs.Common.{◌∷◌, ◌≡◌, ◌≤◌, ◌⊎◌, ◌&&◌}
pub use Rattle.std.proofs.lemmas.Bool.{cases_lt, leb-true}
pub use Rattle.std.proofs.lemmas.List.{length-map, length_push}
pub use Rattle.std.proofs.lemmas.Map.Text.{is_eq-slice_cmp}
pub use Rattle.std.proofs.lemmas.Slice.Eq.{bytes_eq-Decides}
pub use Rattle.std.specs.BTreeMap.{is_at}
pub use Rattle.std.specs.Cmp.Lexicographic.{slice_cmp}
pub use Rattle.std.specs.Int.{w64}
pub use Rattle.std.specs.Map.{remove_entry}
pub use Rattle.std.specs.Ordering.{match_ordering}
unfoldable pub use Rattle.std.specs.Str.{is_utf8}
pub use Rattle.bpf_machine.specs.Starts.{AreDocuments, FitsNumber, HasNumbers, HaveNumbers, MembersHaveNumbers}
pub use Rattle.bpf_machine.specs.Starts.{StartsAreTables}
pub use Rattle.bpf_machine.specs.State.{State}
pub use Rattle.bpf_machine.specs.States.{StatesAreKept}
pub use Rattle.bpf_machine.specs.Step.{is_running}
pub use Rattle.bpf_machine.specs.declared.status.Status.{Status}
pub use Rattle.bpf_machine.specs.declared.status.Status.TheVariants.{Exited, Running}
unfoldable pub use Rattle.bpf_machine.specs.State.{start_state}
unfoldable pub use Rattle.bpf_machine.specs.Trace.{state_after}
pub use Rattle.cel_macros.specs.Environment.{Roots}
pub use Rattle.expression_code.specs.Contexts.{HasValues}
pub use Rattle.fast_float.specs.Text.{with_sign}
pub use Rattle.guest_memory.specs.declared.fault.Fault.{Fault}
pub use Rattle.guest_memory.specs.declared.fault.Fault.TheVariants.{F8}
pub use Rattle.json.specs.Json.{if_last}
pub use Rattle.json.specs.Lex.{tokens}
unfoldable pub use Rattle.json.specs.Json.{value}
pub use Rattle.policy_glue.specs.Budget.{policy_work}
pub use Rattle.policy_glue.specs.Checking.{TakenOrRefused, PartsEnd}
pub use Rattle.policy_glue.specs.Layout.{outcome_of, outcome_word}
pub use Rattle.policy_glue.specs.Limits.{Compiles}
pub use Rattle.policy_glue.specs.OneAnswer.{HasOneImage}
pub use Rattle.policy_glue.specs.OneImage.{OneImage}
pub use Rattle.policy_glue.specs.Policy.{Policy}
pub use Rattle.policy_glue.specs.ProgramTrees.{Decides, LeavesByExit, OutOfBudget}
pub use Rattle.policy_glue.specs.Trees.{PolicyTree}
pub use Rattle.policy_glue.specs.Verdict.{Finding, Verdict, decided, judged_by}
pub use Rattle.policy_glue.specs.declared.compile_error.CompileError.{CompileError}
pub use Rattle.policy_glue.specs.declared.failure_policy.FailurePolicy.{FailurePolicy}
unfoldable pub use Rattle.policy_glue.specs.Documents.{document_of}
unfoldable pub use Rattle.policy_glue.specs.Evaluation.{decision_of}
unfoldable pub use Rattle.policy_glue.specs.Reading.{policy_in}
unfoldable pub use Rattle.policy_glue.specs.Verdict.{verdict_of}
pub use Rattle.run_ends.specs.Exiting.{HasExited}
pub use Rattle.run_ends.specs.declared.no_exit.NoExit.{NoExit}
pub use Rattle.run_ends.specs.declared.no_exit.NoExit.TheVariants.{Stopped}
pub use Rattle.serde_json.proofs.Views.{view-Object, view-lookup, view_of_ref}
pub use Rattle.serde_json.specs.Find.{get, get_member}
pub use Rattle.serde_json.specs.Read.{max_depth, of_items, of_json, of_members}
pub use Rattle.serde_json.specs.View.{members_view, view}
pub use Rattle.serde_json.specs.declared.value.Value.{Value}
pub use Rattle.value_store.specs.Laws.{StartIsCanonical}
pub use Rattle.value_store.specs.Placing.{Contents, charge_limit, first_values}
pub use Rattle.value_store.specs.Roots.{StoreStarts, contents_of, root_of, root_then, roots_of, sizes, start_contents}
pub use Rattle.value_store.specs.declared.table_error.TableError.{TableError}
pub use Rattle.value_store.specs.declared.table_error.TableError.TheVariants.{RootsTooLarge}
pub use Rattle.admission.specs.Deciding.{Reply, Case, Documents, IsAnswered, IsGateOn, IsPolicy, IsSaid, decision}
pub use Rattle.admission.specs.Deciding.{AreGiven, started, values_given, values_of_roots}
pub use Rattle.admission.specs.Exiting.{Exit, Exits, IsExit, OfVerdict, no_exit_error}
pub use Rattle.admission.specs.GatePolicies.{GatePolicy}
pub use Rattle.admission.specs.Lent.{documents_in}
pub use Rattle.admission.specs.OneAnswer.{ReviewHasOneResult}
pub use Rattle.admission.specs.Reviews.{ReturnsDue, ReviewRoots, accepted, contents_from, document_given, documents_from}
pub use Rattle.admission.specs.Reviews.{is_review, member_or_null, members_in, parts_given, parts_in, request_of}
pub use Rattle.admission.specs.Reviews.{root_refusal, text_or_empty, without}
pub use Rattle.admission.specs.RootValues.{AreOfRoots, DocumentsHaveValues, GivenHaveValues}
pub use Rattle.admission.specs.Decisions.{IsDecisionOf, Decision, decision_from_verdict}
pub use Rattle.admission.specs.Standing.{Images, PolicyRun, PolicyRunEnds, RunAgrees, exactly}
pub use Rattle.admission.specs.declared.language.Language.{Language}
pub use Rattle.admission.specs.declared.language.Language.TheVariants.{Profile, Wide}
pub use Rattle.admission.specs.declared.run_error.RunError.{RunError}
pub use Rattle.admission.specs.declared.run_error.RunError.TheVariants.{ReviewRefused, NamespaceOrParamsRefused}
pub use Rattle.admission.specs.declared.run_error.RunError.TheVariants.{OutOfSteps, OverLimit, OutOfReads}
unfoldable pub use Rattle.admission.specs.Reviews.{contents_given, documents_given, parts_of, uid_in}
