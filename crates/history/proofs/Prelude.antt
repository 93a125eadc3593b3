-- The names that these proofs use, from the library, the crates below and these definitions. It declares nothing.
pub use Rattle.std.proofs.Common.{Bool, IsTrue, List, None, Option, Result, Some, ℕ, ℤ, [], ap, append-nil, arith}
pub use Rattle.std.proofs.Common.{drop, false, get_or, if◌then◌else◌, inl, inr, is_ok, length, map, nat_eq, not}
pub use Rattle.std.proofs.Common.{option_map, refl, rules, subst, suc, sym, true, true≢false, zero, ◌%◌, ◌++◌, ◌+◌, ◌-◌, ◌<◌}
pub use Rattle.std.proofs.Common.{◌==◌, ◌∙◌, ◌∷◌, ◌≡◌, ◌≢◌, ◌≤◌, ◌⊎◌}
pub use Rattle.std.proofs.lemmas.Bool.{cases_lt}
pub use Rattle.std.proofs.lemmas.Bool.Decides.{nat_tests}
pub use Rattle.std.proofs.lemmas.Grind.{common_steps}
pub use Rattle.std.proofs.lemmas.List.{append_assoc, drop-append-le, drop-drop, drop-map, get_or-map, get_or_default}
pub use Rattle.std.proofs.lemmas.List.{length-append, length-drop, length-map, map-append}
pub use Rattle.std.proofs.lemmas.List.Elements.{All-append, All-drop, All-nil, All-push, All-same}
pub use Rattle.std.proofs.lemmas.List.Elements.{Contains-append_cases, Contains-append_left, Contains-append_right}
pub use Rattle.std.proofs.lemmas.List.Folds.{list_any_at, list_any_none}
pub use Rattle.std.proofs.lemmas.List.Sorted.{non_decreasing_from_is_sorted, searched}
pub use Rattle.std.proofs.lemmas.Option.{get_or_from_slice_get, slice_get_within}
pub use Rattle.std.specs.List.{All, Contains, IsAllAdjacentAnswer, list_any, slice_get}
pub use Rattle.std.specs.List.Sorted.{IsBinarySearchResult, IsNonDecreasing}
pub use Rattle.std.specs.Ordering.{is_le, is_some_and, nat_cmp}
pub use Rattle.bpf_machine.specs.Laws.{goes_on, state_after-add, state_after-more, state_after-zero, stays_stopped}
pub use Rattle.bpf_machine.specs.State.{State}
pub use Rattle.bpf_machine.specs.Step.{is_running}
unfoldable pub use Rattle.bpf_machine.specs.Step.{next_state}
unfoldable pub use Rattle.bpf_machine.specs.Trace.{state_after}
pub use Rattle.circular_buffer.specs.Buffer.{keep_last}
pub use Rattle.history.specs.Unchanged.{IsUnchangedHistory}
pub use Rattle.history.specs.Search.{FirstIsLeast, IsFirst, IsLast, LastIsGreatest}
pub use Rattle.history.specs.Past.{IsCheckpoint, IsDue, HasPlacesAdded, IsNearest, IsReplay, IsSpared, KeepsPlaces}
pub use Rattle.history.specs.Past.{Checkpoints, Reaches, Past, places_of, with_place}
unfoldable pub use Rattle.history.specs.Search.{first_stop, is_at, is_stop, last_stop}
