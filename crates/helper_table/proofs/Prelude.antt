-- The names that these proofs use, from the library, the crates below and these definitions. It declares nothing.
pub use Rattle.std.proofs.Common.{All, Bool, Err, FitsSigned, IfSome, IsSome, List, None, Option, Some, ℕ, [], ap}
pub use Rattle.std.proofs.Common.{arith, bytes_eq, false, if◌then◌else◌, is_some, length, length-append, length-take}
pub use Rattle.std.proofs.Common.{lit<, max, nat_eq, nat_le, not, option_and_then, option_map, refl, slice_get}
pub use Rattle.std.proofs.Common.{slice_index, slice_index_or, subst, suc, sym, take, true, zero, ⊎_elim, ◌&&◌, ◌++◌}
pub use Rattle.std.proofs.Common.{◌+◌, ◌-◌, ◌<◌, ◌^◌, ◌∙◌, ◌∷◌, ◌≡◌, ◌≤◌, ◌⊎◌}
pub use Rattle.std.proofs.Math.Bool.{and-false, and-true}
pub use Rattle.std.proofs.lemmas.Bool.{cases_Bool, cond-false, cond-true, false_from_ne_true, or_cases, or_left}
pub use Rattle.std.proofs.lemmas.Bool.{or_right}
pub use Rattle.std.proofs.lemmas.List.Elements.{All-append, All-cons, All-head, All-nil, All-tail}
pub use Rattle.std.proofs.lemmas.List.Sums.{count_by-le-length}
pub use Rattle.std.proofs.lemmas.Map.Text.{is_eq-slice_cmp}
pub use Rattle.std.proofs.lemmas.Option.{get_or_from_slice_get, slice_get-get_or, slice_get_within}
pub use Rattle.std.proofs.lemmas.Result.{err_from_is_err_and}
pub use Rattle.std.proofs.lemmas.Str.{IsUtf8-from_is_utf8, is_utf8-from_IsUtf8}
pub use Rattle.std.specs.Cmp.Lexicographic.{slice_cmp}
pub use Rattle.std.specs.Int.{cast_signed, w64}
pub use Rattle.std.specs.List.{starts_with}
pub use Rattle.std.specs.Ordering.{is_eq, nat_cmp}
pub use Rattle.std.specs.Str.{IsUtf8}
pub use Rattle.std.specs.declared.alloc.AllocError.{AllocError}
pub use Rattle.std.specs.declared.cmp.Ordering.TheVariants.{Equal}
unfoldable pub use Rattle.std.specs.Str.{is_utf8}
pub use Rattle.guest_memory.specs.declared.fault.Fault.TheVariants.{F8}
unfoldable pub use Rattle.guest_memory.specs.Access.{constants_of}
unfoldable pub use Rattle.guest_memory.specs.Memory.{start_memory}
pub use Rattle.memchr.proofs.lemmas.MatchLemmas.{OccursAt-from_part, OccursAt-part}
pub use Rattle.memchr.specs.Find.{FindsNeedle, OccursAt}
pub use Rattle.text_kernels.specs.Scans.{code_points_of}
pub use Rattle.value_store.proofs.Places.{find_place, has_key_place}
pub use Rattle.value_store.proofs.Trees.{push_depth}
pub use Rattle.value_store.specs.Calls.{entries_at, joined, key_at, less_at, member_at, part_at, push_of, pushed}
pub use Rattle.value_store.specs.Calls.{put_in, put_of, text_at, value_at}
pub use Rattle.value_store.specs.Lookup.{find, has_key, inserted, place_of_key}
pub use Rattle.value_store.specs.Placing.{Contents, IsCanonicalAt, charge_limit, first_values, place, placed}
pub use Rattle.value_store.specs.Seen.{Seen, outcome_view, seen_size, sees_list, sees_map}
pub use Rattle.value_store.specs.Size.{depth_of, entries_depth}
pub use Rattle.value_store.specs.Value.{Entries, Items, Value, ValueOrError, boolean, entry, item, items_join}
pub use Rattle.value_store.specs.Value.{items_push, keys_of, list, list_of, map, no_entries, no_items, null, text}
pub use Rattle.value_store.specs.Value.{value, values_of}
pub use Rattle.helper_table.specs.Building.{depth_at, depth_limit, entered, grown, is_key, sequence}
pub use Rattle.helper_table.specs.Calls.{bytes_at, on_lent, on_operand, on_range, on_value, on_values, r1, r2, r3}
pub use Rattle.helper_table.specs.Calls.{row_numbered}
pub use Rattle.helper_table.specs.Comparisons.{contains}
pub use Rattle.helper_table.specs.Kinds.{can_join, have_order, is_list, is_new_key, is_value, may_be_in}
pub use Rattle.helper_table.specs.Laws.{ExtendsValues, Follows, Names, OthersPlaceNothing, PlacedExtends}
pub use Rattle.helper_table.specs.Laws.{PlacedIsNamed}
pub use Rattle.helper_table.specs.Lookups.{item_or_key, part_by, value_under}
pub use Rattle.helper_table.specs.Numbers.{helpers, numbered}
pub use Rattle.helper_table.specs.Operands.{place_part, text_part}
pub use Rattle.helper_table.specs.Outcome.{Halts, Leaves, Named, RowOutcome, Plain, Refused, answer_among, charged}
pub use Rattle.helper_table.specs.Outcome.{found, named}
pub use Rattle.helper_table.specs.Effects.{TakesEffect, outcome_by}
pub use Rattle.helper_table.specs.Tables.{AreEntriesBounded, AreItemsBounded, IsBounded, IsResultBounded, IsTable}
pub use Rattle.helper_table.specs.Tables.{TablesAreKept}
pub use Rattle.helper_table.specs.declared.placement.Placement.{Placement}
pub use Rattle.helper_table.specs.declared.helper.Helper.{Helper}
unfoldable pub use Rattle.helper_table.specs.Building.{join_row, list_new_row, map_new_row, push_row, put_row}
unfoldable pub use Rattle.helper_table.specs.Calls.{row_of}
unfoldable pub use Rattle.helper_table.specs.Comparisons.{contains_row, ends_row, equal_row, less_row, member_row}
unfoldable pub use Rattle.helper_table.specs.Comparisons.{starts_row}
unfoldable pub use Rattle.helper_table.specs.Conversions.{int_new_row, int_of_row, kind_row, not_row, text_const_row}
unfoldable pub use Rattle.helper_table.specs.Conversions.{text_of_int_row}
unfoldable pub use Rattle.helper_table.specs.Lookups.{count_row, field_row, has_row, index_row, item_row, size_row}
unfoldable pub use Rattle.helper_table.specs.Numbers.{of_number}
