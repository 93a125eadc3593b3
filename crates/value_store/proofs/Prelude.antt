-- The names that these proofs use, from the library, the crates below and these definitions. It declares nothing.
pub use Rattle.std.proofs.Common.{BTreeMap, Bool, Bor, Err, Global, Greater, IfSome, IsOk, IsSome, Less, List, None}
pub use Rattle.std.proofs.Common.{Ok, Option, Result, Some, String, Vec, ℕ, [], add-one, ap, append_assoc, arith}
pub use Rattle.std.proofs.Common.{bytes_eq, cond, drop, false, get_or, if◌then◌else◌, is_some, length, length-append}
pub use Rattle.std.proofs.Common.{map, max, nat_cmp, nat_le, nat_lt, not, option_and_then, option_map, refl, rules}
pub use Rattle.std.proofs.Common.{slice_get, string_bytes, string_cmp, subst, suc, sym, take, true, zero, ◌&&◌, ◌++◌}
pub use Rattle.std.proofs.Common.{◌+◌, ◌-◌, ◌<◌, ◌==◌, ◌^◌, ◌∙◌, ◌∷◌, ◌≡◌, ◌≢◌, ◌≤◌}
pub use Rattle.std.proofs.lemmas.Bool.{and_parts, false_from_ne_true, or_parts}
pub use Rattle.std.proofs.lemmas.Cmp.{nat_list_cmp_total}
pub use Rattle.std.proofs.lemmas.List.{drop_more, map-append}
pub use Rattle.std.proofs.lemmas.Map.Text.{is_eq-slice_cmp}
pub use Rattle.std.proofs.lemmas.Option.{slice_get-map}
pub use Rattle.std.proofs.lemmas.Slice.Eq.{bytes_eq-Decides}
pub use Rattle.std.specs.Cmp.Lexicographic.{slice_cmp}
pub use Rattle.std.specs.List.{AllByRecursion, AllZip}
pub use Rattle.std.specs.Ordering.{is_eq}
pub use Rattle.std.specs.Prelude.{⊤}
pub use Rattle.std.specs.declared.cmp.Ordering.{Ordering}
unfoldable pub use Rattle.std.specs.Fmt.{digits}
unfoldable pub use Rattle.std.specs.List.Sorted.{IsStrictlySortedBy}
unfoldable pub use Rattle.json.specs.Print.{escape_byte}
pub use Rattle.serde_json.proofs.Views.{Entry, view-Array, view-Object}
pub use Rattle.serde_json.specs.Data.{Data}
pub use Rattle.serde_json.specs.Find.{get_item}
pub use Rattle.serde_json.specs.View.{items_of, items_view, members_view, view}
pub use Rattle.serde_json.specs.Written.{compact_text, has_float, items_have_float, items_text, members_have_float}
pub use Rattle.serde_json.specs.Written.{members_text}
pub use Rattle.text_kernels.specs.Scans.{first_difference_of}
pub use Rattle.value_store.specs.Calls.{entries_part, join_of, joined, part_at, parts_of, push_of, pushed, put_in}
pub use Rattle.value_store.specs.Calls.{put_of, value_at}
pub use Rattle.value_store.specs.Equality.{entries_equal, equal, items_equal}
pub use Rattle.value_store.specs.Json.{entries_text, json_text}
pub use Rattle.value_store.specs.Keys.{AreElementsOrdered, AreEntriesOrdered, AreItemsOrdered, AreMembersOrdered}
pub use Rattle.value_store.specs.Keys.{AreOrdered, Ascend, IsDocumentOrdered, IsOrdered, IsResultOrdered, member_keys}
pub use Rattle.value_store.specs.Laws.{EqualDecides, InsertedInOrder, InsertedOnce, IsOrderedAt, KeepsOrder}
pub use Rattle.value_store.specs.Laws.{StartIsCanonical, StartIsOrdered}
pub use Rattle.value_store.specs.Lookup.{find, has_item, has_key, inserted, inserted_by, place_of_key}
pub use Rattle.value_store.specs.Nodes.{stored, stored_values}
pub use Rattle.value_store.specs.Order.{text_less}
pub use Rattle.value_store.specs.Placing.{AreCanonical, Contents, IsCanonicalAt, IsStore, charge_limit, first_values}
pub use Rattle.value_store.specs.Placing.{placed}
pub use Rattle.value_store.specs.Plain.{charge_in, deepest, has_first_values, nth_member, part_of, plain_entries}
pub use Rattle.value_store.specs.Plain.{plain_items, plain_value, saturated, size_in}
pub use Rattle.value_store.specs.Roots.{StoreStarts, before, contents_of, has_other, items_have_other, items_value}
pub use Rattle.value_store.specs.Roots.{members_have_other, members_value, root_of, roots_of, sizes, start_contents}
pub use Rattle.value_store.specs.Roots.{value_of}
pub use Rattle.value_store.specs.Size.{depth_of, entries_depth, entries_size, items_depth, items_size, result_depth}
pub use Rattle.value_store.specs.Size.{size_of}
pub use Rattle.value_store.specs.Value.{Entries, Items, Value, ValueOrError, entry, item, items_join, items_push}
pub use Rattle.value_store.specs.Value.{keys_of, list, list_of, no_entries, no_items, value, values_of}
pub use Rattle.value_store.specs.declared.measure.Measure.{Measure}
pub use Rattle.value_store.specs.declared.node.Node.{Node}
pub use Rattle.value_store.specs.declared.plain_table.PlainTable.{PlainTable}
pub use Rattle.value_store.specs.declared.table_error.TableError.{TableError}
pub use Rattle.value_store.specs.declared.table_error.TableError.TheVariants.{Memory, RootsTooLarge}
unfoldable pub use Rattle.value_store.specs.Plain.{measure_of}
