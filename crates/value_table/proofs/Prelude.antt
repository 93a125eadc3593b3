-- The names of the library, of the crates below and of the definitions that these proofs use. Declares nothing.
pub use Rattle.std.proofs.Common.{◌≢◌, Bool, Decides, Err, Global, IfSome, IsSome, List, None, Ok, Option, Result, Some}
pub use Rattle.std.proofs.Common.{Vec, ℕ, [], add-one, ap, append-nil, append_assoc, ap₂, arith, bytes_eq, cond}
pub use Rattle.std.proofs.Common.{decimal, drop, drop-cons, false, get_or, if◌then◌else◌, inl, inr, is_some, length}
pub use Rattle.std.proofs.Common.{length-append, length-drop, length-take, map, max, min, nat_le, nat_lt, not}
pub use Rattle.std.proofs.Common.{option_map, refl, rules, set, slice_get, slice_index_or, slice_range}
pub use Rattle.std.proofs.Common.{string_bytes, subst, suc, sym, take, true, true≢false, unwrap_or, vec_capacity}
pub use Rattle.std.proofs.Common.{w64, zero, zero-add, ◌%◌, ◌*◌, ◌++◌, ◌+◌, ◌-◌, ◌/◌, ◌<◌, ◌^◌, ◌||◌, ◌∙◌}
pub use Rattle.std.proofs.Common.{◌∷◌, ◌≡◌, ◌≤◌, ◌⊎◌}
pub use Rattle.std.proofs.Math.Seq.{drop-nil, get_or-append_seam}
pub use Rattle.std.proofs.lemmas.Bool.{cases_eq, cases_lt, cond-false, cond-true, false_from_ne_true, ltb-false}
pub use Rattle.std.proofs.lemmas.Bool.{ltb-true, or_parts}
pub use Rattle.std.proofs.lemmas.Bool.Decides.{nat_tests}
pub use Rattle.std.proofs.lemmas.Cmp.{nat_list_cmp_total}
pub use Rattle.std.proofs.lemmas.Fmt.{decimal_digit, decimal_step, length-decimal-le}
pub use Rattle.std.proofs.lemmas.Int.{to_z-of_z}
pub use Rattle.std.proofs.lemmas.List.{drop_all, get_or-append_right, get_or-map}
pub use Rattle.std.proofs.lemmas.List.{get_or-set_other, get_or-set_same, get_or-take, get_or_append_left}
pub use Rattle.std.proofs.lemmas.List.{get_or_default, length-map, length-set, length-take-le, map-append}
pub use Rattle.std.proofs.lemmas.List.{nil_from_length, take-append-le, take_all, take_more}
pub use Rattle.std.proofs.lemmas.Map.Lookups.{exact_bytes}
pub use Rattle.std.proofs.lemmas.Map.Text.{btree_map_updates_text, is_eq-slice_cmp}
pub use Rattle.std.proofs.lemmas.Option.{get_or_from_slice_get, same_Some, slice_get-get_or, slice_get-map}
pub use Rattle.std.proofs.lemmas.Option.{slice_get_within, unwrap_or-slice_get}
pub use Rattle.std.proofs.lemmas.Result.{IfOk-weaker}
pub use Rattle.std.proofs.lemmas.Slice.Eq.{bytes_eq-Decides}
pub use Rattle.std.specs.Array.Iter.{array_into_iter_items}
pub use Rattle.std.specs.BTreeMap.{get_by_text}
pub use Rattle.std.specs.Bool.{one_answer}
pub use Rattle.std.specs.Cmp.Lexicographic.{slice_cmp}
pub use Rattle.std.specs.List.{AllByRecursion}
pub use Rattle.std.specs.Map.{update}
pub use Rattle.std.specs.Ordering.{is_eq, nat_cmp, ordering_reverse}
pub use Rattle.std.specs.Prelude.{⊤}
pub use Rattle.std.specs.Vec.Iter.{into_iter_items, into_iter_len}
pub use Rattle.std.specs.declared.alloc.AllocError.{AllocError}
pub use Rattle.std.specs.declared.cmp.Ordering.{Ordering}
pub use Rattle.std.specs.declared.cmp.Ordering.TheVariants.{Greater, Less}
unfoldable pub use Rattle.std.specs.List.Sorted.{IsStrictlySortedBy}
pub use Rattle.json.specs.Print.{print, quoted}
pub use Rattle.json.specs.Token.{Token}
unfoldable pub use Rattle.json.specs.Print.{print_from}
pub use Rattle.serde_json.specs.View.{items_view, members_view, view}
pub use Rattle.serde_json.specs.declared.value.Value.{the_lemmas}
pub use Rattle.value_store.proofs.Equal.{equal_decides}
pub use Rattle.value_store.proofs.Keys.{inserted_once, join_ordered, push_ordered, put_ordered}
pub use Rattle.value_store.proofs.Ordered.{value_ordered}
pub use Rattle.value_store.proofs.Places.{has_key_place}
pub use Rattle.value_store.proofs.Starting.{AllWhole, charged_ok, due, refused, started}
pub use Rattle.value_store.proofs.Trees.{join_depth, push_depth}
pub use Rattle.value_store.specs.Calls.{Places, entries_part, join_of, key_at, part_at, parts_of, push_of, pushed}
pub use Rattle.value_store.specs.Calls.{put_in, put_of, text_at, value_at}
pub use Rattle.value_store.specs.Equality.{equal}
pub use Rattle.value_store.specs.Json.{comma_after, entries_text, items_text, json_text, shown_text}
pub use Rattle.value_store.specs.Keys.{AreEntriesOrdered, AreItemsOrdered, AreOrdered, Ascend, IsDocumentOrdered}
pub use Rattle.value_store.specs.Keys.{IsOrdered}
pub use Rattle.value_store.specs.Lookup.{has_item, inserted, inserted_by, member, place_of_key, text_part}
pub use Rattle.value_store.specs.Placing.{Contents, first_values, is_appended, place, placed}
pub use Rattle.value_store.specs.Plain.{charge_in, plain_entries, plain_items, plain_value, saturated}
pub use Rattle.value_store.specs.Roots.{StoreStarts, items_have_other, members_have_other, start_contents}
pub use Rattle.value_store.specs.Seen.{outcome_view, sees_list, sees_map}
pub use Rattle.value_store.specs.Size.{depth_of, entries_depth, items_depth, result_depth}
pub use Rattle.value_store.specs.Value.{Entries, Items, Value, ValueOrError, boolean, entry, error, int, item}
pub use Rattle.value_store.specs.Value.{items_join, items_of, items_push, keys_of, list, list_of, no_entries}
pub use Rattle.value_store.specs.Value.{no_items, text, value, values_of}
pub use Rattle.value_store.specs.declared.table_error.TableError.{TableError}
pub use Rattle.value_store.specs.declared.table_error.TableError.TheVariants.{Memory}
pub use Rattle.value_table.specs.Chunks.{AreChunks, AreFull, joined}
pub use Rattle.value_table.specs.Entries.{HoldsKeys, put_values, with_one}
pub use Rattle.value_table.specs.Equality.{AreContents, AreMeanings, AreOneClass, ClassesStay, Compares, Finds}
pub use Rattle.value_table.specs.Equality.{IsRoot, LeadDown, Shortens, way_down}
pub use Rattle.value_table.specs.Growing.{Enters, HasGrown, IsValueAt}
pub use Rattle.value_table.specs.Heads.{Head, built, entries, entries_of, head, items, parts, simple, texts_of}
pub use Rattle.value_table.specs.Heads.{values_at}
pub use Rattle.value_table.specs.Heap.{Gains, IsUnchangedHeap, IsHeap, content_at, heap_values}
pub use Rattle.value_table.specs.Heaps.{AddsValue, AreBelow, AreCells, AreKeys, AreSame, AreTexts, ExtendsBackings}
pub use Rattle.value_table.specs.Heaps.{CellFound, HoldsItems, IsCell, IsContent, IsRange, IsText}
pub use Rattle.value_table.specs.Held.{Held}
pub use Rattle.value_table.specs.Lengths.{commas, json_length}
pub use Rattle.value_table.specs.Meaning.{entries_at, grown, items_at, key_in, keys_at, meaning, part_of}
pub use Rattle.value_table.specs.Meaning.{reference_of, refs_at, value_in}
pub use Rattle.value_table.specs.Measures.{IsMeasure}
pub use Rattle.value_table.specs.References.{AreReferences, IsPlace, named, place_at, reference_values}
pub use Rattle.value_table.specs.Search.{IsKeyAt, IsInsertionPlace, place_among}
pub use Rattle.value_table.specs.Start.{IsWelcome, StartsWithValues}
pub use Rattle.value_table.specs.Tokens.{closing, entries_tokens, head_keys, items_tokens, name_tokens, opening}
pub use Rattle.value_table.specs.Tokens.{row_tokens, value_tokens}
pub use Rattle.value_backings.specs.declared.backings.Backings.{Backings}
pub use Rattle.value_table.specs.declared.cell.Cell.{Cell}
pub use Rattle.value_table.specs.declared.content.Content.{Content}
pub use Rattle.value_table.specs.declared.heap.Heap.{Heap}
pub use Rattle.value_table.specs.declared.measure.Measure.{Measure}
pub use Rattle.value_backings.specs.declared.part.Part.{Part}
