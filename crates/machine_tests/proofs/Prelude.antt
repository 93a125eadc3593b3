-- The names that these proofs use, from the library, the crates below and these definitions. It declares nothing.
pub use Rattle.std.proofs.Common.{Bool, IsSome, List, None, Option, Some, ℕ, ℤ, [], ap, arith, length, option_map}
pub use Rattle.std.proofs.Common.{refl, slice_get, suc, sym, zero, ◌<◌, ◌∙◌, ◌∷◌, ◌≡◌}
pub use Rattle.value_store.proofs.Places.{absent_fits}
pub use Rattle.value_store.specs.Calls.{equal_at, find_at, joined, key_at, member_at, part_at, pushed}
pub use Rattle.value_store.specs.Calls.{put_in, text_at}
pub use Rattle.value_store.specs.Lookup.{inserted, place_of_key}
pub use Rattle.value_store.specs.Seen.{outcome_view, sees_bool, sees_int, sees_list, sees_map, sees_text}
pub use Rattle.value_store.specs.Value.{Entries, Items, Value, ValueOrError, error, keys_of, list_of, value}
