-- The names of the library, of the crates below and of the definitions that these proofs use. Declares nothing.
pub use Rattle.std.proofs.Common.{List, ℕ, [], ap, append-nil, append_assoc, arith, drop, get_or, length}
pub use Rattle.std.proofs.Common.{length-append, length-drop, refl, slice_range, sym, take, true, vec_capacity}
pub use Rattle.std.proofs.Common.{vec_len, ◌++◌, ◌+◌, ◌-◌, ◌<◌, ◌^◌, ◌∙◌, ◌∷◌, ◌≡◌, ◌≤◌}
pub use Rattle.std.proofs.lemmas.List.{get_or-drop, get_or_append_left, take_more}
pub use Rattle.std.proofs.lemmas.Str.{IsUtf8-append}
pub use Rattle.json.specs.Print.{escape, quoted}
pub use Rattle.value_store.specs.Plain.{saturated}
pub use Rattle.shared_lists.specs.Items.{ExtendsLists}
pub use Rattle.value_backings.specs.Ranges.{part_of}
pub use Rattle.value_backings.specs.Stored.{IsText, ExtendsBackings}
pub use Rattle.value_backings.specs.declared.backings.Backings.{Backings}
pub use Rattle.value_backings.specs.declared.part.Part.{Part}
