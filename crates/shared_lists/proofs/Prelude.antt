-- The names of the library, of the crates below and of the definitions that these proofs use. Declares nothing.
pub use Rattle.std.proofs.Common.{List, ℕ, [], ap, append-nil, ap₂, arith, drop, get_or, length, length-append}
pub use Rattle.std.proofs.Common.{length-drop, refl, rules, slice_range, slice_set, suc, sym, take, zero, ◌++◌, ◌+◌}
pub use Rattle.std.proofs.Common.{◌-◌, ◌<◌, ◌∙◌, ◌∷◌, ◌≡◌, ◌≤◌}
pub use Rattle.std.proofs.Math.Seq.{drop-append_seam, get_or-append_seam}
pub use Rattle.std.proofs.lemmas.List.{drop-append-le, get_or-map, length-set, map-append, take-append-le, take_all}
pub use Rattle.shared_lists.specs.Items.{with_one, HoldsItems, ExtendsLists}
