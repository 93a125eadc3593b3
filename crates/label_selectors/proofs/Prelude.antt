-- The names of the library and of the definitions that these proofs use. Declares nothing.
pub use Rattle.std.proofs.Common.{ap, arith, bytes_eq, drop, length, length-append, map, refl, string_bytes, suc, sym}
pub use Rattle.std.proofs.Common.{Bool, true, Global, List, [], Option, None, Some, ℕ}
pub use Rattle.std.proofs.Common.{◌&&◌, ◌+◌, ◌==◌, ◌||◌, ◌∙◌, ◌∷◌, ◌≡◌}
pub use Rattle.std.proofs.lemmas.Bool.{eqb-true}
pub use Rattle.std.proofs.lemmas.Bool.Decides.{Decides-by_and, Decides-by_or, Decides-like, Decides-not, nat_tests}
pub use Rattle.std.proofs.lemmas.List.{length-map}
pub use Rattle.std.proofs.lemmas.List.Elements.{Decides-contains}
pub use Rattle.std.proofs.lemmas.List.Folds.{list_all-append, list_all-map}
pub use Rattle.std.proofs.lemmas.Slice.Eq.{bytes_eq-Decides}
pub use Rattle.std.specs.Bool.{Decides}
pub use Rattle.std.specs.List.{All, Contains, list_all, list_any}
pub use Rattle.std.specs.declared.string.String.{String}
pub use Rattle.label_selectors.specs.Laws.{Fits, FitsValue}
pub use Rattle.label_selectors.specs.Selectors.{Labels, LabelSelector, Requirement, fits, fits_value, is_empty, is_one_of, label_requirement, label_view, labels_of}
pub use Rattle.label_selectors.specs.Selectors.{pairs_view, requirement_view, requirements, selector_view, selects}
pub use Rattle.label_selectors.specs.Storing.{is_label_value}
pub use Rattle.label_selectors.specs.declared.label_selector.LabelSelector.{LabelSelector as CodeLabelSelector}
pub use Rattle.label_selectors.specs.declared.operator.Operator.{Operator}
pub use Rattle.label_selectors.specs.declared.operator.Operator.TheVariants.{DoesNotExist, Exists, In, NotIn}
