-- The names of the library, of the crates below and of the definitions that these proofs use. Declares nothing.
pub use Rattle.std.proofs.Common.{Bool, List, None, Option, Some, ℕ, [], ap, arith, drop, length, map, max, refl, ◌+◌}
pub use Rattle.std.proofs.Common.{◌<◌, ◌∙◌, ◌∷◌, ◌≡◌}
pub use Rattle.cel_macros.specs.CoreTree.{CoreEntries, Core, Cores, call_or_has, method_or_fold, method_or_fold_map}
pub use Rattle.cel_macros.specs.CoreTree.{more_core_entries, more_cores, no_core_entries, no_cores, selection}
pub use Rattle.cel_macros.specs.CoreView.{core_entries, core_view, cores}
pub use Rattle.cel_macros.specs.Environment.{lookup}
pub use Rattle.cel_macros.specs.Expanding.{core_pair}
pub use Rattle.cel_macros.specs.Macros.{field_name, name_of}
pub use Rattle.cel_macros.specs.declared.core_tree.Core.{Core as CodeCore}
pub use Rattle.cel_macros.specs.declared.macros.Macro.{Macro}
unfoldable pub use Rattle.cel_macros.specs.Callee.{callee_named}
unfoldable pub use Rattle.cel_macros.specs.CoreTree.{expanded, expanded_entries, expanded_operand, expanded_trees}
unfoldable pub use Rattle.cel_macros.specs.Macros.{is_has, is_map, is_variables, macro_named}
pub use Rattle.cel_reader.specs.Tree.{TreeEntries, Tree, Trees, more_entries, more_trees, no_entries, no_trees}
pub use Rattle.cel_types.specs.Declarations.{declaration, depths_of}
pub use Rattle.cel_measures.specs.Parts.{ExpressionForm, by_method, called, selected}
pub use Rattle.cel_measures.specs.Saturated.{saturated}
pub use Rattle.cel_measures.specs.SourceMeasures.{SameDepth, SameNeed, SameNodes, deepest_by, greatest, need_by}
pub use Rattle.cel_measures.specs.SourceMeasures.{nodes_by, total}
unfoldable pub use Rattle.cel_measures.specs.Measures.{call_need, deepest, deepest_of, entries_deepest, entries_need}
unfoldable pub use Rattle.cel_measures.specs.Measures.{entries_nodes, need, needs, needs_behind, nodes, nodes_of}
unfoldable pub use Rattle.cel_measures.specs.Parts.{each_measured, entries_measured, measured, operand_measured}
