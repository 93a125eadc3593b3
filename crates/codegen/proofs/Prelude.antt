-- The names of the library, of the crates below and of the definitions that these proofs use. Declares nothing.
pub use Rattle.std.proofs.Common.{All, Bool, List, None, Option, Some, le-leb, nat_le, ℕ, [], ap, append_assoc, arith}
pub use Rattle.std.proofs.Common.{drop, false, if◌then◌else◌, inl, inr, leb-true, length, length-append, map, refl}
pub use Rattle.std.proofs.Common.{string_bytes, subst, suc, sym, take, true, ◌*◌, ◌++◌, ◌+◌, ◌<◌, ◌∙◌, ◌∷◌, ◌≡◌, ◌≤◌}
pub use Rattle.std.proofs.Common.{◌⊎◌}
pub use Rattle.std.proofs.lemmas.Bool.{and_from, and_parts, cases_lt}
pub use Rattle.std.proofs.lemmas.List.{length-map, take-map, take_all, take_at}
pub use Rattle.std.specs.declared.alloc.Global.{Global}
pub use Rattle.bpf_machine.specs.Limits.{record_limit}
pub use Rattle.cel_macros.specs.CoreTree.{Core, variable}
pub use Rattle.cel_macros.specs.CoreView.{core_view}
unfoldable pub use Rattle.cel_macros.specs.CoreTree.{plain_tree}
pub use Rattle.cel_measures.specs.Measures.{depth}
pub use Rattle.cel_measures.specs.Saturated.{saturated}
unfoldable pub use Rattle.cel_measures.specs.Measures.{deepest, need, nodes}
pub use Rattle.cel_types.specs.Declarations.{Declaration, declared, depths_of}
pub use Rattle.expression_code.proofs.Insns.{insns_append, memo_insns}
pub use Rattle.expression_code.proofs.Pieces.{size-append, size-cons, stands_rest}
pub use Rattle.expression_code.proofs.Returns.{routine_returns}
pub use Rattle.expression_code.proofs.Runs.{looser, to_place}
pub use Rattle.expression_code.specs.Instructions.{ja}
pub use Rattle.expression_code.specs.Limits.{call_reach, charge_per_unit, code_limit, memo_limit, node_limit}
pub use Rattle.expression_code.specs.Limits.{part_slots_per_node, slot_reach, steps_per_visit, variable_depth_limit}
pub use Rattle.expression_code.specs.Limits.{word_limit}
pub use Rattle.expression_code.specs.Paths.{FrameUse}
pub use Rattle.expression_code.specs.Pieces.{AreInsns, IsCodeAt, insn_slots, size, slots, spellings}
pub use Rattle.expression_code.specs.Scopes.{Returns, Variable, first_use}
pub use Rattle.expression_code.specs.Variables.{memo_tail}
pub use Rattle.insn_codec.specs.Spelling.{spelling}
pub use Rattle.insn_codec.specs.declared.insn.Insn.{Insn}
pub use Rattle.insn_codec.specs.declared.insn.Insn.TheVariants.{LoadWide}
pub use Rattle.value_store.specs.Value.{Value}
pub use Rattle.tree_code.specs.Code.Whole.{passed, routine_code}
pub use Rattle.tree_code.specs.Computes.{Computes, environment_in, routines}
pub use Rattle.tree_code.specs.Constants.{with_texts}
pub use Rattle.tree_code.specs.Cost.{spent_by}
pub use Rattle.tree_code.specs.HasLiterals.{HasLiterals}
pub use Rattle.tree_code.specs.Layer.{AreTaken, HasConstants, IsEmittable}
pub use Rattle.tree_code.specs.NameTable.{routines_of}
unfoldable pub use Rattle.tree_code.specs.Code.Expressions.{texts_of}
unfoldable pub use Rattle.tree_code.specs.Code.Whole.{whole_code}
pub use Rattle.codegen.specs.Added.{code_at, has_room, with_counted, with_expression, with_variable}
pub use Rattle.codegen.specs.Emission.{EmitsExpression, EmitsVariable, HasRoutines, LacksRoom, Running, Suits}
pub use Rattle.codegen.specs.Emission.{caller_context, context, cost_in, meaning_in, next_routine, next_variable}
pub use Rattle.codegen.specs.Emission.{setting}
pub use Rattle.codegen.specs.Emitted.{Emitted, IsTooLong, slot_spellings, with_insn_at, with_nodes, with_piece}
pub use Rattle.codegen.specs.Emitted.{without_code}
pub use Rattle.codegen.specs.Layer.{EmitsRoutine}
