-- Proof obligations of the functions of the cycle `translation` (src/translating.rt).
use Rattle.std.proofs.Common.{◌∙◌, [], ap, sym, string_bytes, arith, rules}
use Rattle.wide_meaning.specs.Functions.{function_named}
use Rattle.wide_translation.specs.Declarations.{scope_in, carried_view, use_view}
use Rattle.wide_translation.specs.Names.{written_name}
use Rattle.wide_translation.specs.Segments.{after_parts}
use Rattle.wide_translation.specs.Translated.{call_translation, qualified_translation, method_of}
use Rattle.wide_translation.proofs.ArmReturns.{has_returned, unary_returned, index_returned, binary_returned, ternary_returned, fold_returned as range_returned, filter_map_returned, optional_fold_returned}
use Rattle.wide_translation.proofs.Arms.{none_returns, one_returns, two_sets, two_refused, call_of_one, passed_on}
use Rattle.wide_translation.proofs.MethodArms.{two_returns, two_unknown, with_tables}
use Rattle.wide_translation.proofs.EntrySteps.{entries_refusal, entries_next, entries_whole}
use Rattle.wide_translation.proofs.ItemSteps.{item_next, items_refusal, items_whole}
use Rattle.wide_translation.proofs.PairReturns.{used_bytes, used_by_two, fold_names_refused, fold_returned, map_names_refused, map_returned}
use Rattle.wide_reader.specs.declared.wide.Wide.{size-Wide}
use Rattle.wide_translation.proofs.Depths.{arguments_fall}
use denote.Param.Weighed.{most}
use Rattle.wide_translation.proofs.translating.+translation.Goals as goal

pub items-loop-access-preserved : goal.items-loop-access-preserved
items-loop-access-preserved t c =
    c.loop-access.invariant
    ∙ item_next (scope_in c.args.names.now) c.args.given.now c.loop-access.access-index c.loop-access-item.result (after_parts c.loop-access.parts) (after_parts c.add_part.new.self) c.loop-access-test.true c.loop-access-item.is (c.in_ok-add_part.ensures.added _ c.translation.ensures)

pub items-returns-in_err-add_part : goal.items-returns-in_err-add_part
items-returns-in_err-add_part t c =
    passed_on _ c.in_err-add_part.field-0.0 c.from_residual.result
    (items_refusal (scope_in c.args.names.now) c.args.given.now c.loop-access.access-index c.loop-access-item.result c.in_err-add_part.field-0.0 c.loop-access.parts _ c.loop-access.invariant c.loop-access-test.true c.loop-access-item.is
    (λ m. c.in_err-add_part.ensures.refused m _ c.translation.ensures))
    c.from_residual.ensures.0 c.from_residual.ensures.1

pub items-returns : goal.items-returns
items-returns t c =
    items_whole (scope_in c.args.names.now) c.args.given.now c.loop-access.access-index c.loop-access.parts _ c.list.result c.loop-access.invariant c.loop-access-test.false c.list.ensures

pub pairs-returns-in_err-part : goal.pairs-returns-in_err-part
pairs-returns-in_err-part t c =
    passed_on _ c.in_err-part.field-0.0 c.from_residual.result
    (entries_refusal (scope_in c.args.names.now) c.args.given.now c.loop-access.access-index c.loop-access-item.result c.in_err-part.field-0.0 c.loop-access.out.items _ c.loop-access.invariant c.loop-access-test.true c.loop-access-item.is
    (c.in_err-part.ensures _ _ c.translation-first.ensures c.translation-second.ensures))
    c.from_residual.ensures.0 c.from_residual.ensures.1

pub pairs-loop-access-preserved : goal.pairs-loop-access-preserved
pairs-loop-access-preserved t c =
    entries_next (scope_in c.args.names.now) c.args.given.now c.loop-access.access-index c.loop-access-item.result c.in_ok-part.part c.loop-access.out.items c.push.new.self.items _ c.loop-access.invariant c.loop-access-test.true c.loop-access-item.is
    (c.in_ok-part.ensures _ _ c.translation-first.ensures c.translation-second.ensures) (search rules)

pub pairs-returns : goal.pairs-returns
pairs-returns t c =
    entries_whole (scope_in c.args.names.now) c.args.given.now c.loop-access.access-index c.loop-access.out.items c.as_slice.result.now _ _ c.loop-access.invariant c.loop-access-test.false
    c.as_slice.ensures.value c.map.ensures

pub qualified_call-returns-then-is_of_sets : goal.qualified_call-returns-then-is_of_sets
qualified_call-returns-then-is_of_sets t c =
    two_sets c.args.found c.args.name.now (scope_in c.args.names.now) c.args.arguments.now c.first-item.result c.second-item.result _ (omega arith) c.first-item.is c.second-item.is
    (sym c.is_of_sets.ensures ∙ c.if-is_of_sets.true) (c.sets.ensures _ _ c.translation-list.ensures c.translation-then-is_of_sets.ensures)

pub qualified_call-returns-else-is_of_sets : goal.qualified_call-returns-else-is_of_sets
qualified_call-returns-else-is_of_sets t c =
    two_refused c.args.found c.args.name.now (scope_in c.args.names.now) c.args.arguments.now c.first-item.result c.second-item.result _ (omega arith) c.first-item.is c.second-item.is
    (sym c.is_of_sets.ensures ∙ c.if-is_of_sets.false) c.unknown.ensures

pub call-returns-in-len1 : goal.call-returns-in-len1
call-returns-in-len1 t c =
    one_returns (call_translation (function_named c.args.name.now) c.args.name.now) (scope_in c.args.names.now) c.args.arguments.now c.argument-item.result _ (omega arith) c.argument-item.is
    (call_of_one _ c.in-Some.found c.args.name.now _ _ (search rules) (c.call.ensures _ c.translation.ensures))

pub qualified_call-returns-in-empty : goal.qualified_call-returns-in-empty
qualified_call-returns-in-empty t c =
    none_returns (qualified_translation c.args.found c.args.name.now) (scope_in c.args.names.now) c.args.arguments.now _ (omega arith) c.qualified.ensures

pub qualified_call-returns-in-len1 : goal.qualified_call-returns-in-len1
qualified_call-returns-in-len1 t c =
    one_returns (qualified_translation c.args.found c.args.name.now) (scope_in c.args.names.now) c.args.arguments.now c.argument-item.result _ (omega arith) c.argument-item.is (c.qualified-in-len1.ensures _ c.translation.ensures)

pub method-returns-in-empty : goal.method-returns-in-empty
method-returns-in-empty t c =
    none_returns (method_of (scope_in c.args.names.now).wrapped c.args.found (carried_view c.args.of)) (scope_in c.args.names.now) c.args.arguments.now _ (omega arith)
    (with_tables c.is_wrapped-has_tables.result (scope_in c.args.names.now).wrapped c.args.found (carried_view c.args.of) [] _ c.is_wrapped-has_tables.ensures c.method.ensures)

pub method-returns-in-len1 : goal.method-returns-in-len1
method-returns-in-len1 t c =
    one_returns (method_of (scope_in c.args.names.now).wrapped c.args.found (carried_view c.args.of)) (scope_in c.args.names.now) c.args.arguments.now c.argument-item.result _ (omega arith) c.argument-item.is
    (with_tables c.is_wrapped-has_tables.result (scope_in c.args.names.now).wrapped c.args.found (carried_view c.args.of) _ _ c.is_wrapped-has_tables.ensures (c.method_with.ensures _ c.translation-part.ensures))

pub method-returns-then-is_slice : goal.method-returns-then-is_slice
method-returns-then-is_slice t c =
    two_returns (scope_in c.args.names.now).wrapped c.is_wrapped-has_tables.result c.args.found (carried_view c.args.of) (scope_in c.args.names.now) c.args.arguments.now c.first-item.result c.second-item.result _ (omega arith) c.first-item.is c.second-item.is
    (sym c.is_slice.ensures ∙ c.if-is_slice.true) c.is_wrapped-has_tables.ensures (c.slice.ensures _ _ c.translation-from.ensures c.translation-to.ensures)

pub method-returns-else-is_slice : goal.method-returns-else-is_slice
method-returns-else-is_slice t c =
    two_unknown (scope_in c.args.names.now).wrapped c.args.found (carried_view c.args.of) (scope_in c.args.names.now) c.args.arguments.now c.first-item.result c.second-item.result _ (omega arith) c.first-item.is c.second-item.is
    (sym c.is_slice.ensures ∙ c.if-is_slice.false) c.unknown_method.ensures

pub translation-method-requires : goal.translation-method-requires
translation-method-requires t c = (
  omega (
    arith,
    c.decreases,
    arguments_fall c.in-Method.of c.in-Method.given c.in-Method.arguments,
    ap size-Wide c.in-Method.is,
    ap (most size-Wide) c.as_slice-in-Method.ensures.value,
  ),
  tt,
)

pub translation-returns-in_err-both_free-in-PairFold : goal.translation-returns-in_err-both_free-in-PairFold
translation-returns-in_err-both_free-in-PairFold t c =
    passed_on _ c.in_err-both_free-in-PairFold.field-0.0 c.from_residual-in_err-both_free-in-PairFold.result
    (fold_names_refused (scope_in c.args.names.now) c.args.e.now c.in-PairFold.found c.in-PairFold.range c.in-PairFold.key c.in-PairFold.value c.in-PairFold.part c.in-PairFold.is c.as_str-in-PairFold.result.now c.as_str-in-PairFold-2.result.now c.in_err-both_free-in-PairFold.field-0.0 c.as_str-in-PairFold.ensures.value c.as_str-in-PairFold-2.ensures.value c.in_err-both_free-in-PairFold.ensures.taken)
    c.from_residual-in_err-both_free-in-PairFold.ensures.0 c.from_residual-in_err-both_free-in-PairFold.ensures.1

pub translation-returns-in_ok-both_free-in-PairFold : goal.translation-returns-in_ok-both_free-in-PairFold
translation-returns-in_ok-both_free-in-PairFold t c =
    fold_returned (scope_in c.args.names.now) c.args.e.now c.in-PairFold.found c.in-PairFold.range c.in-PairFold.key c.in-PairFold.value c.in-PairFold.part c.in-PairFold.is (use_view c.in_one-given.result.used) (used_bytes (use_view c.in_one-given.result.used) c.as_str-in-PairFold-3.result.now c.as_str-in-PairFold-4.result.now (string_bytes c.in-PairFold.key) (string_bytes c.in-PairFold.value) c.deref-in-PairFold.result.now c.in-PairFold.part.value c.deref-in-PairFold.ensures c.as_str-in-PairFold-3.ensures.value c.as_str-in-PairFold-4.ensures.value c.in_one-given.ensures.used) c.as_str-in-PairFold.result.now c.as_str-in-PairFold-2.result.now c.as_str-in-PairFold.ensures.value c.as_str-in-PairFold-2.ensures.value c.in_ok-both_free-in-PairFold.ensures.free
    c.in_one-given.result.key.now c.in_one-given.result.value.now c.deref-in-PairFold-2.result.now c.deref-in-PairFold-3.result.now c.pair_fold.result
    (c.in_one-given.ensures.key ∙ c.as_str-in-PairFold-3.ensures.value) (c.in_one-given.ensures.value ∙ c.as_str-in-PairFold-4.ensures.value) c.deref-in-PairFold-2.ensures c.deref-in-PairFold-3.ensures
    (c.pair_fold.ensures _ _ _ (c.pair_range-over.ensures _ c.translation-operand.ensures) c.in_pair-body.ensures)

pub translation-returns-in_err-both_free-in-PairFilterMap : goal.translation-returns-in_err-both_free-in-PairFilterMap
translation-returns-in_err-both_free-in-PairFilterMap t c =
    passed_on _ c.in_err-both_free-in-PairFilterMap.field-0.0 c.from_residual-in_err-both_free-in-PairFilterMap.result
    (map_names_refused (scope_in c.args.names.now) c.args.e.now c.in-PairFilterMap.range c.in-PairFilterMap.key c.in-PairFilterMap.value c.in-PairFilterMap.predicate c.in-PairFilterMap.transform c.in-PairFilterMap.is c.as_str-in-PairFilterMap.result.now c.as_str-in-PairFilterMap-2.result.now c.in_err-both_free-in-PairFilterMap.field-0.0 c.as_str-in-PairFilterMap.ensures.value c.as_str-in-PairFilterMap-2.ensures.value c.in_err-both_free-in-PairFilterMap.ensures.taken)
    c.from_residual-in_err-both_free-in-PairFilterMap.ensures.0 c.from_residual-in_err-both_free-in-PairFilterMap.ensures.1

pub translation-returns-in_ok-both_free-in-PairFilterMap : goal.translation-returns-in_ok-both_free-in-PairFilterMap
translation-returns-in_ok-both_free-in-PairFilterMap t c =
    map_returned (scope_in c.args.names.now) c.args.e.now c.in-PairFilterMap.range c.in-PairFilterMap.key c.in-PairFilterMap.value c.in-PairFilterMap.predicate c.in-PairFilterMap.transform c.in-PairFilterMap.is (use_view c.in_two-given.result.used) (used_by_two (use_view c.in_two-given.result.used) c.as_str-in-PairFilterMap-3.result.now c.as_str-in-PairFilterMap-4.result.now (string_bytes c.in-PairFilterMap.key) (string_bytes c.in-PairFilterMap.value) c.deref-in-PairFilterMap.result.now c.in-PairFilterMap.predicate.value c.deref-in-PairFilterMap-2.result.now c.in-PairFilterMap.transform.value c.deref-in-PairFilterMap.ensures c.deref-in-PairFilterMap-2.ensures c.as_str-in-PairFilterMap-3.ensures.value c.as_str-in-PairFilterMap-4.ensures.value c.in_two-given.ensures.used) c.as_str-in-PairFilterMap.result.now c.as_str-in-PairFilterMap-2.result.now c.as_str-in-PairFilterMap.ensures.value c.as_str-in-PairFilterMap-2.ensures.value c.in_ok-both_free-in-PairFilterMap.ensures.free
    c.in_two-given.result.key.now c.in_two-given.result.value.now c.deref-in-PairFilterMap-3.result.now c.deref-in-PairFilterMap-4.result.now c.deref-in-PairFilterMap-5.result.now c.pair_filter_map.result
    (c.in_two-given.ensures.key ∙ c.as_str-in-PairFilterMap-3.ensures.value) (c.in_two-given.ensures.value ∙ c.as_str-in-PairFilterMap-4.ensures.value) c.deref-in-PairFilterMap-3.ensures c.deref-in-PairFilterMap-4.ensures c.deref-in-PairFilterMap-5.ensures
    (c.pair_filter_map.ensures _ _ _ _ (c.pair_range-over-in-PairFilterMap.ensures _ c.translation-operand-in-PairFilterMap.ensures) c.in_pair-test.ensures c.in_pair-body-in-PairFilterMap.ensures)

pub translation-returns-in-Index : goal.translation-returns-in-Index
translation-returns-in-Index t c =
    index_returned (scope_in c.args.names.now) c.args.e.now c.in-Index.of c.in-Index.access c.in-Index.at c.in-Index.is c.deref-in-Index.result.now c.deref-in-Index-3.result.now c.deref-in-Index-2.result.now _
    c.deref-in-Index.ensures c.deref-in-Index-3.ensures c.deref-in-Index-2.ensures (c.index.ensures _ _ c.translation-inner.ensures c.translation.ensures)

pub translation-returns-in-Has : goal.translation-returns-in-Has
translation-returns-in-Has t c =
    has_returned (scope_in c.args.names.now) c.args.e.now c.in-Has.of c.in-Has.field c.in-Has.is c.deref-in-Has.result.now c.as_str-in-Has.result.now _ c.deref-in-Has.ensures c.as_str-in-Has.ensures.value (c.tested.ensures _ c.translation-in-Has.ensures)

pub translation-returns-in-Unary : goal.translation-returns-in-Unary
translation-returns-in-Unary t c =
    unary_returned (scope_in c.args.names.now) c.args.e.now c.in-Unary.operator c.in-Unary.of c.in-Unary.is c.deref-in-Unary.result.now _ c.deref-in-Unary.ensures (c.unary.ensures _ c.translation-in-Unary.ensures)

pub translation-returns-in-Binary : goal.translation-returns-in-Binary
translation-returns-in-Binary t c =
    binary_returned (scope_in c.args.names.now) c.args.e.now c.in-Binary.operator c.in-Binary.left c.in-Binary.right c.in-Binary.is c.deref-in-Binary.result.now c.deref-in-Binary-2.result.now c.deref-in-Binary-3.result.now c.compares-is_compared.result c.is_empty.result _
    c.deref-in-Binary.ensures c.deref-in-Binary-2.ensures c.deref-in-Binary-3.ensures c.compares-is_compared.ensures c.is_empty.ensures (c.binary.ensures _ _ c.operand-first.ensures c.operand-second.ensures)

pub translation-returns-in-Ternary : goal.translation-returns-in-Ternary
translation-returns-in-Ternary t c =
    ternary_returned (scope_in c.args.names.now) c.args.e.now c.in-Ternary.condition c.in-Ternary.yes c.in-Ternary.no c.in-Ternary.is c.deref-in-Ternary.result.now c.deref-in-Ternary-2.result.now c.deref-in-Ternary-3.result.now _
    c.deref-in-Ternary.ensures c.deref-in-Ternary-2.ensures c.deref-in-Ternary-3.ensures (c.ternary.ensures _ _ _ c.translation-test.ensures c.translation-first.ensures c.translation-in-Ternary.ensures)

pub translation-returns-in_ok-binder-in-Fold : goal.translation-returns-in_ok-binder-in-Fold
translation-returns-in_ok-binder-in-Fold t c =
    range_returned (scope_in c.args.names.now) c.args.e.now c.in-Fold.found c.in-Fold.range c.in-Fold.item c.in-Fold.part c.in-Fold.is c.deref-in-Fold.result.now c.deref-in-Fold-2.result.now c.as_str-in-Fold.result.now c.as_str-in-Fold-3.result.now c.as_str-in-Fold-4.result.now _
    c.deref-in-Fold.ensures c.deref-in-Fold-2.ensures c.as_str-in-Fold.ensures.value c.as_str-in-Fold-3.ensures.value (c.as_str-in-Fold-4.ensures.value ∙ c.in_ok-binder-in-Fold.ensures ∙ ap written_name c.as_str-in-Fold-2.ensures.value)
    (sym c.is_taken.ensures ∙ c.if-is_taken.false) (c.fold.ensures _ _ c.translation-of.ensures c.in_macro-body.ensures)

pub translation-returns-in_ok-binder-in-FilterMap : goal.translation-returns-in_ok-binder-in-FilterMap
translation-returns-in_ok-binder-in-FilterMap t c =
    filter_map_returned (scope_in c.args.names.now) c.args.e.now c.in-FilterMap.range c.in-FilterMap.item c.in-FilterMap.predicate c.in-FilterMap.transform c.in-FilterMap.is c.deref-in-FilterMap.result.now c.deref-in-FilterMap-2.result.now c.deref-in-FilterMap-3.result.now c.as_str-in-FilterMap.result.now c.as_str-in-FilterMap-3.result.now c.as_str-in-FilterMap-4.result.now c.as_str-in-FilterMap-5.result.now _
    c.deref-in-FilterMap.ensures c.deref-in-FilterMap-2.ensures c.deref-in-FilterMap-3.ensures c.as_str-in-FilterMap.ensures.value c.as_str-in-FilterMap-3.ensures.value c.as_str-in-FilterMap-4.ensures.value (c.as_str-in-FilterMap-5.ensures.value ∙ c.in_ok-binder-in-FilterMap.ensures ∙ ap written_name c.as_str-in-FilterMap-2.ensures.value)
    (sym c.is_taken-in-FilterMap.ensures ∙ c.if-is_taken-2.false) (c.filter_map.ensures _ _ _ c.translation-of-in-FilterMap.ensures c.in_macro-test.ensures c.in_macro-body-in-FilterMap.ensures)

pub translation-returns-in_ok-binder-in-OptionalFold : goal.translation-returns-in_ok-binder-in-OptionalFold
translation-returns-in_ok-binder-in-OptionalFold t c =
    optional_fold_returned (scope_in c.args.names.now) c.args.e.now c.in-OptionalFold.found c.in-OptionalFold.of c.in-OptionalFold.item c.in-OptionalFold.part c.in-OptionalFold.is c.deref-in-OptionalFold.result.now c.deref-in-OptionalFold-2.result.now c.as_str-in-OptionalFold.result.now c.as_str-in-OptionalFold-3.result.now c.as_str-in-OptionalFold-4.result.now _
    c.deref-in-OptionalFold.ensures c.deref-in-OptionalFold-2.ensures c.as_str-in-OptionalFold.ensures.value c.as_str-in-OptionalFold-3.ensures.value (c.as_str-in-OptionalFold-4.ensures.value ∙ c.in_ok-binder-in-OptionalFold.ensures ∙ ap written_name c.as_str-in-OptionalFold-2.ensures.value)
    (sym c.is_taken-in-OptionalFold.ensures ∙ c.if-is_taken-3.false) (c.optional_fold.ensures _ _ c.translation-operand-in-OptionalFold.ensures c.in_macro-body-in-OptionalFold.ensures)
