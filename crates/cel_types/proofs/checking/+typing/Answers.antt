-- Proofs of `checking::typing`: the result meets the contract.

use Rattle.cel_types.proofs.Prelude.{◌≡◌, ap, ◌∙◌, rules, core_view, view_call, view_method, view_map, scope_within, refused, fault_of, core_typing}
use Rattle.cel_types.proofs.Arguments.{call_seen, method_refused, method_same, method_seen, map_seen}
use Rattle.cel_types.proofs.checking.+typing.Goals as goal

pub core_type-returns-in-Call : goal.core_type-returns-in-Call
core_type-returns-in-Call t c =
    call_seen _ _ c.in-Call.arguments.items _ (scope_within c.args.names.now c.args.variables.now) _ (ap core_view c.in-Call.is ∙ view_call c.in-Call.callee c.in-Call.arguments) c.as_slice.ensures.value c.call_type.ensures

pub core_type-returns-in_err-found-in-Method : goal.core_type-returns-in_err-found-in-Method
core_type-returns-in_err-found-in-Method t c =
    let s = scope_within c.args.names.now c.args.variables.now in
    let found = c.in_err-found-in-Method.ensures ∙ ap (λ a. core_typing (core_view a) s) c.deref-in-Method.ensures in
    let whole : refused (fault_of c.in_err-found-in-Method.field-0.0) ≡ core_typing (core_view c.args.core.now) s = method_refused _ _ _ _ s _ (ap core_view c.in-Method.is ∙ view_method c.in-Method.of c.in-Method.callee c.in-Method.arguments) found in
    search rules

pub core_type-returns-in_ok-found-in-Method : goal.core_type-returns-in_ok-found-in-Method
core_type-returns-in_ok-found-in-Method t c =
    let s = scope_within c.args.names.now c.args.variables.now in
    let found = c.in_ok-found-in-Method.ensures ∙ ap (λ a. core_typing (core_view a) s) c.deref-in-Method.ensures in
    method_seen _ _ _ _ s c.in_ok-found-in-Method.found _
    (method_same _ _ _ c.in-Method.arguments.items _ (ap core_view c.in-Method.is ∙ view_method c.in-Method.of c.in-Method.callee c.in-Method.arguments) c.as_slice-in-Method.ensures.value)
    found c.method_type.ensures

pub core_type-returns-in-Map : goal.core_type-returns-in-Map
core_type-returns-in-Map t c =
    map_seen _ c.in-Map.pairs.items _ (scope_within c.args.names.now c.args.variables.now) _ (ap core_view c.in-Map.is ∙ view_map c.in-Map.pairs) c.as_slice-in-Map.ensures.value c.entries_type.ensures
