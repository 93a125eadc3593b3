-- Proof obligations of the functions of the cycle `expansion` (src/expanding.rt).
use Rattle.cel_macros.proofs.Prelude.{◌≡◌, map, string_bytes, ap, sym, ◌∙◌, IfOk-weaker, AllocError, view, trees, CodeCore, expanded, core_view, cores, call_of}
use Rattle.cel_macros.specs.CoreTree as node
use Rattle.cel_macros.proofs.PartsExpanded.{call_expanded, each_expanded}
use Rattle.cel_macros.proofs.Views.{view_call}
use Rattle.cel_macros.proofs.expanding.+expansion.Goals as goal

pub expansion-returns-in_ok-parts-in-Call : goal.expansion-returns-in_ok-parts-in-Call
expansion-returns-in_ok-parts-in-Call t c =
    let n = string_bytes c.in-Call.name in
    let items = c.in-Call.arguments.items in
    let parts = ap cores (c.in_ok-parts-in-Call.ensures ∙ ap (map (λ e. expanded (view e))) c.as_slice.ensures.value) ∙ each_expanded items in
    let step : call_of c.as_str-in-Call.result.now (cores (map core_view c.in_ok-parts-in-Call.parts.items)) ≡ call_of n (node.expanded_trees (trees (map view items))) = λ j. call_of (c.as_str-in-Call.ensures.value j) (parts j) in
    let whole = step ∙ sym (call_expanded n (trees (map view items))) ∙ ap expanded (sym (ap view c.in-Call.is ∙ view_call c.in-Call.name c.in-Call.arguments)) in
    IfOk-weaker {X = CodeCore} {Y = AllocError} c.call.result (λ d. core_view d ≡ call_of c.as_str-in-Call.result.now (cores (map core_view c.in_ok-parts-in-Call.parts.items))) (λ d. core_view d ≡ expanded (view c.args.e.now)) (λ d h. h ∙ whole) c.call.ensures
