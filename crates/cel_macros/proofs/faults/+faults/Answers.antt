-- Proof obligations of the functions of the cycle `faults` (src/faults.rt).
use Rattle.cel_macros.proofs.Prelude.{ap, sym, ◌∙◌, map, view, trees, macro_named, macro_fault, trees_fault, fold_fault, refusal}
use Rattle.cel_macros.proofs.Arguments.{then_tested}
use Rattle.cel_macros.proofs.Views.{view_method}
use Rattle.cel_macros.proofs.faults.+faults.Goals as goal
use Rattle.std.specs.Option.{option_or}

pub test-returns-in_ok-test-in-Method : goal.test-returns-in_ok-test-in-Method
unfolding macro_fault
test-returns-in_ok-test-in-Method t c =
    let name = c.as_str-in-Method.ensures.value in
    let arguments = c.as_slice-in-Method.ensures.value in
    let more = c.as_slice-in-Method-2.ensures.value in
    let of = c.deref-in-Method.ensures in
    let node = c.in_ok-test_method-in-Method.ensures ∙ (λ j. refusal (fold_fault (macro_named (name j)) (trees (map view (arguments j))))) in
    let first = c.in_ok-test-in-Method.ensures ∙ ap (λ e. refusal (macro_fault (view e))) of in
    let rest = c.test_list-in-Method.ensures ∙ ap (λ es. refusal (trees_fault (trees (map view es)))) more in
    let whole = then_tested (fold_fault (macro_named (name 1)) (trees (map view c.in-Method.arguments.items))) (option_or (macro_fault (view c.in-Method.of.value)) (trees_fault (trees (map view c.in-Method.arguments.items)))) _ _ node (then_tested (macro_fault (view c.in-Method.of.value)) (trees_fault (trees (map view c.in-Method.arguments.items))) _ _ first rest) in
    let seen = ap view c.in-Method.is ∙ view_method c.in-Method.of c.in-Method.name c.in-Method.arguments in
    whole ∙ ap (λ e. refusal (macro_fault e)) (sym seen)
