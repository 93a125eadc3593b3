-- Proof obligations of the functions of the cycle `faults` (src/faults.rt).
use Rattle.wide_reader.proofs.Prelude.{◌≡◌, length, arith, ap, sym, ◌∙◌, map, view, wides}
use Rattle.std.specs.Option.{option_or}
use Rattle.wide_reader.specs.Forms.{form_of}
use Rattle.wide_reader.specs.Faults.{fault, wides_fault, form_fault}
use Rattle.wide_reader.proofs.Formed.{count_of}
use Rattle.wide_reader.proofs.Tested.{view_method}
use Rattle.wide_reader.proofs.faults.+faults.Goals as goal

pub fault-returns-in-Method : goal.fault-returns-in-Method
unfolding fault
fault-returns-in-Method t c =
    let name = c.as_str-in-Method.ensures.value in
    let len : c.len.result ≡ length c.in-Method.arguments.items = omega (arith, c.len.ensures, c.in-Method.arguments.ok.0) in
    let count = len ∙ sym (count_of c.in-Method.arguments.items) in
    let node = c.method_fault.ensures ∙ (λ j. form_fault (form_of (name j) (count j))) in
    let first = c.fault-in-Method.ensures ∙ ap (λ e. fault (view e)) c.deref-in-Method.ensures in
    let rest = c.wides_fault-in-Method.ensures ∙ ap (λ es. wides_fault (wides (map view es))) c.as_slice-in-Method.ensures.value in
    let parts = c.or-in-Method.ensures ∙ (λ j. option_or (first j) (rest j)) in
    let seen = ap view c.in-Method.is ∙ view_method c.in-Method.of c.in-Method.name c.in-Method.arguments in
    c.or-in-Method-2.ensures ∙ (λ j. option_or (node j) (parts j)) ∙ ap (λ e. fault e) (sym seen)
