-- Proofs of `program::emitted`: its calls meet their requirements.

use Rattle.policy_code.proofs.Prelude.{◌∙◌, ap, map, arith, core_view, declaration}
use Rattle.policy_code.proofs.Emission.{as_many, conditions_fit, fit_in_order, messages_fit, rules_fit}
use Rattle.policy_code.proofs.program.emitted.Goals as goal

pub variables-requires-clause-fit : goal.variables-requires-clause-fit
variables-requires-clause-fit c =
    let has = c.requires in
    fit_in_order has.trees.variables (map declaration c.variables-declared.result.now) (map core_view c.as_slice.result.now) has.variables (c.variables-declared.ensures ∙ has.are.scope) (ap (map core_view) c.as_slice.ensures.value ∙ has.are.variables)

pub variables-requires-clause-declared : goal.variables-requires-clause-declared
variables-requires-clause-declared c = grind (arith, as_many)

pub conditions-requires : goal.conditions-requires
conditions-requires c = grind (arith, conditions_fit)

pub validations-requires-clause-expressions : goal.validations-requires-clause-expressions
validations-requires-clause-expressions c = grind (arith, rules_fit)

pub validations-requires-clause-messages : goal.validations-requires-clause-messages
validations-requires-clause-messages c = grind (arith, messages_fit)
