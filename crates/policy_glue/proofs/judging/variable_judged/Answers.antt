-- Proofs of `judging::variable_judged`: the result meets the contract.

use Rattle.policy_glue.proofs.Prelude.{arith}
use Rattle.policy_glue.proofs.Judged.{deep_is, shallow_is, variable_refused}
use Rattle.policy_glue.proofs.judging.variable_judged.Goals as goal

pub returns-then-depth-gt-VARIABLE_DEPTH_LIMIT : goal.returns-then-depth-gt-VARIABLE_DEPTH_LIMIT
returns-then-depth-gt-VARIABLE_DEPTH_LIMIT c =
    deep_is c.args.place c.args.scope.now c.args.text.now c.in-Ok.core c.in-Ok.cel_type c.depth-depth.result _ c.in-Ok.ensures c.depth-depth.ensures
    c.if-depth-gt-VARIABLE_DEPTH_LIMIT.true c.at.ensures

pub returns-else-depth-gt-VARIABLE_DEPTH_LIMIT : goal.returns-else-depth-gt-VARIABLE_DEPTH_LIMIT
returns-else-depth-gt-VARIABLE_DEPTH_LIMIT c = grind (arith, shallow_is)

pub returns-in-Err : goal.returns-in-Err
returns-in-Err c = grind (arith, variable_refused)
