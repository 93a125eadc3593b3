-- Proofs of `judging::judged`: the result meets the contract.

use Rattle.policy_glue.proofs.Judged.{judged_is, mistyped_is}
use Rattle.policy_glue.proofs.judging.judged.Goals as goal

pub returns-in-Ok : goal.returns-in-Ok
returns-in-Ok c = judged_is c.args.scope.now c.args.text.now c.in_ok-core.core c.in-Ok.cel_type c.in_ok-core.ensures c.in-Ok.ensures

pub returns-in-Err : goal.returns-in-Err
returns-in-Err c = mistyped_is c.args.scope.now c.args.text.now c.in_ok-core.core c.in-Err.error c.in_ok-core.ensures c.in-Err.ensures
