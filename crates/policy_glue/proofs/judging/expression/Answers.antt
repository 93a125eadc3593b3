-- Proofs of `judging::expression`: the result meets the contract.

use Rattle.policy_glue.proofs.Prelude.{view}
use Rattle.policy_glue.proofs.Judged.{macros_refused, unread_is}
use Rattle.policy_glue.proofs.judging.expression.Goals as goal

pub returns-in_err-tree : goal.returns-in_err-tree
returns-in_err-tree c = unread_is c.args.text.now c.in_err-tree.field-0.0 c.from_residual.result c.in_err-tree.ensures.answers c.in_err-tree.ensures.places c.from_residual.ensures.0 c.from_residual.ensures.1

pub returns-in_err-expand : goal.returns-in_err-expand
returns-in_err-expand c =
    macros_refused c.args.text.now (view c.in_ok-tree.tree) c.in_err-expand.field-0.0 c.from_residual-in_err-expand.result c.in_ok-tree.ensures.answers c.in_err-expand.ensures.refused c.in_err-expand.ensures.only c.from_residual-in_err-expand.ensures.0 c.from_residual-in_err-expand.ensures.1
