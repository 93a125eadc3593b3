-- Proofs of `judging::part_judged`: the result meets the contract.

use Rattle.policy_glue.proofs.Prelude.{arith, ◌∙◌, sym, other_type, types_of}
use Rattle.policy_glue.proofs.Judged.{other_is, part_refused}
use Rattle.policy_glue.proofs.judging.part_judged.Goals as goal

pub returns-else-may_have : goal.returns-else-may_have
returns-else-may_have c =
    let part = c.args.part in
    rw c.other_type.ensures (other_is (types_of part) (other_type part) part c.args.place c.args.scope.now c.args.text.now
    c.in-Ok.core c.in-Ok.cel_type c.in-Ok.ensures (sym c.may_have.ensures ∙ c.if-may_have.false))

pub returns-in-Err : goal.returns-in-Err
returns-in-Err c = grind (arith, part_refused)
