-- Proofs of `checking::message_at`: the result meets the contract.

use Rattle.policy_glue.proofs.Prelude.{string_bytes}
use Rattle.policy_glue.proofs.Judged.{message_is}
use Rattle.policy_glue.proofs.checking.message_at.Goals as goal

pub returns-in_ok-part_judged-in-Some-clause-sorts : goal.returns-in_ok-part_judged-in-Some-clause-sorts
returns-in_ok-part_judged-in-Some-clause-sorts c =
    let sorts = rw c.as_str.ensures.value at c.in_ok-part_judged-in-Some.ensures in
    rw c.in-Some.is (message_is c.args.scope.now c.args.place (string_bytes c.in-Some.text) c.in_ok-part_judged-in-Some.field-0 sorts)
