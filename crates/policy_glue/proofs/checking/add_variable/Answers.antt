-- Proofs of `checking::add_variable`: the result meets the contract.

use Rattle.policy_glue.proofs.Prelude.{core_view, named_view}
use Rattle.policy_glue.proofs.Judged.{added_is, pushed}
use Rattle.policy_glue.proofs.checking.add_variable.Goals as goal

pub returns : goal.returns
returns c =
    let judges = rw c.as_str-text.ensures.value at c.in_ok-core.ensures in
    added_is (named_view c.args.variable.now) c.args.place _ _ c.in_ok-core.core c.in_ok-core.cel_type c.in_ok-core.depth _ _ judges
    (rw c.as_str.ensures.value at c.in_ok-add.ensures.ok) (pushed core_view _ _ _ c.in_ok-push.ensures.items)
