-- Proofs of `checking::variables`: the result meets the contract; the loop invariant holds at first and is kept.

use Rattle.policy_glue.proofs.Prelude.{ap, map, core_view, ChecksVariables, named_view}
use Rattle.policy_glue.proofs.Judged.{passed_on, variables_begin, variables_end, variables_step, walk_fails}
use Rattle.policy_glue.proofs.checking.variables.Goals as goal

pub loop-place-init : goal.loop-place-init
loop-place-init c = variables_begin _ _ _ c.new-scope.ensures (ap (map core_view) c.new-cores.ensures.items)

pub returns-in_err-add_variable : goal.returns-in_err-add_variable
returns-in_err-add_variable c =
    let go = c.loop-place.invariant in
    passed_on (ChecksVariables (map named_view c.args.named.now)) c.in_err-add_variable.field-0.0 c.from_residual.result
    (λ some. walk_fails named_view c.args.named.now c.loop-place-test.true c.index-named-place.is go.walked c.in_err-add_variable.field-0.0
    (rw (go.scope_is, ← go.walked.count) at (c.in_err-add_variable.ensures some)))
    c.from_residual.ensures.0 c.from_residual.ensures.1

pub loop-place-preserved : goal.loop-place-preserved
loop-place-preserved c =
    variables_step named_view c.args.named.now c.loop-place-test.true c.index-named-place.is c.loop-place.invariant c.in_ok-add_variable.ensures

pub returns : goal.returns
returns c = variables_end named_view c.args.named.now c.loop-place-test.false c.loop-place.invariant
