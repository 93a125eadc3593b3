-- Proofs of `checking::conditions`: the result meets the contract; each turn of the loop keeps the invariant.

use Rattle.policy_glue.proofs.Prelude.{◌∷◌, [], ◌++◌, ◌∙◌, ap, map, core_view, ChecksConditions, named_view}
use Rattle.policy_glue.proofs.Judged.{passed_on, pushed, walk_ends, walk_fails, walk_steps}
use Rattle.policy_glue.proofs.checking.conditions.Goals as goal

pub returns-in_err-core : goal.returns-in_err-core
returns-in_err-core c =
    let go = c.loop-place.invariant in
    passed_on (ChecksConditions (map named_view c.args.named.now)) c.in_err-core.field-0.0 c.from_residual.result
    (λ some. walk_fails named_view c.args.named.now c.loop-place-test.true c.index-named-place.is go c.in_err-core.field-0.0
    (rw (c.new-scope.ensures, c.as_str-text.ensures.value, ← go.count) at (c.in_err-core.ensures some)))
    c.from_residual.ensures.0 c.from_residual.ensures.1

pub loop-place-preserved : goal.loop-place-preserved
loop-place-preserved c =
    let sorts = c.in_ok-core.ensures in
    let old = c.loop-place.cores.items in
    walk_steps named_view c.args.named.now c.loop-place-test.true c.index-named-place.is c.loop-place.invariant (map core_view c.push.new.self.items) sorts.0
    (rw (c.new-scope.ensures, c.as_str-text.ensures.value) at sorts.2) sorts.1.1
    (pushed core_view old c.push.new.self.items c.in_ok-core.core c.in_ok-push.ensures.items ∙ ap (λ t. map core_view old ++ t ∷ []) sorts.1.0)

pub returns : goal.returns
returns c = walk_ends named_view c.args.named.now c.loop-place-test.false c.loop-place.invariant
