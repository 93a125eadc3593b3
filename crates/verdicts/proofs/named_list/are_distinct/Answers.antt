-- Proofs of `named_list::are_distinct`: the result meets the contract; the loop invariant holds at first and is kept.

use Rattle.verdicts.proofs.Prelude.{◌+◌, ◌∙◌, refl, arith}
use Rattle.verdicts.proofs.Distinct.{distinct_more, distinct_stop, names_more, names_none}
use Rattle.verdicts.proofs.named_list.are_distinct.Goals as goal

pub loop-named-init : goal.loop-named-init
loop-named-init c = record { distinct = refl; names = names_none _ c.new-names.ensures.empty }

pub returns-then-not-branch : goal.returns-then-not-branch
returns-then-not-branch c =
    distinct_stop c.args.list.now (c.loop-named.named-index + 1)
    (distinct_more c.args.list.now c.loop-named.named-index c.named-item.result c.as_str.result c.loop-named.names c.in_ok-insert.field-0 c.loop-named-test.true c.named-item.is c.as_str.ensures.value c.loop-named.invariant.names c.loop-named.invariant.distinct
    c.in_ok-insert.ensures.added
    ∙ c.if-not-branch.true)

pub loop-named-preserved : goal.loop-named-preserved
loop-named-preserved c = grind (arith, distinct_more, names_more)
