-- Proof obligations of `expression::part_at`.
use Rattle.wide_policy.proofs.Expressions.{part_refused}
use Rattle.wide_policy.proofs.expression.part_at.Goals as goal

pub returns-in-Err : goal.returns-in-Err
returns-in-Err c = part_refused c.args.part c.args.scope.now c.args.text.now c.args.place c.in-Err.error _ c.in-Err.ensures c.at.ensures
