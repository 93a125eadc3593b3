-- Proof obligations of `named::condition_at`.
use Rattle.std.proofs.Common.{◌∙◌, string_bytes}
use Rattle.policy_glue.specs.Policy.{named_view}
use Rattle.wide_policy.proofs.NamedParts.{condition_is}
use Rattle.wide_policy.proofs.named.condition_at.Goals as goal

pub returns : goal.returns
returns c =
    condition_is c.args.scope.now (named_view c.args.condition.now)
    (record { name = string_bytes c.in_ok-name.name; expression = string_bytes c.in_ok-expression.expression }) c.in_ok-expression.field-0-0
    (rw c.as_str-text.ensures.value at c.in_ok-expression.ensures) (c.in_ok-name.ensures.ok ∙ c.as_str.ensures.value)
