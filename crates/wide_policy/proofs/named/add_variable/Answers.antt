-- Proof obligations of `named::add_variable`.
use Rattle.std.proofs.Common.{◌∙◌, string_bytes}
use Rattle.policy_glue.specs.Policy.{named_view}
use Rattle.wide_policy.proofs.NamedParts.{added_is}
use Rattle.wide_policy.proofs.Walks.{one_pushed}
use Rattle.wide_policy.proofs.named.add_variable.Goals as goal

pub returns : goal.returns
returns c =
    added_is (named_view c.args.variable.now) (record { name = string_bytes c.in_ok-name.name; expression = string_bytes c.in_ok-kind.expression })
    c.args.scope.now c.add.new.self _ _ c.as_str-2.result.now c.in_ok-kind.kind
    (rw c.as_str-text.ensures.value at c.in_ok-kind.ensures) (c.in_ok-name.ensures.ok ∙ c.as_str.ensures.value) c.as_str-2.ensures.value
    c.in_ok-add.ensures (one_pushed named_view c.args.taken.now.items c.push.new.self.items _ c.in_ok-push.ensures.items)
