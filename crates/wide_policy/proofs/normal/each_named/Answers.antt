-- Proof obligations of `normal::each_named`.
use Rattle.std.proofs.Common.{arith}
use Rattle.json_fields.proofs.Items.{all_changed}
use Rattle.json_fields.specs.Members.{in_object}
use Rattle.wide_policy.specs.WideDocuments.{named_members}
use Rattle.wide_policy.proofs.normal.each_named.Goals as goal

pub returns : goal.returns
returns c = all_changed (in_object named_members) c.deref-item-items.result.now _ _ c.loop-item.item-index c.deref-item-items.ensures.value c.loop-item-test.false c.loop-item.invariant
