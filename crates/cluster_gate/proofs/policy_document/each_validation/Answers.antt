-- Proof obligations of `policy_document::each_validation`.
use Rattle.std.proofs.Common.{arith}
use Rattle.json_fields.proofs.Items.{all_changed}
use Rattle.cluster_gate.specs.CompiledDocuments.{compiled_validation}
use Rattle.cluster_gate.proofs.policy_document.each_validation.Goals as goal

pub returns : goal.returns
returns c = all_changed compiled_validation c.deref-item-items.result.now _ _ c.loop-item.item-index c.deref-item-items.ensures.value c.loop-item-test.false c.loop-item.invariant
