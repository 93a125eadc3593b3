-- Loop invariant of `policy_document::each_validation`.
use Rattle.std.proofs.Common.{◌≡◌, map, take}
use Rattle.serde_json.specs.View.{view}
use Rattle.cluster_gate.specs.CompiledDocuments.{compiled_validation}
use Rattle.cluster_gate.proofs.policy_document.each_validation.Given as goal

abbrev pub invariant-loop-item : goal.invariant-loop-item
invariant-loop-item l = map view l.changed.items ≡ map (λ v. compiled_validation (view v)) (take l.item-index l.item-items)
