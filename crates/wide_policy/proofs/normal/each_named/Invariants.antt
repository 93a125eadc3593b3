-- Loop invariant of `normal::each_named`.
use Rattle.std.proofs.Common.{◌≡◌, map, take}
use Rattle.serde_json.specs.View.{view}
use Rattle.json_fields.specs.Members.{in_object}
use Rattle.wide_policy.specs.WideDocuments.{named_members}
use Rattle.wide_policy.proofs.normal.each_named.Given as goal

abbrev pub invariant-loop-item : goal.invariant-loop-item
invariant-loop-item l = map view l.each.items ≡ map (λ v. in_object named_members (view v)) (take l.item-index l.item-items)
