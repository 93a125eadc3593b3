-- Loop invariant of `keys::keys_known`.
use Rattle.std.proofs.Common.{◌≡◌, map}
use Rattle.serde_json.specs.View.{members_view}
use Rattle.json_fields.specs.Fields.{keys_within}
use Rattle.json_fields.proofs.keys.keys_known.Given as goal

abbrev pub invariant-loop-key : goal.invariant-loop-key
invariant-loop-key l = keys_within (map (λ s. s.now) l.known) (members_view l.initial.key-iterator) ≡ keys_within (map (λ s. s.now) l.known) (members_view l.key-iterator)
