-- Proof obligations of `members::others`.
use Rattle.json_fields.proofs.Removing.{without_key}
use Rattle.json_fields.proofs.members.others.Goals as goal

pub returns : goal.returns
returns c = without_key c.args.key.now c.args.members.entries _ c.remove-value.ensures.entries c.remove-value.ensures.updates.1
