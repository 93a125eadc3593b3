-- Proof obligations of `naming::one_names`.
use Rattle.policy_index.proofs.Prelude.{◌∙◌}
use Rattle.policy_index.proofs.Named.{named_in_views}
use Rattle.policy_index.proofs.naming.one_names.Goals as goal

pub returns : goal.returns
returns c = c.some_rule_names.ensures ∙ named_in_views c.args.resource.now c.args.rules.now
