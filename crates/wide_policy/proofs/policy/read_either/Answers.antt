-- Proof obligations of `policy::read_either`.
use Rattle.std.proofs.Common.{◌∙◌, sym}
use Rattle.wide_policy.proofs.Wrapping.{other_refusal}
use Rattle.wide_policy.proofs.policy.read_either.Goals as goal

pub returns-else-needs_indices : goal.returns-else-needs_indices
returns-else-needs_indices c = other_refusal c.args.rule c.args.document.now c.in-Err.first c.in-Err.ensures (sym c.needs_indices.ensures ∙ c.if-needs_indices.false)
