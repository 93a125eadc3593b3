-- Proof obligations of `laws::one_wide_policy`.
use Rattle.wide_policy.proofs.Once.{one_policy, not_refused}
use Rattle.wide_policy.proofs.laws.one_wide_policy.Goals as goal

pub returns-clause-one : goal.returns-clause-one
returns-clause-one c = one_policy

pub returns-clause-taken : goal.returns-clause-taken
returns-clause-taken c = not_refused
