-- Proofs of `checking::parts_checked`: the result meets the contract.

use Rattle.policy_glue.proofs.Prelude.{arith}
use Rattle.policy_glue.proofs.Judged.{passed_on, all_taken, refused_conditions, refused_validations, refused_variables}
use Rattle.policy_glue.proofs.checking.parts_checked.Goals as goal

pub returns-in_err-scope : goal.returns-in_err-scope
returns-in_err-scope c = grind (arith, passed_on, refused_variables)

pub returns-in_err-conditions : goal.returns-in_err-conditions
returns-in_err-conditions c = grind (arith, passed_on, refused_conditions)

pub returns-in_err-validations : goal.returns-in_err-validations
returns-in_err-validations c = grind (arith, passed_on, refused_validations)

pub returns : goal.returns
returns c = grind (arith, all_taken)
