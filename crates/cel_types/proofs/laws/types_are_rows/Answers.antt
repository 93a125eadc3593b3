-- Proofs of `laws::types_are_rows`: the result meets the contract.

use Rattle.cel_types.proofs.Related.{types_are_rows, faults_are_first, one_type_or_fault}
use Rattle.cel_types.proofs.laws.types_are_rows.Goals as goal

pub returns-clause-types : goal.returns-clause-types
returns-clause-types c = types_are_rows

pub returns-clause-faults : goal.returns-clause-faults
returns-clause-faults c = faults_are_first

pub returns-clause-one : goal.returns-clause-one
returns-clause-one c = one_type_or_fault
