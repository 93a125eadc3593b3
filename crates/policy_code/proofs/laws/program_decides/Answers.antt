-- Proofs of `laws::program_decides`: the result meets the contract.

use Rattle.policy_code.proofs.Programs.Runs.{program_decides, program_stops}
use Rattle.policy_code.proofs.Programs.Sizes.{program_is_code}
use Rattle.policy_code.proofs.laws.program_decides.Goals as goal

pub returns-clause-decides : goal.returns-clause-decides
returns-clause-decides c = program_decides c.decodes_spelling.ensures program_is_code

pub returns-clause-stops : goal.returns-clause-stops
returns-clause-stops c = program_stops (program_decides c.decodes_spelling.ensures program_is_code)
