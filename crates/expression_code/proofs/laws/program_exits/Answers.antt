-- Proofs of `laws::program_exits`: the result meets the contract.

use Rattle.expression_code.proofs.Programs.{program_exits}
use Rattle.expression_code.proofs.laws.program_exits.Goals as goal

pub returns : goal.returns
returns c = program_exits c.decodes_spelling.ensures
