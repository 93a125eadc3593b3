-- Proofs of `laws::too_long_stays`: the result meets the contract.

use Rattle.codegen.proofs.Finished.{long_after_expression, long_after_insn, long_after_nodes, long_after_piece, long_after_variable}
use Rattle.codegen.proofs.laws.too_long_stays.Goals as goal

pub returns : goal.returns
returns c = record { piece = long_after_piece; insn = long_after_insn; nodes = long_after_nodes; expression = long_after_expression; variable = long_after_variable }
