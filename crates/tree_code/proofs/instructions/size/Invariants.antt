-- Loop invariant of `instructions::size`.

use Rattle.tree_code.proofs.Prelude.{◌≡◌, ◌+◌, drop}
use Rattle.expression_code.specs.Pieces as specs
use Rattle.tree_code.proofs.instructions.size.Given as goal

abbrev pub invariant-loop-insn : goal.invariant-loop-insn
invariant-loop-insn l = l.total + specs.size (drop l.insn-index l.piece) ≡ specs.size l.piece
