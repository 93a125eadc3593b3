-- Proofs of `parts::from_to`: the result meets the contract.
use Rattle.text_functions.proofs.Prelude.{arith}
use Rattle.text_functions.proofs.Taking.{part_is}
use Rattle.text_functions.proofs.parts.from_to.Goals as goal

pub returns : goal.returns
returns c = part_is c.args.from c.args.to c.args.text.now _ _ _ _ (omega arith) (omega (arith, c.size.ensures.count)) c.cut-whole.ensures.cut c.cut-end.ensures.cut
