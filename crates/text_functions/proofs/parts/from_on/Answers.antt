-- Proofs of `parts::from_on`: the result meets the contract.
use Rattle.text_functions.proofs.Prelude.{arith}
use Rattle.text_functions.proofs.Taking.{end_is}
use Rattle.text_functions.proofs.parts.from_on.Goals as goal

pub returns : goal.returns
returns c = end_is c.args.from c.args.text.now _ _ (omega (arith, c.size.ensures.count)) c.cut-whole.ensures.cut
