-- Proofs of `parts::code_point_at`: the result meets the contract.
use Rattle.text_functions.proofs.Prelude.{arith}
use Rattle.text_functions.proofs.Taking.{letter_is}
use Rattle.text_functions.proofs.parts.code_point_at.Goals as goal

pub returns : goal.returns
returns c = letter_is c.args.at c.args.text.now _ _ _ _ (omega (arith, c.size.ensures.count)) c.cut-whole.ensures.cut c.cut-end.ensures.cut
