-- Proofs of `sizes::size`: the result meets the contract.
use Rattle.text_functions.proofs.Prelude.{ap, arith, code_points_of}
use Rattle.text_functions.proofs.Counting.{counted, no_more}
use Rattle.text_functions.proofs.sizes.size.Goals as goal

pub returns-clause-count : goal.returns-clause-count
returns-clause-count c = omega (arith, counted c.args.text.now c.utf8.text, ap code_points_of c.as_bytes.ensures.value)

pub returns-clause-within : goal.returns-clause-within
returns-clause-within c = omega (arith, counted c.args.text.now c.utf8.text, no_more c.args.text.now c.utf8.text, ap code_points_of c.as_bytes.ensures.value)
