-- Proofs of `values::number_in`: the result meets the contract.

use Rattle.cli.proofs.Prelude.{◌∙◌, ap, ParsesUnsigned, ExplainsUnsignedError, HasUnsignedDigitsIfOk, found_of, one_text, one_text-rows, number_of}
use Rattle.cli.proofs.Number.{of_a_value}
use Rattle.cli.proofs.values.number_in.Goals as goal

pub returns : goal.returns
returns c =
    let found = found_of c.args.matches.now in
    of_a_value
    (λ t r. ParsesUnsigned 64 10 t r × ExplainsUnsignedError 10 t r × HasUnsignedDigitsIfOk t r)
    (one_text found c.args.id.now) c.get_one.result c.get_one.ensures.none c.get_one.ensures.value
    (λ t x read. read.0)
    ∙ ap number_of (one_text-rows found c.args.id.now)
