-- Proofs of `number::number_at`: the result meets the contract.
use Rattle.text_numbers.proofs.Decimals.{fraction_is, written_is}
use Rattle.text_numbers.proofs.number.number_at.Goals as goal

pub returns-clause-parts : goal.returns-clause-parts
returns-clause-parts c =
    written_is c.args.text.now _ _ _ _ _ _ _ c.digits_len-front.ensures.len c.split_at-halves.ensures.front c.split_at-halves.ensures.back c.fraction_len-pointed.ensures.len
    c.split_at-ends.ensures.front c.split_at-ends.ensures.back c.tail.ensures

pub returns-clause-fraction : goal.returns-clause-fraction
returns-clause-fraction c = fraction_is _ _ _ _ c.fraction_len-pointed.ensures.len c.split_at-ends.ensures.front c.tail.ensures
