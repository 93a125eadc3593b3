-- Proofs of `cuts::next_letter`: the rest is the end of the text, and the result meets the contract.
use Rattle.text_functions.proofs.Prelude.{arith, encode_utf8}
use Rattle.text_functions.proofs.Cutting.{begins, end_of}
use Rattle.text_functions.proofs.cuts.next_letter.Goals as goal

pub parted-requires : goal.parted-requires
parted-requires c = (encode_utf8 c.in-Some.field-0, end_of _ _ _ _ c.in-Some.field-0 c.chars-codes.ensures.rest c.in-Some.ensures.steps.0 c.as_str.ensures)

pub returns-in-Some : goal.returns-in-Some
returns-in-Some c = (
  omega arith,
  begins c.args.text.now _ _ c.as_str.result.now c.in-Some.field-0 c.utf8.text
      (end_of _ _ _ _ c.in-Some.field-0 c.chars-codes.ensures.rest c.in-Some.ensures.steps.0 c.as_str.ensures) c.parted.ensures.whole c.parted.ensures.back,
)
