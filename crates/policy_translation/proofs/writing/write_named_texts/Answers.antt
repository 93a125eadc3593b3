-- Proofs of `writing::write_named_texts`: the result meets the contract; the loop invariant holds at first and is kept.

use Rattle.policy_translation.proofs.Tokens.{adds_none}
use Rattle.policy_translation.proofs.TranslationTexts.{named_all, named_step}
use Rattle.policy_translation.proofs.writing.write_named_texts.Goals as goal

pub loop-place-init : goal.loop-place-init
loop-place-init c = adds_none _

pub loop-place-preserved : goal.loop-place-preserved
loop-place-preserved c =
    named_step c.args.part c.args.named.now c.loop-place.place _ c.loop-place-test.true c.index-named-place.is c.loop-place.invariant
    (rw c.as_str.ensures.value at c.in_ok-write_part.ensures)

pub returns : goal.returns
returns c = named_all c.args.part c.args.named.now c.loop-place.place c.loop-place-test.false c.loop-place.invariant
