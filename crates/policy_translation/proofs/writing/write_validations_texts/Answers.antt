-- Proofs of `writing::write_validations_texts`: the result meets the contract; the loop invariant holds at first and is
-- kept.

use Rattle.policy_translation.proofs.Tokens.{adds_none}
use Rattle.policy_translation.proofs.TranslationTexts.{validations_all, validations_step}
use Rattle.policy_translation.proofs.writing.write_validations_texts.Goals as goal

pub loop-place-init : goal.loop-place-init
loop-place-init c = adds_none _

pub loop-place-preserved : goal.loop-place-preserved
loop-place-preserved c =
    validations_step c.args.validations.now c.loop-place.place _ c.loop-place-test.true c.index-validations-place.is c.loop-place.invariant
    c.in_ok-write_validation_texts.ensures

pub returns : goal.returns
returns c = validations_all c.args.validations.now c.loop-place.place c.loop-place-test.false c.loop-place.invariant
