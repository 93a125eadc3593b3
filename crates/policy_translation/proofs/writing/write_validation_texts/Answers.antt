-- Proofs of `writing::write_validation_texts`: the result meets the contract.

use Rattle.std.proofs.Common.{string_bytes}
use Rattle.policy_translation.proofs.TranslationTexts.{message_whole}
use Rattle.policy_translation.proofs.writing.write_validation_texts.Goals as goal

pub returns-in-Some : goal.returns-in-Some
returns-in-Some c =
    rw c.in-Some.is
    (message_whole c.write_part-in-Some.new.writer c.args.place (string_bytes c.args.validation.now.expression) _ c.write_part-in-Some.result
    (rw c.as_str-text.ensures.value at c.in_ok-write_part.ensures) (rw c.as_str.ensures.value at c.write_part-in-Some.ensures))

pub returns-in-None : goal.returns-in-None
returns-in-None c = rw c.in-None.is (rw c.as_str-text.ensures.value at c.in_ok-write_part.ensures)
