-- Proofs of `writing::write_author_texts`: the result meets the contract.

use Rattle.policy_glue.specs.Policy.{policy_view}
use Rattle.policy_translation.proofs.TranslationTexts.{texts_whole}
use Rattle.policy_translation.proofs.writing.write_author_texts.Goals as goal

pub returns : goal.returns
returns c =
    texts_whole c.write_validations_texts.new.writer (policy_view c.args.source.now) c.write_validations_texts.result
    (rw c.as_slice-variables.ensures.value at c.in_ok-write_named_texts.ensures)
    (rw c.as_slice-conditions.ensures.value at c.in_ok-write_named_texts-2.ensures)
    (rw c.as_slice.ensures.value at c.write_validations_texts.ensures)
