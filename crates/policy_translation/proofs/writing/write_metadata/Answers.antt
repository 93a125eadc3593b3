-- Proofs of `writing::write_metadata`: the result meets the contract.

use Rattle.policy_glue.specs.Policy.{policy_view}
use Rattle.policy_translation.proofs.TranslationTexts.{metadata_whole}
use Rattle.policy_translation.proofs.writing.write_metadata.Goals as goal

pub returns : goal.returns
returns c =
    metadata_whole (policy_view c.args.source.now) c.end_object-2.result c.in_ok-begin_object.ensures c.in_ok-key.ensures c.in_ok-begin_object-2.ensures
    c.in_ok-write_author_texts.ensures c.in_ok-end_object.ensures c.end_object-2.ensures
