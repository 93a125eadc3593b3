-- Proofs of `policy_json::write_named`: the result meets the contract.

use Rattle.policy_glue.specs.Policy.{named_view}
use Rattle.policy_translation.proofs.TranslationTexts.{named_whole}
use Rattle.policy_translation.proofs.policy_json.write_named.Goals as goal

pub returns : goal.returns
returns c =
    named_whole c.end_object.result (named_view c.args.named.now) c.in_ok-begin_object.ensures
    (rw c.as_str.ensures.value at c.in_ok-write_text.ensures)
    (rw c.as_str-2.ensures.value at c.in_ok-write_text-2.ensures)
    c.end_object.ensures
