-- Proofs of `writing::write_policy`: the result meets the contract.

use Rattle.policy_glue.specs.Policy.{policy_view}
use Rattle.policy_translation.proofs.TranslationTexts.{policy_whole}
use Rattle.policy_translation.proofs.writing.write_policy.Goals as goal

pub returns : goal.returns
returns c =
    policy_whole (policy_view c.args.source.now) (policy_view c.args.profile.now) c.end_object.result c.in_ok-begin_object.ensures
    c.in_ok-write_text.ensures c.in_ok-write_text-2.ensures c.in_ok-key.ensures c.in_ok-write_metadata.ensures
    c.in_ok-key-2.ensures c.in_ok-write_spec.ensures c.end_object.ensures
