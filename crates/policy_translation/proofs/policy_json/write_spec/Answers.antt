-- Proofs of `policy_json::write_spec`: the result meets the contract.

use Rattle.policy_glue.specs.Policy.{policy_view}
use Rattle.policy_translation.proofs.TranslationTexts.{spec_whole}
use Rattle.policy_translation.proofs.policy_json.write_spec.Goals as goal

pub returns : goal.returns
returns c =
    spec_whole c.end_object.result (policy_view c.args.policy.now) c.in_ok-begin_object.ensures
    (rw c.failure_name.ensures at c.in_ok-write_text.ensures)
    (rw c.as_slice.ensures.value at c.in_ok-write_named_list.ensures)
    (rw c.as_slice-2.ensures.value at c.in_ok-write_named_list-2.ensures)
    (rw c.as_slice-3.ensures.value at c.in_ok-write_validations.ensures)
    c.end_object.ensures
