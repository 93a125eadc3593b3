-- Proofs of `refusing::write_refusal`: the result meets the contract.

use Rattle.policy_translation.proofs.Tokens.{adds_more, last, one}
use Rattle.gatekeeper_runner.proofs.refusing.write_refusal.Goals as goal

pub returns : goal.returns
returns c =
    last c.end_object.result
    (adds_more (one c.in_ok-begin_object.ensures) (adds_more (rw c.code.ensures.text at c.in_ok-write_text.ensures) (adds_more c.in_ok-write_uid.ensures c.in_ok-write_label.ensures)))
    c.end_object.ensures
