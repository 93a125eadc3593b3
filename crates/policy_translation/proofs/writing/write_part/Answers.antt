-- Proofs of `writing::write_part`: the result meets the contract.

use Rattle.policy_translation.proofs.writing.write_part.Goals as goal

pub returns : goal.returns
returns c = rw (c.as_str.ensures.value, c.in_ok-key.ensures) at c.write_text.ensures
