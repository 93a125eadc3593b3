-- Proofs of `refusing::refusal_text`: the result meets the contract.

use Rattle.gatekeeper_runner.proofs.Prelude.{◌∙◌}
use Rattle.gatekeeper_runner.proofs.RefusalTexts.{text_written}
use Rattle.gatekeeper_runner.proofs.refusing.refusal_text.Goals as goal

pub returns : goal.returns
returns c =
    c.into_inner.ensures.items
    ∙ text_written _ _ _ _ (c.new-writer.ensures.before ∙ c.in_ok-with_capacity.ensures.items) c.new-writer.ensures.tokens c.in_ok-write_refusal.ensures
