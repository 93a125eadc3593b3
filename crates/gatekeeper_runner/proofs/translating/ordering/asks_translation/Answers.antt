-- Proofs of `translating::ordering::asks_translation`: the result meets the contract.

use Rattle.gatekeeper_runner.proofs.Choices.{asks_after_first}
use Rattle.gatekeeper_runner.proofs.translating.ordering.asks_translation.Goals as goal

pub returns-in-len1-up : goal.returns-in-len1-up
returns-in-len1-up c = asks_after_first c.args.words.now c.has_translate.result c.in-len1-up.len_at_least c.has_translate.ensures
