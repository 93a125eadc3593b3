-- Proofs of `about::text_after_name`: the result meets the contract.

use Rattle.gatekeeper_runner.proofs.Asked.{after_name}
use Rattle.gatekeeper_runner.proofs.about.text_after_name.Goals as goal

pub returns-in-len1-up : goal.returns-in-len1-up
returns-in-len1-up c = after_name c.args.words.now _ c.in-len1-up.len_at_least c.text_of_words.ensures
