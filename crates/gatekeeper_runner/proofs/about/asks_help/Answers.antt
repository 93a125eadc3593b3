-- Proofs of `about::asks_help`: the result meets the contract.

use Rattle.gatekeeper_runner.proofs.Prelude.{◌∙◌}
use Rattle.gatekeeper_runner.proofs.Asked.{help_among}
use Rattle.gatekeeper_runner.proofs.about.asks_help.Goals as goal

pub returns : goal.returns
returns c = c.some_is_help.ensures ∙ help_among c.args.words.now
