-- Proofs of `values::text_in`: the result meets the contract.

use Rattle.cli.proofs.Prelude.{◌∙◌, found_of, first_value-rows}
use Rattle.cli.proofs.values.text_in.Goals as goal

pub returns : goal.returns
returns c = c.get_str.ensures ∙ first_value-rows (found_of c.args.matches.now) c.args.id.now
