-- Proofs of `laws::pieces_join`: the law.
use Rattle.text_functions.proofs.Joining.{pieces_join}
use Rattle.text_functions.proofs.laws.pieces_join.Goals as goal

pub returns : goal.returns
returns c = pieces_join
