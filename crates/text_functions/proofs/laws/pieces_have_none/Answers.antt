-- Proofs of `laws::pieces_have_none`: the law.
use Rattle.text_functions.proofs.Joining.{pieces_have_none}
use Rattle.text_functions.proofs.laws.pieces_have_none.Goals as goal

pub returns : goal.returns
returns c = pieces_have_none
