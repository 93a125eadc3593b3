-- Proofs of `laws::replaced_join`: the law.
use Rattle.text_functions.proofs.Joining.{replaced_join}
use Rattle.text_functions.proofs.laws.replaced_join.Goals as goal

pub returns : goal.returns
returns c = replaced_join
