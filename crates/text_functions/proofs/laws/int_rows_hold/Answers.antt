-- Proofs of `laws::int_rows_hold`: each row by computing it.
use Rattle.text_functions.specs.Ints.{int_of}
use Rattle.text_functions.proofs.laws.int_rows_hold.Goals as goal

pub returns : goal.returns
unfolding int_of
returns c = search
