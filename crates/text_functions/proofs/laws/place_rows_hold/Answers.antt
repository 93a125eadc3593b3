-- Proofs of `laws::place_rows_hold`: each row by computing it.
use Rattle.std.specs.Str.{chars}
use lib.Utf8.{encode}
use Rattle.text_functions.specs.Parts.{index_of_from, index_of_of, last_index_of_of, last_index_of_to}
use Rattle.text_functions.proofs.laws.place_rows_hold.Goals as goal

pub returns : goal.returns
unfolding chars encode index_of_of index_of_from last_index_of_of last_index_of_to
returns c = search
