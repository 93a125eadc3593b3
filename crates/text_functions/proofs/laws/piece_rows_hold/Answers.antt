-- Proofs of `laws::piece_rows_hold`: each row by computing it.
use Rattle.std.specs.Str.{chars}
use lib.Utf8.{encode}
use Rattle.text_functions.specs.Pieces.{replace_of, split_of}
use Rattle.text_functions.proofs.laws.piece_rows_hold.Goals as goal

pub returns : goal.returns
unfolding chars encode split_of replace_of
returns c = search
