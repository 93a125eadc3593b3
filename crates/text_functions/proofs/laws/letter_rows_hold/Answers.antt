-- Proofs of `laws::letter_rows_hold`: each row by computing it.
use Rattle.std.specs.Str.{chars, trim_end, trim_start}
use lib.Utf8.{encode}
use Rattle.text_functions.proofs.laws.letter_rows_hold.Goals as goal

pub returns : goal.returns
unfolding chars encode trim_start trim_end
returns c = search
