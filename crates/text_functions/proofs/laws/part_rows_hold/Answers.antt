-- Proofs of `laws::part_rows_hold`: each row by computing it.
use Rattle.std.specs.Str.{chars}
use lib.Utf8.{encode}
use Rattle.text_functions.specs.Parts.{char_at_of, substring_from_of, substring_of}
use Rattle.text_functions.proofs.laws.part_rows_hold.Goals as goal

pub returns : goal.returns
unfolding chars encode substring_of substring_from_of char_at_of
returns c = search
