-- What the rows of findings unfold.
use Rattle.policy_glue.proofs.Prelude.{⊤}
use Rattle.std.specs.Char.{encode_utf8}
use Rattle.std.specs.Str.{chars, trim_end, trim_start}

-- to compute the messages of findings that are written out
unfoldable pub findings_on_literals : ⊤
unfolding encode_utf8 chars trim_end trim_start
findings_on_literals = tt
