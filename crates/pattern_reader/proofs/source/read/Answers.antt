-- Proof obligations of `read` (src/source.rt).
use Rattle.std.proofs.Common.{length, ap, arith}
use Rattle.pattern_reader.proofs.Bytes.{chars_short}
use Rattle.pattern_reader.proofs.source.read.Goals as goal

pub syntax_of-requires : goal.syntax_of-requires
syntax_of-requires c =
    omega (arith, chars_short c.args.text.now c.utf8.text, ap length c.in_ok-points.ensures)
