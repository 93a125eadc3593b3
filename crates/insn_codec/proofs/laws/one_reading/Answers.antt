-- Proof obligations of `one_reading` (src/laws.rt).
use Rattle.insn_codec.proofs.Spelled.{one_reading_of}
use Rattle.insn_codec.proofs.laws.one_reading.Goals as goal

pub returns : goal.returns
returns c = one_reading_of
