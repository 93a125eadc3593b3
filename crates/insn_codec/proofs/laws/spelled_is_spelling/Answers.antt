-- Proof obligations of `spelled_is_spelling` (src/laws.rt).
use Rattle.insn_codec.proofs.Spelled.{spelled_is}
use Rattle.insn_codec.proofs.laws.spelled_is_spelling.Goals as goal

pub returns : goal.returns
returns c = spelled_is
