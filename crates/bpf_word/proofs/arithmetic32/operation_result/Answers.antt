-- Proof obligations of `operation_result` (src/arithmetic32.rt).
use Rattle.bpf_word.proofs.Prelude.{operated}
use Rattle.bpf_word.proofs.Casts.{difference_is}
use Rattle.bpf_word.proofs.arithmetic32.operation_result.Goals as goal

pub returns-in-Sub : goal.returns-in-Sub
unfolding operated
returns-in-Sub c = rw c.in-Sub.is (difference_is 32 c.args.dst c.args.operand c.ranges.operand.fits)
