-- Proof obligations of `alu64` (src/arithmetic.rt).
use Rattle.bpf_word.proofs.Prelude.{alu64_of, operated}
use Rattle.bpf_word.proofs.Casts.{difference_is}
use Rattle.bpf_word.proofs.arithmetic.alu64.Goals as goal

pub returns-in-Sub : goal.returns-in-Sub
unfolding alu64_of operated
returns-in-Sub c = rw c.in-Sub.is (difference_is 64 c.args.dst c.args.operand c.ranges.operand.fits)
