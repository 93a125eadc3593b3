-- Proof obligations of `signed_remainder` (src/arithmetic32.rt).
use Rattle.bpf_word.proofs.Prelude.{rules, w32}
use Rattle.bpf_word.proofs.Casts.{nonzero_is}
use Rattle.bpf_word.proofs.arithmetic32.signed_remainder.Goals as goal

pub wrapping_rem-remainder-requires : goal.wrapping_rem-remainder-requires
wrapping_rem-remainder-requires c =
    nonzero_is w32 c.args.operand c.signed32-2.result c.ranges.operand.fits c.if-operand-eq0.false (search rules) c.signed32-2.ensures
