-- Proof obligations of `signed_remainder` (src/arithmetic64.rt).
use Rattle.bpf_word.proofs.Prelude.{rules, w64}
use Rattle.bpf_word.proofs.Casts.{nonzero_is}
use Rattle.bpf_word.proofs.arithmetic64.signed_remainder.Goals as goal

pub wrapping_rem-remainder-requires : goal.wrapping_rem-remainder-requires
wrapping_rem-remainder-requires c =
    nonzero_is w64 c.args.operand c.signed64-2.result c.ranges.operand.fits c.if-operand-eq0.false (search rules) c.signed64-2.ensures
