-- Proof obligations of `signed_quotient` (src/arithmetic32.rt).
use Rattle.bpf_word.proofs.Prelude.{rules, arith, ◌∙◌, w32, operated}
use Rattle.bpf_word.proofs.Casts.{nonzero_is, quotient_is}
use Rattle.bpf_word.proofs.arithmetic32.signed_quotient.Goals as goal

pub wrapping_div-quotient-requires : goal.wrapping_div-quotient-requires
wrapping_div-quotient-requires c =
    nonzero_is w32 c.args.operand c.signed32-2.result c.ranges.operand.fits c.if-operand-eq0.false (search rules) c.signed32-2.ensures

pub returns : goal.returns
unfolding operated
returns c =
    let quotient = quotient_is w32 _ _ c.signed32.result c.signed32-2.result c.wrapping_div-quotient.result
    (record { fits = search rules; is = c.signed32.ensures }) (record { fits = search rules; is = c.signed32-2.ensures })
    (search rules) c.wrapping_div-quotient.ensures in
    let e = c.word32.ensures ∙ quotient in
    grind arith
