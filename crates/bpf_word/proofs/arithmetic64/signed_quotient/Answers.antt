-- Proof obligations of `signed_quotient` (src/arithmetic64.rt).
use Rattle.bpf_word.proofs.Prelude.{rules, arith, ◌∙◌, w64, operated}
use Rattle.bpf_word.proofs.Casts.{nonzero_is, quotient_is}
use Rattle.bpf_word.proofs.arithmetic64.signed_quotient.Goals as goal

pub wrapping_div-quotient-requires : goal.wrapping_div-quotient-requires
wrapping_div-quotient-requires c =
    nonzero_is w64 c.args.operand c.signed64-2.result c.ranges.operand.fits c.if-operand-eq0.false (search rules) c.signed64-2.ensures

pub returns : goal.returns
unfolding operated
returns c =
    let quotient = quotient_is w64 _ _ c.signed64.result c.signed64-2.result c.wrapping_div-quotient.result
    (record { fits = search rules; is = c.signed64.ensures }) (record { fits = search rules; is = c.signed64-2.ensures })
    (search rules) c.wrapping_div-quotient.ensures in
    let e = c.word64.ensures ∙ quotient in
    grind arith
