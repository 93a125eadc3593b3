-- Proofs of `cuts::cut`: a code point keeps the invariant, and the result meets the contract.
use Rattle.text_functions.proofs.Prelude.{arith, ap, length, length-append}
use Rattle.text_functions.proofs.Cutting.{all_passed, more_passed, none_passed}
use Rattle.text_functions.proofs.cuts.cut.Goals as goal

pub letters-init : goal.letters-init
letters-init c = record { utf8 = c.utf8.text; passed = none_passed c.args.count c.args.text.now c.utf8.text }

pub letters-preserved : goal.letters-preserved
letters-preserved c = record {
  utf8 = c.in-Some.ensures.1.utf8;
  passed = more_passed c.args.count c.args.text.now c.letters.rest.now _ c.in-Some.after.now c.letters.left c.letters.invariant.passed c.in-Some.ensures.0 c.in-Some.ensures.1;
}

pub parted-requires : goal.parted-requires
parted-requires c = (_, c.letters.invariant.passed.parted)

pub returns-clause-cut : goal.returns-clause-cut
returns-clause-cut c =
    all_passed c.args.count c.args.text.now c.letters.rest.now c.letters.left c.utf8.text c.letters.invariant.passed c.in_default.ensures _ _ c.parted.ensures.whole
    c.parted.ensures.back

pub returns-clause-lengths : goal.returns-clause-lengths
returns-clause-lengths c = omega (arith, ap length c.parted.ensures.whole, length-append c.parted.result.0.now c.parted.result.1.now)
