-- Proofs of `numbers::in_unit`: the result meets the contract.
use Rattle.std.proofs.Common.{arith}
use Rattle.text_numbers.specs.Numbers.{number_view}
use Rattle.durations.proofs.Sums.{too_large, unit_is}
use Rattle.durations.proofs.numbers.in_unit.Goals as goal

pub returns-then-whole-gt-LIMIT-clause-value : goal.returns-then-whole-gt-LIMIT-clause-value
returns-then-whole-gt-LIMIT-clause-value c =
    too_large (number_view c.args.number.now) c.args.unit c.digits_number-whole.result (omega arith) c.digits_number-whole.ensures (omega arith)

pub returns-clause-value : goal.returns-clause-value
returns-clause-value c =
    unit_is (number_view c.args.number.now) c.args.unit c.digits_number-whole.result c.digits_number-digits.result c.nanoseconds-unit_size.result c.exact-size.result _ (omega arith) c.digits_number-whole.ensures
    (omega arith) c.digits_number-digits.ensures c.requires c.nanoseconds-unit_size.ensures.value c.exact-size.ensures c.limited.ensures.value
