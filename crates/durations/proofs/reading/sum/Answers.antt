-- Proofs of `reading::sum`: each number is added, and the sum ends with the text or the first error.
use Rattle.std.proofs.Common.{◌≡◌, ◌∙◌, ◌<◌, Ok, Err, length, sym, arith}
use Rattle.std.proofs.lemmas.Bool.Decides.{nat_tests}
use Rattle.durations.specs.Durations.{next}
use Rattle.durations.proofs.Sums.{all_summed, refused, sum_step}
use Rattle.durations.proofs.reading.sum.Goals as goal
use Rattle.text_numbers.specs.Numbers.{written}

pub numbers-preserved : goal.numbers-preserved
numbers-preserved c =
    let some : 0 < length c.numbers.rest.now = grind (arith, nat_tests) in
    let e : next c.numbers.sum (written c.numbers.rest.now) ≡ Ok c.in-Ok.total = sym c.step-next.ensures.value ∙ c.in-Ok.is in
    record {
      small = rw c.in-Ok.is at c.step-next.ensures.small;
      is = sum_step c.numbers.rest.now c.step-next.result.1.now c.numbers.sum c.in-Ok.total some e c.step-next.ensures.rest ∙ c.numbers.invariant.is;
    }

pub returns-in-Err-clause-value : goal.returns-in-Err-clause-value
returns-in-Err-clause-value c =
    let some : 0 < length c.numbers.rest.now = grind (arith, nat_tests) in
    let e : next c.numbers.sum (written c.numbers.rest.now) ≡ Err c.in-Err.error = sym c.step-next.ensures.value ∙ c.in-Err.is in
    sym (refused c.numbers.rest.now c.numbers.sum c.in-Err.error some e) ∙ c.numbers.invariant.is

pub returns-clause-value : goal.returns-clause-value
returns-clause-value c =
    let none : length c.numbers.rest.now ≡ 0 = grind (arith, nat_tests) in
    sym (all_summed c.numbers.sum c.numbers.rest.now none) ∙ c.numbers.invariant.is
