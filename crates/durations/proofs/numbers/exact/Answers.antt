-- Proofs of `numbers::exact`: the products fit.
use Rattle.std.proofs.Common.{arith, ◌≤◌}
use Rattle.std.proofs.Math.Nat.{mul-le-mul_right}
use Rattle.durations.proofs.Sums.{pow_small, pow_some}
use Rattle.durations.proofs.numbers.exact.Goals as goal

pub overflow_mul-size : goal.overflow_mul-size
overflow_mul-size c = omega (arith, mul-le-mul_right c.args.unit c.requires.whole)

pub overflow_mul-scaled : goal.overflow_mul-scaled
overflow_mul-scaled c =
    let p = pow_small c.args.len c.requires.len in
    let h : c.args.digits ≤ 100000000000 = omega arith in
    omega (arith, mul-le-mul_right c.args.unit h)

pub pow-power-requires : goal.pow-power-requires
pow-power-requires c = omega (arith, pow_small c.args.len c.requires.len)

pub nonzero_div-part : goal.nonzero_div-part
nonzero_div-part c = omega (arith, pow_some c.args.len)
