-- Proofs of `fractions::nanos_in`: nine digits fit.
use Rattle.std.proofs.Common.{◌≡◌, ◌*◌, ◌-◌, ◌≤◌, ap₂, arith, length, subst, sym}
use Rattle.std.proofs.Math.Nat.{mul-le-mul}
use Rattle.text_numbers.specs.Numbers.{number}
use Rattle.timestamps.proofs.Nanos.{few_digits, small_power}
use Rattle.timestamps.proofs.fractions.nanos_in.Goals as goal

pub overflow_cast-number : goal.overflow_cast-number
overflow_cast-number c = omega (arith, few_digits c.args.digits.now c.requires.digits c.requires.few)

pub overflow_mul-result : goal.overflow_mul-result
overflow_mul-result c =
    let p : c.digits_number-number.result ≤ 1000000000 = omega (arith, few_digits c.args.digits.now c.requires.digits c.requires.few) in
    let q : c.pow.result ≤ 1000000000 = subst (λ x. x ≤ 1000000000) (sym c.pow.ensures) (small_power (9 - length c.args.digits.now) (omega arith)) in
    omega (arith, mul-le-mul p q)

pub returns : goal.returns
returns c =
    let e : c.digits_number-number.result ≡ number c.args.digits.now = omega (arith, few_digits c.args.digits.now c.requires.digits c.requires.few) in
    ap₂ (λ a b. a * b) e c.pow.ensures
