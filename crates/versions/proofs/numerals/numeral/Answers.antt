-- Proofs of `numerals::numeral`: a number that is allowed fits.
use Rattle.std.proofs.Common.{◌≡◌, ◌∙◌, Bool, Option, None, Some, true, ◌&&◌, ◌==◌, cond, length, not, ap, arith, sym}
use Rattle.text_numbers.specs.Numbers.{number}
use Rattle.versions.proofs.Sizes.{allowed_small}
use Rattle.versions.specs.Versions.{is_allowed}
use Rattle.versions.proofs.numerals.numeral.Goals as goal

picked : {X : Type 0} (a b : Bool) (x y : Option X) → a ≡ true → b ≡ true → x ≡ y → x ≡ cond (a && b) y None
picked a b x y p q e = rw (p, q) e

pub overflow_cast-result : goal.overflow_cast-result
overflow_cast-result c =
    let t : is_allowed c.args.normalize c.args.digits.now ≡ true = sym c.is_allowed.ensures ∙ c.if-is_allowed.true in
    omega (arith, allowed_small c.args.normalize c.args.digits.now t, c.digits_number.ensures)

pub returns-then-is_allowed : goal.returns-then-is_allowed
returns-then-is_allowed c =
    let t : is_allowed c.args.normalize c.args.digits.now ≡ true = sym c.is_allowed.ensures ∙ c.if-is_allowed.true in
    let s : not (length c.args.digits.now == 0) ≡ true = ap not (sym c.is_empty.ensures ∙ c.if-not-is_empty.true) in
    let e : c.digits_number.result ≡ number c.args.digits.now = omega (arith, allowed_small c.args.normalize c.args.digits.now t, c.digits_number.ensures) in
    picked (not (length c.args.digits.now == 0)) (is_allowed c.args.normalize c.args.digits.now) (Some (c.digits_number.result, c.args.rest.now)) (Some (number c.args.digits.now, c.args.rest.now)) s t (ap (λ n. Some (n, c.args.rest.now)) e)
