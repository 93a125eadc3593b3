-- Proof obligations of `wide` (src/text/words.rt).
use Rattle.assembler.proofs.Prelude.{◌∙◌, ap, arith, sym, Ok, all_hex_digits}
use Rattle.assembler.proofs.Digits.{hex_again, not_wide, parse_hex, wide_refused}
use Rattle.assembler.proofs.text.words.wide.Goals as goal

pub returns-then-digits-ne-DIGITS : goal.returns-then-digits-ne-DIGITS
returns-then-digits-ne-DIGITS c = λ w low. not_wide c.args.text.now c.in_ok-digits.digits.now c.in_ok-digits.ensures (λ long. absurd (omega arith)) w

pub returns-then-not-all_hex_digits : goal.returns-then-not-all_hex_digits
returns-then-not-all_hex_digits c = λ w low. not_wide c.args.text.now c.in_ok-digits.digits.now c.in_ok-digits.ensures (λ long. sym (c.all_hex_digits.ensures ∙ ap all_hex_digits c.as_bytes.ensures.value) ∙ c.if-not-all_hex_digits.true) w

pub returns-in-Ok : goal.returns-in-Ok
returns-in-Ok c = grind (arith, Ok, parse_hex, hex_again)

pub returns-in-Err : goal.returns-in-Err
returns-in-Err c = wide_refused c.in_ok-digits.digits.now c.from_str_radix.result c.in-Err.field-0 (sym (c.all_hex_digits.ensures ∙ ap all_hex_digits c.as_bytes.ensures.value) ∙ c.if-not-all_hex_digits.false) (omega arith) c.from_str_radix.ensures.value c.in-Err.is
