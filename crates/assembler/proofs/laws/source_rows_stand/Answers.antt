-- Proof obligations of `source_rows_stand` (src/laws.rt).
use Rattle.assembler.proofs.Prelude.{rules, arith, refl, decimal, hex_digits}
use Rattle.assembler.proofs.laws.source_rows_stand.Goals as goal

pub returns : goal.returns
unfolding decimal hex_digits
returns c = record {
  forward_lines = search rules;
  forward_code = refl;
  back_lines = search rules;
  back_code = refl;
  wide_has_line = search rules;
  widest_has_line = search rules;
  wider_has_none = λ h. grind (arith, h);
  wide_is_out = λ h. grind (arith, h);
  past_the_greatest = λ h. grind (arith, h);
  greatest = search rules;
  least = search rules;
  past_the_least = λ h. grind (arith, h);
  branch_out = λ h. grind (arith, h);
  named_twice = search rules;
  named_once = search rules;
  unknown = refl;
  too_far_for_code = refl;
  far_enough_for_code = refl;
  farthest = refl;
  too_far = refl;
  farthest_back = refl;
  too_far_back = refl;
  branch_too_far = refl;
  long_reaches = refl;
  call_reaches = refl;
}
