-- Proof obligations of `number_rows_stand` (src/rows.rt).
use Rattle.std.proofs.Common.{refl}
use lib.Utf8.{encode}
use Rattle.cel_tokens.specs.Bytes.{run}
use Rattle.cel_tokens.specs.Ints.{number_from}
use Rattle.cel_tokens.specs.Texts.{escape}
use Rattle.wide_tokens.specs.Gap.{between}
use Rattle.wide_tokens.specs.Lexed.{front}
use Rattle.wide_tokens.specs.Texts.{content}
use Rattle.wide_tokens.proofs.rows.number_rows_stand.Goals as goal

pub returns : goal.returns
unfolding encode between run number_from front content escape
returns c = record {
  an_int = refl;
  hex = refl;
  hex_before_a_dot = refl;
  hex_without_digits = refl;
  unsigned = refl;
  unsigned_upper = refl;
  unsigned_hex = refl;
  fraction = refl;
  fraction_alone = refl;
  power = refl;
  upper_power = refl;
  fraction_and_power = refl;
  raised = refl;
  dot_alone = refl;
  dot_before_a_name = refl;
  letter_alone = refl;
  letter_and_sign = refl;
  power_alone = refl;
  no_digits = refl;
  no_number = refl;
  nothing_left = refl;
}
