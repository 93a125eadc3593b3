-- Proof obligations of `written_rows_hold` (src/laws.rt).
use Rattle.std.proofs.Common.{refl}
use lib.Utf8.{encode}
use Rattle.pattern_reader.proofs.laws.written_rows_hold.Goals as goal

pub returns : goal.returns
unfolding encode
returns c = record {
  any = refl;
  any_with_line_feeds = refl;
  end_of_text = refl;
  boundary = refl;
  no_digit = refl;
  space = refl;
  folded_group = refl;
  a_dot = refl;
  a_less_sign = refl;
}
