-- Proof obligations of `front_rows_stand` (src/rows.rt).
use Rattle.std.proofs.Common.{refl}
use lib.Utf8.{encode}
use Rattle.cel_tokens.specs.Bytes.{run}
use Rattle.cel_tokens.specs.Ints.{number_from}
use Rattle.cel_tokens.specs.Texts.{escape}
use Rattle.wide_tokens.specs.Gap.{between}
use Rattle.wide_tokens.specs.Lexed.{front}
use Rattle.wide_tokens.specs.Texts.{content}
use Rattle.wide_tokens.proofs.rows.front_rows_stand.Goals as goal

pub returns : goal.returns
unfolding encode between run number_from front content escape
returns c = record {
  end = refl;
  comment = refl;
  comment_with_a_return = refl;
  a_name = refl;
  one_text = refl;
  empty_text = refl;
  long_text = refl;
  long_quotes = refl;
  long_with_a_line = refl;
  long_with_a_return = refl;
  long_escape = refl;
  long_raw = refl;
  raw_upper = refl;
  long_empty = refl;
  long_open = refl;
  three_quotes = refl;
  text_over_a_line = refl;
  text_open = refl;
  wrong_escape = refl;
  some_bytes = refl;
  upper_bytes = refl;
  raw_bytes = refl;
  long_bytes = refl;
  bytes_open = refl;
  no_bytes = refl;
  bytes_prefix_alone = refl;
  an_int = refl;
  an_unsigned = refl;
  greatest_unsigned = refl;
  past_greatest_unsigned = refl;
  past_greatest_int = refl;
  a_double = refl;
  no_whole = refl;
  signed_int = refl;
  signed_behind_a_comment = refl;
  minus_of_a_double = refl;
  minus_of_an_unsigned = refl;
  minus_where_no_sign_may_stand = refl;
  minus_of_a_name = refl;
  a_quoted_name = refl;
  no_name_quoted = refl;
  quotes_open = refl;
  other_byte_quoted = refl;
  dot = refl;
  no_mark = refl;
}
