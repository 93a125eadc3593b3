-- Proof obligations of `front_rows_stand` (src/rows.rt).
use Rattle.std.proofs.Common.{refl}
use lib.Utf8.{encode}
use Rattle.cel_tokens.specs.Bytes.{between, run}
use Rattle.cel_tokens.specs.Ints.{number_from}
use Rattle.cel_tokens.specs.Lexed.{front}
use Rattle.cel_tokens.specs.Texts.{content, escape}
use Rattle.cel_tokens.proofs.rows.front_rows_stand.Goals as goal

pub returns : goal.returns
unfolding encode between run number_from front content escape
returns c = record {
  end = refl;
  blanks = refl;
  comment = refl;
  comment_to_the_end = refl;
  two_comments = refl;
  slash = refl;
  a_name = refl;
  keyword = refl;
  raw_prefix_alone = refl;
  byte_string = refl;
  an_int = refl;
  zero_in_front = refl;
  hex = refl;
  hex_without_digits = refl;
  upper_x = refl;
  fraction = refl;
  greatest_int = refl;
  past_greatest_int = refl;
  hex_past_greatest = refl;
  signed_int = refl;
  signed_nine = refl;
  minus_at_the_end = refl;
  signed_behind_blank = refl;
  minus_zero = refl;
  minus_of_a_name = refl;
  minus_where_no_sign_may_stand = refl;
  past_least_int = refl;
  blank_before_wide = refl;
  a_text = refl;
  double_quoted = refl;
  empty_text = refl;
  escapes = refl;
  character_of_three_bytes = refl;
  escaped_quote = refl;
  raw_text = refl;
  upper_raw = refl;
  unended = refl;
  ended_by_another = refl;
  line_feed_in_text = refl;
  carriage_return_in_text = refl;
  wrong_escape = refl;
  raw_unended = refl;
  raw_line_feed = refl;
  a_mark = refl;
  unknown = refl;
  single_ampersand = refl;
}
