-- Fronts of texts that were worked out by hand.
use Rattle.std.specs.Prelude.{◌≡◌, pos, negsuc, [], ◌∷◌, true, false, Some, None, codes}
use Rattle.cel_tokens.specs.declared.mark.Mark.TheVariants as marks
use Rattle.wide_tokens.specs.declared.number.Number.TheVariants.{Int, Uint, Double}
use Rattle.wide_tokens.specs.Token.{name, quoted, int, uint, text, bytes, double, mark}
use Rattle.wide_tokens.specs.Numbers.{number_at}
use Rattle.wide_tokens.specs.Lexed.{front, over, space, word, wrong_text, wide_int, nothing}

-- the number at the front of a text, with its length
pub record WideNumberRowsStand : Type 0 where
  pub an_int : number_at (codes "12a") ≡ Some (Int, 2)
  pub hex : number_at (codes "0x1Fg") ≡ Some (Int, 4)
  pub hex_before_a_dot : number_at (codes "0x1.5") ≡ Some (Int, 3)
  pub hex_without_digits : number_at (codes "0xg") ≡ Some (Int, 1)
  pub unsigned : number_at (codes "1u") ≡ Some (Uint, 2)
  pub unsigned_upper : number_at (codes "12U+") ≡ Some (Uint, 3)
  pub unsigned_hex : number_at (codes "0xFu") ≡ Some (Uint, 4)
  pub fraction : number_at (codes "1.5") ≡ Some (Double, 3)
  pub fraction_alone : number_at (codes ".5") ≡ Some (Double, 2)
  pub power : number_at (codes "1e3") ≡ Some (Double, 3)
  pub upper_power : number_at (codes "1E3") ≡ Some (Double, 3)
  pub fraction_and_power : number_at (codes "1.5e-3)") ≡ Some (Double, 6)
  pub raised : number_at (codes "1e+3") ≡ Some (Double, 4)
  pub dot_alone : number_at (codes "1.") ≡ Some (Int, 1)
  pub dot_before_a_name : number_at (codes "1.e3") ≡ Some (Int, 1)
  pub letter_alone : number_at (codes "1e") ≡ Some (Int, 1)
  pub letter_and_sign : number_at (codes "1e+") ≡ Some (Int, 1)
  pub power_alone : number_at (codes ".e3") ≡ None
  pub no_digits : number_at (codes ".") ≡ None
  pub no_number : number_at (codes "u1") ≡ None
  pub nothing_left : number_at [] ≡ None

-- the front of a text; the first word tells whether a sign may be here
pub record WideFrontRowsStand : Type 0 where
  pub end : front true [] ≡ over
  pub comment : front true (codes "// a\nb") ≡ space 5
  pub comment_with_a_return : front true (codes "// a\r b\nc") ≡ space 8
  pub a_name : front true (codes "ab_1 c") ≡ word 4 (name (codes "ab_1"))
  pub one_text : front true (codes "'a' 'b'") ≡ word 3 (text (codes "a"))
  pub empty_text : front true (codes "''+'") ≡ word 2 (text [])
  pub long_text : front true (codes "'''it's'''") ≡ word 10 (text (codes "it's"))
  pub long_quotes : front true (codes "\"\"\"a\"b\"\"\"") ≡ word 9 (text (codes "a\"b"))
  pub long_with_a_line : front true (codes "'''a\nb'''") ≡ word 9 (text (codes "a\nb"))
  pub long_with_a_return : front true (codes "'''a\r'''") ≡ word 8 (text (codes "a\r"))
  pub long_escape : front true (codes "'''\\x41'''") ≡ word 10 (text (codes "A"))
  pub long_raw : front true (codes "r\"\"\"\\d\"\"\"") ≡ word 9 (text (codes "\\d"))
  pub raw_upper : front true (codes "R'\\d'") ≡ word 5 (text (codes "\\d"))
  pub long_empty : front true (codes "''''''") ≡ word 6 (text [])
  pub long_open : front true (codes "'''a''") ≡ wrong_text
  pub three_quotes : front true (codes "'''") ≡ wrong_text
  pub text_over_a_line : front true (codes "'a\nb'") ≡ wrong_text
  pub text_open : front true (codes "'abc") ≡ wrong_text
  pub wrong_escape : front true (codes "'\\d'") ≡ wrong_text
  pub some_bytes : front true (codes "b'a'") ≡ word 4 bytes
  pub upper_bytes : front true (codes "B\"a\"") ≡ word 4 bytes
  pub raw_bytes : front true (codes "bR'\\d'") ≡ word 6 bytes
  pub long_bytes : front true (codes "b'''a'''") ≡ word 8 bytes
  pub bytes_open : front true (codes "b'a") ≡ wrong_text
  pub no_bytes : front true (codes "rb'a'") ≡ word 2 (name (codes "rb"))
  pub bytes_prefix_alone : front true (codes "bx") ≡ word 2 (name (codes "bx"))
  pub an_int : front true (codes "12a") ≡ word 2 (int (pos 12))
  pub an_unsigned : front true (codes "2u") ≡ word 2 (uint 2)
  pub greatest_unsigned : front true (codes "18446744073709551615u") ≡ word 21 (uint 18446744073709551615)
  pub past_greatest_unsigned : front true (codes "18446744073709551616u") ≡ wide_int 0
  pub past_greatest_int : front true (codes "9223372036854775808") ≡ wide_int 0
  pub a_double : front true (codes "1.5 < x") ≡ word 3 double
  pub no_whole : front true (codes ".5") ≡ word 2 double
  pub signed_int : front true (codes "-5") ≡ word 2 (int (negsuc 4))
  pub signed_behind_a_comment : front true (codes "-// a\r\n 5") ≡ word 9 (int (negsuc 4))
  pub minus_of_a_double : front true (codes "-1.5") ≡ word 1 (mark marks.Minus)
  pub minus_of_an_unsigned : front true (codes "-1u") ≡ word 1 (mark marks.Minus)
  pub minus_where_no_sign_may_stand : front false (codes "-5") ≡ word 1 (mark marks.Minus)
  pub minus_of_a_name : front true (codes "-a") ≡ word 1 (mark marks.Minus)
  pub a_quoted_name : front true (codes "`a-b/c.d e`") ≡ word 11 (quoted (codes "a-b/c.d e"))
  pub no_name_quoted : front true (codes "``") ≡ nothing
  pub quotes_open : front true (codes "`ab") ≡ nothing
  pub other_byte_quoted : front true (codes "`a:b`") ≡ nothing
  pub dot : front true (codes ".a") ≡ word 1 (mark marks.Dot)
  pub no_mark : front true (codes "#") ≡ nothing
