-- Tokens at the front of a text, and the signs after them (cel-spec, syntax; cel-go, parser/gen/CEL.g4), worked by hand.
use Rattle.std.specs.Prelude.{◌≡◌, true, false, pos, negsuc, [], Some, codes}
use Rattle.cel_tokens.specs.declared.mark.Mark.TheVariants as marks
use Rattle.wide_tokens.specs.Gap.{between}
use Rattle.wide_tokens.specs.Lexed.{front, sign_may_follow, space, word}
use Rattle.wide_tokens.specs.Lexis.{WideTakesMemory, lexeme}
use Rattle.wide_tokens.specs.Numbers.{number_at}
use Rattle.wide_tokens.specs.Quoted.{is_quoted_name}
use Rattle.wide_tokens.specs.Token.{name, quoted, int, uint, text, bytes, double, mark, token_view, word_of}
use Rattle.wide_tokens.specs.declared.kind.Kind.TheVariants as kind
use Rattle.wide_tokens.specs.declared.number.Number.TheVariants.{Int, Double}

-- gaps, numbers and words at the front
pub record WideTokenRowsStand : Type 0 where
  pub one_blank : front true (codes " a") ≡ space 1
  pub blank_alone : front true (codes " ") ≡ space 1
  pub comment_to_the_end : front true (codes "//a") ≡ space 3
  pub blanks_and_comment : front false (codes "\t\u{c}//\n\r\nx") ≡ space 7
  pub one_slash : front true (codes "/ a") ≡ word 1 (mark marks.Slash)
  pub no_gap : between false (codes "a ") ≡ 0
  pub letter_in_a_number : number_at (codes "1a.5") ≡ Some (Int, 1)
  pub greatest_digit : number_at (codes "9.5") ≡ Some (Double, 3)
  pub upper_hex_prefix : number_at (codes "0X1") ≡ Some (Int, 1)
  pub empty_bytes : front true (codes "b''") ≡ word 3 bytes
  pub raw_backslash : front true (codes "r'\\'") ≡ word 4 (text (codes "\\"))
  pub two_quotes_inside : front true (codes "'''a''b'''") ≡ word 10 (text (codes "a''b"))
  pub other_quotes_inside : front true (codes "'''a\"\"\"'''") ≡ word 10 (text (codes "a\"\"\""))
  pub one_quoted_letter : front false (codes "`a`") ≡ word 3 (quoted (codes "a"))
  pub quote_behind_a_mark : front false (codes "-a`") ≡ word 1 (mark marks.Minus)
  pub least_int : front true (codes "-9223372036854775808") ≡ word 20 (int (negsuc 9223372036854775807))
  pub hex_unsigned : front true (codes "0xFFu") ≡ word 5 (uint 255)
  pub double_before_u : front true (codes "1.5u") ≡ word 3 double
  pub is_name_in_quotes : is_quoted_name (codes "a-b/c.d_1 e") ≡ true
  pub empty_is_no_name : is_quoted_name [] ≡ false
  pub colon_is_no_part : is_quoted_name (codes "a:b") ≡ false
  pub all_are_parts : is_quoted_name (codes ":a") ≡ false

-- whether a minus after a token may be the sign of an int
pub record WideSignRowsStand : Type 0 where
  pub in_operator : sign_may_follow (name (codes "in")) ≡ true
  pub other_name : sign_may_follow (name (codes "a")) ≡ false
  pub longer_name : sign_may_follow (name (codes "inn")) ≡ false
  pub quoted_name : sign_may_follow (quoted (codes "in")) ≡ false
  pub an_int : sign_may_follow (int (pos 1)) ≡ false
  pub an_unsigned : sign_may_follow (uint 1) ≡ false
  pub a_text : sign_may_follow (text (codes "in")) ≡ false
  pub some_bytes : sign_may_follow bytes ≡ false
  pub a_double : sign_may_follow double ≡ false
  pub parenthesis : sign_may_follow (mark marks.CloseParen) ≡ false
  pub bracket : sign_may_follow (mark marks.CloseBracket) ≡ false
  pub brace : sign_may_follow (mark marks.CloseBrace) ≡ false
  pub open_parenthesis : sign_may_follow (mark marks.OpenParen) ≡ true
  pub minus : sign_may_follow (mark marks.Minus) ≡ true
  pub comma : sign_may_follow (mark marks.Comma) ≡ true

-- tokens with their places, and the words of the code's tokens
pub record TokenWordRowsStand : Type 0 where
  pub token : lexeme 3 2 (name (codes "ab")) ≡ record { place = 3; end = 5; word = name (codes "ab") }
  pub of_name : word_of (codes "ab") kind.Name ≡ name (codes "ab")
  pub of_quoted : word_of (codes "`ab`") kind.Quoted ≡ quoted (codes "ab")
  pub of_unsigned : word_of (codes "7u") (kind.Uint 7) ≡ uint 7
  pub of_bytes : word_of (codes "b''") kind.Bytes ≡ bytes
  pub of_double : word_of (codes "1.5") kind.Double ≡ double
  pub of_mark : word_of (codes "<=") kind.Mark ≡ mark marks.LessEqual
  pub second_token : token_view (codes "a bc d") (record { place = 2; end = 4; kind = kind.Name })
      ≡ record { place = 2; end = 4; word = name (codes "bc") }

-- where an allocation may fail: not before a word that is no text is refused
pub record MemoryRowsStand : Type 0 where
  pub at_a_word : WideTakesMemory true (codes "a")
  pub at_a_text : WideTakesMemory true (codes "'a")
  pub behind_a_blank : WideTakesMemory true (codes " a")
  pub not_at_a_wrong_byte : WideTakesMemory true (codes "#") → ⊥
  pub not_behind_a_blank : WideTakesMemory true (codes " #") → ⊥
