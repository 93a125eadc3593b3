-- Fronts of texts at which one byte more or less would make another token, worked by hand from the lexis of cel-spec.
use Rattle.std.specs.Prelude.{◌≡◌, true, false, [], ◌∷◌, Some, None, codes}
use Rattle.cel_tokens.specs.Bytes.{between, opens_comment}
use Rattle.cel_tokens.specs.Ints.{hex_begins, int_at}
use Rattle.cel_tokens.specs.Lexed.{front, signed_int_begins, space}
use Rattle.cel_tokens.specs.Lexis.{lexeme}
use Rattle.cel_tokens.specs.Marks.{mark_at}
use Rattle.cel_tokens.specs.Texts.{escape, opening, piece}
use Rattle.cel_tokens.specs.Token.{name}
use Rattle.cel_tokens.specs.declared.mark.Mark.TheVariants as marks

-- blanks and comments (COMMENT: two slashes up to the end of the line)
pub record CommentRowsStand : Type 0 where
  pub nothing : opens_comment [] ≡ false
  pub one_slash : opens_comment (codes "/") ≡ false
  pub second_slash_alone : opens_comment (codes "a/") ≡ false
  pub first_slash_alone : opens_comment (codes "/a") ≡ false
  pub two_slashes : opens_comment (codes "//") ≡ true
  pub one_blank : front true (codes " a") ≡ space 1
  -- outside a comment a name ends the gap, inside it does not
  pub blank_and_name : front true (codes " a b") ≡ space 1
  pub inside : between true (codes " a b") ≡ 4
  pub two_lines : between true (codes "a\nb") ≡ 2
  -- the token of three bytes at 4 ends before 7
  pub end_of_token : lexeme 4 3 (name (codes "abc")) ≡ record { place = 4; end = 7; word = name (codes "abc") }

-- ints (INT_LIT: decimal digits, or 0x and hex digits), and marks of two bytes
pub record IntRowsStand : Type 0 where
  pub no_hex : hex_begins [] ≡ false
  pub hex_of_one_byte : hex_begins (codes "0") ≡ false
  pub hex_without_digit : hex_begins (codes "0x") ≡ false
  pub hex_digit_f : hex_begins (codes "0xf") ≡ true
  pub hex_digit_g : hex_begins (codes "0xg") ≡ false
  pub hex_of_another_digit : hex_begins (codes "1x0") ≡ false
  pub hex_of_another_letter : hex_begins (codes "0y0") ≡ false
  pub last_hex_digit : int_at (codes "0xFfg") ≡ (4, 255)
  pub plus_is_no_sign : signed_int_begins 43 (codes "+5") ≡ false
  pub minus_is_a_sign : signed_int_begins 45 (codes "-5") ≡ true
  pub second_bar_alone : mark_at (codes "?|") ≡ Some (marks.Question, 1)
  pub second_ampersand_alone : mark_at (codes "?&") ≡ Some (marks.Question, 1)
  pub equals_after_plus : mark_at (codes "+=") ≡ Some (marks.Plus, 1)
  pub equals_after_question : mark_at (codes "?=") ≡ Some (marks.Question, 1)

-- openings of text literals (STRING_LIT: r or R before a quote makes a raw one)
pub record OpeningRowsStand : Type 0 where
  pub nothing : opening [] ≡ None
  pub last_quote : opening (codes "'") ≡ Some (false, 39)
  pub last_prefix : opening (codes "r") ≡ None
  pub prefix_and_name : opening (codes "ra") ≡ None
  pub name_and_quote : opening (codes "a'") ≡ None
  pub raw_quote : opening (codes "r'") ≡ Some (true, 39)
  -- the first piece of a text has one byte, also a backslash in a raw one, and a line feed is none
  pub first_piece : piece false (codes "ab") ≡ Some (1, codes "a")
  pub raw_backslash : piece true (codes "\\n") ≡ Some (1, 92 ∷ [])
  pub line_feed : piece true (codes "\n") ≡ None

-- escapes that more digits follow (ESCAPE)
pub record TextEscapeRowsStand : Type 0 where
  pub hex_of_two_digits : escape (codes "x413") ≡ Some (0x41, 3)
  pub octal_of_three_digits : escape (codes "1012") ≡ Some (0x41, 3)
