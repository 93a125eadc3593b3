-- Bytes, escapes, marks and fronts of texts, worked out by hand from the lexis of cel-spec.
use Rattle.std.specs.Prelude.{◌≡◌, pos, negsuc, true, false, [], ◌∷◌, Some, None, codes}
use Rattle.cel_tokens.specs.Bytes.{is_blank, is_digit_of, is_letter, is_line_end, is_name, is_name_byte}
use Rattle.cel_tokens.specs.ErrorCodes.{read_error_code, read_error_place}
use Rattle.cel_tokens.specs.Lexed.{front, nothing, over, sign_may_follow, space, wide_int, word, wrong_text}
use Rattle.cel_tokens.specs.Limits.{text_limit, token_limit}
use Rattle.cel_tokens.specs.Marks.{mark_at, mark_of}
use Rattle.cel_tokens.specs.Texts.{escape, is_code_point, is_quote, is_raw_prefix}
use Rattle.cel_tokens.specs.Token.{int, mark, name, text}
use Rattle.cel_tokens.specs.declared.mark.Mark.TheVariants as marks
use Rattle.cel_tokens.specs.declared.read_error.ReadError.TheVariants as error

-- the classes of bytes at their boundaries
pub record ByteRowsStand : Type 0 where
  pub letter_at_sign : is_letter 64 ≡ false
  pub letter_upper_a : is_letter 65 ≡ true
  pub letter_upper_z : is_letter 90 ≡ true
  pub letter_square_bracket : is_letter 91 ≡ false
  pub letter_underscore : is_letter 95 ≡ true
  pub letter_back_quote : is_letter 96 ≡ false
  pub letter_lower_a : is_letter 97 ≡ true
  pub letter_lower_z : is_letter 122 ≡ true
  pub letter_brace : is_letter 123 ≡ false
  pub digit_begins_no_name : is_letter 48 ≡ false
  pub in_name_slash : is_name_byte 47 ≡ false
  pub in_name_zero : is_name_byte 48 ≡ true
  pub in_name_nine : is_name_byte 57 ≡ true
  pub in_name_colon : is_name_byte 58 ≡ false
  pub in_name_underscore : is_name_byte 95 ≡ true
  pub in_name_letter : is_name_byte 97 ≡ true
  pub in_name_dot : is_name_byte 46 ≡ false
  pub blank_space : is_blank 32 ≡ true
  pub blank_tab : is_blank 9 ≡ true
  pub blank_line_feed : is_blank 10 ≡ true
  pub blank_vertical_tab : is_blank 11 ≡ false
  pub blank_form_feed : is_blank 12 ≡ true
  pub blank_carriage_return : is_blank 13 ≡ true
  pub blank_no_break : is_blank 160 ≡ false
  pub blank_nul : is_blank 0 ≡ false
  pub line_end_line_feed : is_line_end 10 ≡ true
  pub line_end_carriage_return : is_line_end 13 ≡ true
  pub line_end_form_feed : is_line_end 12 ≡ false
  pub line_end_tab : is_line_end 9 ≡ false
  pub hex_nine : is_digit_of 16 57 ≡ true
  pub hex_colon : is_digit_of 16 58 ≡ false
  pub hex_lower_f : is_digit_of 16 102 ≡ true
  pub hex_lower_g : is_digit_of 16 103 ≡ false
  pub hex_upper_f : is_digit_of 16 70 ≡ true
  pub hex_upper_g : is_digit_of 16 71 ≡ false
  pub hex_slash : is_digit_of 16 47 ≡ false
  pub octal_seven : is_digit_of 8 55 ≡ true
  pub octal_eight : is_digit_of 8 56 ≡ false
  pub quote_double : is_quote 34 ≡ true
  pub quote_single : is_quote 39 ≡ true
  pub quote_back : is_quote 96 ≡ false
  pub raw_lower : is_raw_prefix 114 ≡ true
  pub raw_upper : is_raw_prefix 82 ≡ true
  pub raw_byte_string : is_raw_prefix 98 ≡ false
  pub code_point_zero : is_code_point 0 ≡ true
  pub code_point_before_surrogates : is_code_point 0xd7ff ≡ true
  pub code_point_first_surrogate : is_code_point 0xd800 ≡ false
  pub code_point_last_surrogate : is_code_point 0xdfff ≡ false
  pub code_point_after_surrogates : is_code_point 0xe000 ≡ true
  pub code_point_last : is_code_point 0x10ffff ≡ true
  pub code_point_past_last : is_code_point 0x110000 ≡ false
  pub name_plain : is_name (codes "a_1Z") ≡ true
  pub name_underscore : is_name (codes "_") ≡ true
  pub name_digit_first : is_name (codes "1a") ≡ false
  pub name_empty : is_name [] ≡ false
  pub name_dot : is_name (codes "a.b") ≡ false

-- the text after a backslash: the code point and the length in bytes
pub record EscapeRowsStand : Type 0 where
  pub bell : escape (codes "az") ≡ Some (7, 1)
  pub backspace : escape (codes "bz") ≡ Some (8, 1)
  pub form_feed : escape (codes "fz") ≡ Some (12, 1)
  pub line_feed : escape (codes "nz") ≡ Some (10, 1)
  pub carriage_return : escape (codes "rz") ≡ Some (13, 1)
  pub tab : escape (codes "tz") ≡ Some (9, 1)
  pub vertical_tab : escape (codes "vz") ≡ Some (11, 1)
  pub backslash : escape (codes "\\z") ≡ Some (92, 1)
  pub question_mark : escape (codes "?z") ≡ Some (63, 1)
  pub double_quote : escape (codes "\"z") ≡ Some (34, 1)
  pub single_quote : escape (codes "'z") ≡ Some (39, 1)
  pub back_quote : escape (codes "`z") ≡ Some (96, 1)
  pub hex : escape (codes "x41z") ≡ Some (65, 3)
  pub upper_hex : escape (codes "X4az") ≡ Some (74, 3)
  pub short_hex : escape (codes "x4") ≡ None
  pub no_hex : escape (codes "x4g") ≡ None
  pub four_digits : escape (codes "u20acz") ≡ Some (0x20ac, 5)
  pub three_digits : escape (codes "u20a") ≡ None
  pub surrogate : escape (codes "ud800") ≡ None
  pub eight_digits : escape (codes "U0001f600z") ≡ Some (0x1f600, 9)
  pub past_unicode : escape (codes "U00110000") ≡ None
  pub seven_digits : escape (codes "U0001f60") ≡ None
  pub octal : escape (codes "101z") ≡ Some (0x41, 3)
  pub greatest_octal : escape (codes "377") ≡ Some (0xff, 3)
  pub past_octal : escape (codes "400") ≡ None
  pub two_octals : escape (codes "10") ≡ None
  pub no_octal : escape (codes "118") ≡ None
  pub octal_of_zero : escape (codes "000") ≡ Some (0, 3)
  pub no_escape : escape (codes "d") ≡ None
  pub upper_n : escape (codes "N") ≡ None
  pub nothing : escape [] ≡ None
  pub line_end : escape (codes "\n") ≡ None

-- the longest mark at the front, with its length
pub record MarkRowsStand : Type 0 where
  pub two_or : mark_at (codes "||=") ≡ Some (marks.Or, 2)
  pub two_and : mark_at (codes "&&=") ≡ Some (marks.And, 2)
  pub two_lessequal : mark_at (codes "<==") ≡ Some (marks.LessEqual, 2)
  pub two_greaterequal : mark_at (codes ">==") ≡ Some (marks.GreaterEqual, 2)
  pub two_equal : mark_at (codes "===") ≡ Some (marks.Equal, 2)
  pub two_notequal : mark_at (codes "!==") ≡ Some (marks.NotEqual, 2)
  pub one_openparen : mark_at (codes "(a") ≡ Some (marks.OpenParen, 1)
  pub one_closeparen : mark_at (codes ")a") ≡ Some (marks.CloseParen, 1)
  pub one_openbracket : mark_at (codes "[a") ≡ Some (marks.OpenBracket, 1)
  pub one_closebracket : mark_at (codes "]a") ≡ Some (marks.CloseBracket, 1)
  pub one_openbrace : mark_at (codes "{a") ≡ Some (marks.OpenBrace, 1)
  pub one_closebrace : mark_at (codes "}a") ≡ Some (marks.CloseBrace, 1)
  pub one_question : mark_at (codes "?a") ≡ Some (marks.Question, 1)
  pub one_colon : mark_at (codes ":a") ≡ Some (marks.Colon, 1)
  pub one_less : mark_at (codes "<a") ≡ Some (marks.Less, 1)
  pub one_greater : mark_at (codes ">a") ≡ Some (marks.Greater, 1)
  pub one_plus : mark_at (codes "+a") ≡ Some (marks.Plus, 1)
  pub one_minus : mark_at (codes "-a") ≡ Some (marks.Minus, 1)
  pub one_star : mark_at (codes "*a") ≡ Some (marks.Star, 1)
  pub one_slash : mark_at (codes "/a") ≡ Some (marks.Slash, 1)
  pub one_percent : mark_at (codes "%a") ≡ Some (marks.Percent, 1)
  pub one_not : mark_at (codes "!a") ≡ Some (marks.Not, 1)
  pub one_dot : mark_at (codes ".a") ≡ Some (marks.Dot, 1)
  pub one_comma : mark_at (codes ",a") ≡ Some (marks.Comma, 1)
  pub no_bar : mark_at (codes "|a") ≡ None
  pub no_ampersand : mark_at (codes "&a") ≡ None
  pub no_equals_sign : mark_at (codes "=a") ≡ None
  pub no_number_sign : mark_at (codes "#a") ≡ None
  pub no_dollar : mark_at (codes "$a") ≡ None
  pub no_semicolon : mark_at (codes ";a") ≡ None
  pub no_tilde : mark_at (codes "~a") ≡ None
  pub no_caret : mark_at (codes "^a") ≡ None
  pub no_at_sign : mark_at (codes "@a") ≡ None
  pub last_less : mark_at (codes "<") ≡ Some (marks.Less, 1)
  pub no_mark : mark_at [] ≡ None
  pub mark_of_one : mark_of (codes "<") ≡ Some marks.Less
  pub mark_of_two : mark_of (codes "<=") ≡ Some marks.LessEqual
  pub mark_of_three : mark_of (codes "<==") ≡ None
  pub mark_of_none : mark_of [] ≡ None

-- the front of a text; the first word tells whether a sign may be here
pub record FrontRowsStand : Type 0 where
  pub end : front true [] ≡ over
  pub blanks : front true (32 ∷ 9 ∷ 10 ∷ 13 ∷ 12 ∷ 97 ∷ []) ≡ space 5
  pub comment : front true (codes "// a\nb") ≡ space 5
  pub comment_to_the_end : front true (codes "// a") ≡ space 4
  pub two_comments : front true (codes "//a\n//b\nc") ≡ space 8
  pub slash : front true (codes "/a") ≡ word 1 (mark marks.Slash)
  pub a_name : front true (codes "ab_1 c") ≡ word 4 (name (codes "ab_1"))
  pub keyword : front true (codes "true)") ≡ word 4 (name (codes "true"))
  pub raw_prefix_alone : front true (codes "rx") ≡ word 2 (name (codes "rx"))
  pub byte_string : front true (codes "b'a'") ≡ word 1 (name (codes "b"))
  pub an_int : front true (codes "12a") ≡ word 2 (int (pos 12))
  pub zero_in_front : front true (codes "007") ≡ word 3 (int (pos 7))
  pub hex : front true (codes "0x1Fg") ≡ word 4 (int (pos 31))
  pub hex_without_digits : front true (codes "0xg") ≡ word 1 (int (pos 0))
  pub upper_x : front true (codes "0X1") ≡ word 1 (int (pos 0))
  pub fraction : front true (codes "1.5") ≡ word 1 (int (pos 1))
  pub greatest_int : front true (codes "9223372036854775807") ≡ word 19 (int (pos 0x7fffffffffffffff))
  pub past_greatest_int : front true (codes "9223372036854775808") ≡ wide_int 0
  pub hex_past_greatest : front true (codes "0x8000000000000000") ≡ wide_int 0
  pub signed_int : front true (codes "-5") ≡ word 2 (int (negsuc 4))
  pub signed_nine : front true (codes "-9") ≡ word 2 (int (negsuc 8))
  pub minus_at_the_end : front true (codes "-") ≡ word 1 (mark marks.Minus)
  pub signed_behind_blank : front true (codes "- 5") ≡ word 3 (int (negsuc 4))
  pub minus_zero : front true (codes "-0") ≡ word 2 (int (pos 0))
  pub minus_of_a_name : front true (codes "-a") ≡ word 1 (mark marks.Minus)
  pub minus_where_no_sign_may_stand : front false (codes "-5") ≡ word 1 (mark marks.Minus)
  pub past_least_int : front true (codes "-9223372036854775809") ≡ wide_int 1
  pub blank_before_wide : front true (codes "-  9223372036854775809") ≡ wide_int 3
  pub a_text : front true (codes "'ab'c") ≡ word 4 (text (codes "ab"))
  pub double_quoted : front true (codes "\"a'b\"") ≡ word 5 (text (codes "a'b"))
  pub empty_text : front true (codes "''") ≡ word 2 (text [])
  pub escapes : front true (codes "'a\\n\\x41'") ≡ word 9 (text (codes "a\nA"))
  pub character_of_three_bytes : front true (codes "'\\u20ac'") ≡ word 8 (text (0xe2 ∷ 0x82 ∷ 0xac ∷ []))
  pub escaped_quote : front true (codes "'\\''") ≡ word 4 (text (codes "'"))
  pub raw_text : front true (codes "r'a\\n'") ≡ word 6 (text (codes "a\\n"))
  pub upper_raw : front true (codes "R\"a\"") ≡ word 4 (text (codes "a"))
  pub unended : front true (codes "'ab") ≡ wrong_text
  pub ended_by_another : front true (codes "'ab\"") ≡ wrong_text
  pub line_feed_in_text : front true (codes "'a\nb'") ≡ wrong_text
  pub carriage_return_in_text : front true (codes "'a\rb'") ≡ wrong_text
  pub wrong_escape : front true (codes "'\\d'") ≡ wrong_text
  pub raw_unended : front true (codes "r'a\\'b") ≡ word 5 (text (codes "a\\"))
  pub raw_line_feed : front true (codes "r'a\n'") ≡ wrong_text
  pub a_mark : front true (codes "<=1") ≡ word 2 (mark marks.LessEqual)
  pub unknown : front true (codes "#") ≡ nothing
  pub single_ampersand : front true (codes "&a") ≡ nothing

-- whether a minus after this token may be the sign of an int
pub record SignRowsStand : Type 0 where
  pub behind_in : sign_may_follow (name (codes "in")) ≡ true
  pub behind_name : sign_may_follow (name (codes "a")) ≡ false
  pub behind_true : sign_may_follow (name (codes "true")) ≡ false
  pub behind_int : sign_may_follow (int (pos 1)) ≡ false
  pub behind_text : sign_may_follow (text []) ≡ false
  pub behind_close_paren : sign_may_follow (mark marks.CloseParen) ≡ false
  pub behind_close_bracket : sign_may_follow (mark marks.CloseBracket) ≡ false
  pub behind_close_brace : sign_may_follow (mark marks.CloseBrace) ≡ false
  pub behind_open_paren : sign_may_follow (mark marks.OpenParen) ≡ true
  pub behind_comma : sign_may_follow (mark marks.Comma) ≡ true
  pub behind_minus : sign_may_follow (mark marks.Minus) ≡ true
  pub behind_question : sign_may_follow (mark marks.Question) ≡ true

-- the code and the position of each error, and the limits
pub record TokenLimitRowsStand : Type 0 where
  pub code_1 : read_error_code (error.UnknownCharacter 7) ≡ codes "P1"
  pub place_1 : read_error_place (error.UnknownCharacter 7) ≡ Some 7
  pub code_2 : read_error_code (error.InvalidTextLiteral 7) ≡ codes "P2"
  pub place_2 : read_error_place (error.InvalidTextLiteral 7) ≡ Some 7
  pub code_3 : read_error_code (error.IntOutOfRange 7) ≡ codes "P3"
  pub place_3 : read_error_place (error.IntOutOfRange 7) ≡ Some 7
  pub code_4 : read_error_code (error.UnexpectedToken 7) ≡ codes "P4"
  pub place_4 : read_error_place (error.UnexpectedToken 7) ≡ Some 7
  pub code_5 : read_error_code (error.TooManyOpen 7) ≡ codes "P5"
  pub place_5 : read_error_place (error.TooManyOpen 7) ≡ Some 7
  pub code_6 : read_error_code (error.TextTooLong 7) ≡ codes "P6"
  pub place_6 : read_error_place (error.TextTooLong 7) ≡ Some 7
  pub code_of_memory : read_error_code error.Memory ≡ codes "memory"
  pub place_of_memory : read_error_place error.Memory ≡ None
  pub bytes : text_limit ≡ 65536
  pub tokens : token_limit ≡ 4096
