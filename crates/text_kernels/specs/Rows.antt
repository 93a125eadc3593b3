-- Bytes and texts with the results of the scans, worked out by hand.
use Rattle.std.specs.Prelude.{◌≡◌, ℕ, true, false, List, [], ◌∷◌, codes}
use Rattle.text_kernels.specs.Scans.{is_continuation, is_leading, code_points_of, first_difference_of, is_special, is_plain, skip_plain_of}

-- a, é, € and an emoji: characters of one to four bytes (RFC 3629, section 3)
abbrev pub four_characters : List ℕ
four_characters = 0x61 ∷ 0xc3 ∷ 0xa9 ∷ 0xe2 ∷ 0x82 ∷ 0xac ∷ 0xf0 ∷ 0x9f ∷ 0x98 ∷ 0x80 ∷ []

-- bytes and texts with the results of the scans
pub record ScanRowsStand : Type 0 where
  -- 10xxxxxx continues a character; 0xxxxxxx, 110xxxxx, 1110xxxx and 11110xxx begin one
  pub last_of_one_byte : is_continuation 0x7f ≡ false
  pub first_continuation : is_continuation 0x80 ≡ true
  pub last_continuation : is_continuation 0xbf ≡ true
  pub first_of_two_bytes : is_continuation 0xc0 ≡ false
  pub first_of_four_bytes : is_continuation 0xf0 ≡ false
  pub letter_leads : is_leading 0x61 ≡ true
  pub continuation_leads_not : is_leading 0xa9 ≡ false
  pub no_characters : code_points_of [] ≡ 0
  pub characters_of_each_length : code_points_of four_characters ≡ 4
  pub differ_at_the_start : first_difference_of (codes "abc") (codes "xbc") ≡ 0
  pub differ_in_the_middle : first_difference_of (codes "abcd") (codes "abxd") ≡ 2
  pub shorter_on_the_left : first_difference_of (codes "ab") (codes "abc") ≡ 2
  pub shorter_on_the_right : first_difference_of (codes "abc") (codes "ab") ≡ 2
  pub empty_on_the_left : first_difference_of [] (codes "a") ≡ 0
  pub equal : first_difference_of (codes "abc") (codes "abc") ≡ 3
  -- " is 34, ' is 39, \\ is 92, a line feed 10 and a carriage return 13
  pub double_quote : is_special 34 ≡ true
  pub single_quote : is_special 39 ≡ true
  pub backslash : is_special 92 ≡ true
  pub line_feed : is_special 10 ≡ true
  pub carriage_return : is_special 13 ≡ true
  pub tab : is_special 9 ≡ false
  pub vertical_tab : is_special 11 ≡ false
  pub form_feed : is_special 12 ≡ false
  pub shift_out : is_special 14 ≡ false
  pub exclamation : is_special 33 ≡ false
  pub number_sign : is_special 35 ≡ false
  pub ampersand : is_special 38 ≡ false
  pub opening_bracket : is_special 40 ≡ false
  pub square_bracket : is_special 91 ≡ false
  pub closing_square_bracket : is_special 93 ≡ false
  pub letter_is_plain : is_plain 0x61 ≡ true
  pub quote_is_not_plain : is_plain 34 ≡ false
  pub all_plain : skip_plain_of (codes "abc") ≡ 3
  pub up_to_a_quote : skip_plain_of (codes "ab\"cd") ≡ 2
  pub special_at_the_start : skip_plain_of (codes "'a") ≡ 0
  pub nothing_to_skip : skip_plain_of [] ≡ 0
