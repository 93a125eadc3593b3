-- Texts with the values that the definitions give: rows of the tests of cel-go (ext/strings_test.go), of cel-spec and of
-- apimachinery (pkg/util/validation), and others with the values that their Go code gives.
use Rattle.std.specs.Prelude.{◌≡◌, ℕ, pos, negsuc, List, [], ◌∷◌, ◌++◌, Some, None, true, false, codes, replicate}
use Rattle.text_functions.specs.Formats.{is_dns1035_label, is_dns1123_label, is_dns1123_subdomain, is_label_value}
use Rattle.text_functions.specs.Ints.{int_of}
use Rattle.text_functions.specs.Letters.{lower_ascii, trim_of, upper_ascii}
use Rattle.text_functions.specs.Parts.{char_at_of, index_of_from, index_of_of, last_index_of_of, last_index_of_to, substring_from_of}
use Rattle.text_functions.specs.Parts.{substring_of}
use Rattle.text_functions.specs.Pieces.{replace_of, split_of}

-- ints in texts
pub record IntRowsHold : Type 0 where
  pub plain : int_of (codes "42") ≡ Some (pos 42)
  pub minus : int_of (codes "-7") ≡ Some (negsuc 6)
  pub plus : int_of (codes "+7") ≡ Some (pos 7)
  pub zeros : int_of (codes "007") ≡ Some (pos 7)
  pub minus_zero : int_of (codes "-0") ≡ Some (pos 0)
  pub greatest : int_of (codes "9223372036854775807") ≡ Some (pos 9223372036854775807)
  pub too_great : int_of (codes "9223372036854775808") ≡ None
  pub least : int_of (codes "-9223372036854775808") ≡ Some (negsuc 9223372036854775807)
  pub too_small : int_of (codes "-9223372036854775809") ≡ None
  pub empty : int_of [] ≡ None
  pub sign_alone : int_of (codes "-") ≡ None
  pub two_signs : int_of (codes "+-1") ≡ None
  pub blank : int_of (codes " 1") ≡ None
  pub fraction : int_of (codes "1.0") ≡ None
  pub underscore : int_of (codes "1_000") ≡ None
  pub hex : int_of (codes "0x10") ≡ None

-- © (U+00A9), α (U+03B1), Æ (U+00C6) and Ö (U+00D6) in UTF-8, and the name of an image
abbrev pub copyright : List ℕ
copyright = 0xc2 ∷ 0xa9 ∷ []

abbrev pub alpha : List ℕ
alpha = 0xce ∷ 0xb1 ∷ []

abbrev pub ae : List ℕ
ae = 0xc3 ∷ 0x86 ∷ []

abbrev pub o_umlaut : List ℕ
o_umlaut = 0xc3 ∷ 0x96 ∷ []

abbrev pub image : List ℕ
image = codes "reg.io/app:1.2"

-- ta©o©αT
abbrev pub taco : List ℕ
taco = codes "ta" ++ copyright ++ codes "o" ++ copyright ++ alpha ++ codes "T"

-- letters and white space
pub record LetterRowsHold : Type 0 where
  pub lower : lower_ascii (codes "TacoCat") ≡ codes "tacocat"
  pub lower_others : lower_ascii (codes "TacoC" ++ ae ++ codes "t Xii") ≡ codes "tacoc" ++ ae ++ codes "t xii"
  pub lower_umlaut : lower_ascii o_umlaut ≡ o_umlaut
  pub lower_ends : lower_ascii (codes "@AZ[") ≡ codes "@az["
  pub upper : upper_ascii (codes "tacoCat") ≡ codes "TACOCAT"
  pub upper_others : upper_ascii (codes "tacoC" ++ alpha ++ codes "t") ≡ codes "TACOC" ++ alpha ++ codes "T"
  pub upper_ends : upper_ascii (codes "`az{") ≡ codes "`AZ{"
  pub trim_ascii : trim_of (32 ∷ 12 ∷ 10 ∷ 13 ∷ 9 ∷ 11 ∷ codes "text  ") ≡ codes "text"
  pub trim_inner : trim_of (codes " a b ") ≡ codes "a b"
  pub trim_all : trim_of (codes "  ") ≡ []
  -- U+0085, U+00A0 and U+1680 are white space, U+200B is not
  pub trim_others : trim_of (0xc2 ∷ 0x85 ∷ 0xc2 ∷ 0xa0 ∷ 0xe1 ∷ 0x9a ∷ 0x80 ∷ codes "text") ≡ codes "text"
  pub trim_no_space : trim_of (codes "text" ++ (0xe2 ∷ 0x80 ∷ 0x8b ∷ [])) ≡ codes "text" ++ (0xe2 ∷ 0x80 ∷ 0x8b ∷ [])

-- parts by places
pub record PartRowsHold : Type 0 where
  pub from : substring_from_of (pos 4) (codes "tacocat") ≡ Some (codes "cat")
  pub from_end : substring_from_of (pos 7) (codes "tacocat") ≡ Some []
  pub from_after_end : substring_from_of (pos 40) (codes "tacocat") ≡ None
  pub from_before : substring_from_of (negsuc 0) (codes "tacocat") ≡ None
  pub front : substring_of (pos 0) (pos 4) (codes "tacocat") ≡ Some (codes "taco")
  pub nothing : substring_of (pos 4) (pos 4) (codes "tacocat") ≡ Some []
  pub by_code_points : substring_of (pos 2) (pos 6) taco ≡ Some (copyright ++ codes "o" ++ copyright ++ alpha)
  pub at_the_end : substring_of (pos 7) (pos 7) taco ≡ Some []
  pub to_after_end : substring_of (pos 1) (pos 50) (codes "tacocat") ≡ None
  pub both_after_end : substring_of (pos 49) (pos 50) (codes "tacocat") ≡ None
  pub backwards : substring_of (pos 4) (pos 3) (codes "tacocat") ≡ None
  pub image_name : substring_from_of (pos 7) image ≡ Some (codes "app:1.2")
  pub letter : char_at_of (pos 3) (codes "tacocat") ≡ Some (codes "o")
  pub letter_of_two_bytes : char_at_of (pos 2) taco ≡ Some copyright
  pub letter_at_the_end : char_at_of (pos 7) (codes "tacocat") ≡ Some []
  pub letter_after_the_end : char_at_of (pos 30) (codes "tacocat") ≡ None
  pub letter_before : char_at_of (negsuc 0) (codes "tacocat") ≡ None

-- places of parts
pub record PlaceRowsHold : Type 0 where
  pub first_of_nothing : index_of_of [] (codes "tacocat") ≡ pos 0
  pub first : index_of_of (codes "ac") (codes "tacocat") ≡ pos 1
  pub none : index_of_of (codes "none") (codes "tacocat") ≡ negsuc 0
  pub nothing_from : index_of_from [] (pos 3) (codes "tacocat") ≡ Some (pos 3)
  pub nothing_from_end : index_of_from [] (pos 7) (codes "tacocat") ≡ Some (pos 7)
  pub nothing_from_after : index_of_from [] (pos 30) (codes "tacocat") ≡ Some (pos 7)
  pub nothing_from_before : index_of_from [] (negsuc 0) (codes "tacocat") ≡ None
  pub from : index_of_from (codes "a") (pos 3) (codes "tacocat") ≡ Some (pos 5)
  pub of_two_bytes : index_of_of copyright taco ≡ pos 2
  pub of_two_bytes_from : index_of_from copyright (pos 3) taco ≡ Some (pos 4)
  pub none_from : index_of_from (copyright ++ alpha) (pos 5) taco ≡ Some (negsuc 0)
  pub whole : index_of_of (codes "hello wello") (codes "hello wello") ≡ pos 0
  pub longer : index_of_of (codes "elbo room!!!") (codes "hello wello") ≡ negsuc 0
  pub from_after_end : index_of_from (codes "a") (pos 30) (codes "tacocat") ≡ Some (negsuc 0)
  pub from_before : index_of_from (codes "a") (negsuc 0) (codes "tacocat") ≡ None
  pub in_nothing : index_of_of (codes "@@") [] ≡ negsuc 0
  pub last_of_nothing : last_index_of_of [] (codes "tacocat") ≡ pos 7
  pub last : last_index_of_of (codes "at") (codes "tacocat") ≡ pos 5
  pub last_slash : last_index_of_of (codes "/") image ≡ pos 6
  pub no_last : last_index_of_of (codes "none") (codes "tacocat") ≡ negsuc 0
  pub no_last_in_nothing : last_index_of_of (codes "@@") [] ≡ negsuc 0
  pub nothing_to : last_index_of_to [] (pos 3) (codes "tacocat") ≡ Some (pos 3)
  pub nothing_to_end : last_index_of_to [] (pos 7) (codes "tacocat") ≡ Some (pos 7)
  pub nothing_to_after : last_index_of_to [] (pos 30) (codes "tacocat") ≡ Some (pos 7)
  pub nothing_to_before : last_index_of_to [] (negsuc 0) (codes "tacocat") ≡ None
  pub to : last_index_of_to (codes "a") (pos 3) (codes "tacocat") ≡ Some (pos 1)
  pub last_of_two_bytes : last_index_of_of copyright taco ≡ pos 4
  pub of_two_bytes_to : last_index_of_to copyright (pos 3) taco ≡ Some (pos 2)
  pub part_beyond : last_index_of_to (copyright ++ alpha) (pos 4) taco ≡ Some (pos 4)
  pub overlapping : last_index_of_to (codes "nana") (pos 7) (codes "bananananana") ≡ Some (pos 6)
  pub to_end : last_index_of_to (codes "t") (pos 7) (codes "tacocat") ≡ Some (negsuc 0)
  pub to_last : last_index_of_to (codes "t") (pos 6) (codes "tacocat") ≡ Some (pos 6)
  pub to_after_end : last_index_of_to (codes "a") (pos 30) (codes "tacocat") ≡ Some (negsuc 0)
  pub to_before : last_index_of_to (codes "a") (negsuc 0) (codes "tacocat") ≡ None

-- pieces, and parts replaced
pub record PieceRowsHold : Type 0 where
  pub two : split_of (negsuc 0) (codes " ") (codes "hello world") ≡ codes "hello" ∷ codes "world" ∷ []
  pub none : split_of (pos 0) (codes " ") (codes "hello world events!") ≡ []
  pub one : split_of (pos 1) (codes " ") (codes "hello world events!") ≡ codes "hello world events!" ∷ []
  pub at_most_two : split_of (pos 2) (codes " ") (codes "hello world events!") ≡ codes "hello" ∷ codes "world events!" ∷ []
  pub of_two_bytes :
      split_of (negsuc 0) copyright (codes "o" ++ copyright ++ codes "o" ++ copyright ++ codes "o")
      ≡ codes "o" ∷ codes "o" ∷ codes "o" ∷ []
  pub image_parts : split_of (negsuc 0) (codes ":") image ≡ codes "reg.io/app" ∷ codes "1.2" ∷ []
  pub nothing : split_of (negsuc 0) (codes ",") [] ≡ [] ∷ []
  pub at_the_ends : split_of (negsuc 0) (codes ",") (codes ",a,") ≡ [] ∷ codes "a" ∷ [] ∷ []
  pub overlapping : split_of (negsuc 0) (codes "aa") (codes "aaa") ≡ [] ∷ codes "a" ∷ []
  pub letters : split_of (negsuc 0) [] (copyright ++ codes "o") ≡ copyright ∷ codes "o" ∷ []
  pub letters_at_most_two : split_of (pos 2) [] (codes "abc") ≡ codes "a" ∷ codes "bc" ∷ []
  pub letters_of_nothing : split_of (negsuc 0) [] [] ≡ []
  pub replace_none : replace_of (negsuc 0) (codes "{0}") (codes "2") (codes "12 days 12 hours") ≡ codes "12 days 12 hours"
  pub replace_all : replace_of (negsuc 0) (codes "{0}") (codes "2") (codes "{0} days {0} hours") ≡ codes "2 days 2 hours"
  pub replace_one : replace_of (pos 1) (codes "{0}") (codes "2") (codes "{0} days {0} hours") ≡ codes "2 days {0} hours"
  pub replace_no_place : replace_of (pos 0) (codes "he") (codes "we") (codes "hello hello") ≡ codes "hello hello"
  pub replace_first : replace_of (pos 1) (codes "he") (codes "we") (codes "hello hello") ≡ codes "wello hello"
  pub replace_left : replace_of (negsuc 0) (codes "aa") (codes "b") (codes "aaa") ≡ codes "ba"
  pub replace_nothing : replace_of (negsuc 0) [] (codes "-") (codes "a" ++ copyright) ≡ codes "-a-" ++ copyright ++ codes "-"
  pub replace_nothing_twice : replace_of (pos 2) [] (codes "-") (codes "abc") ≡ codes "-a-bc"
  pub replace_nothing_in_nothing : replace_of (negsuc 0) [] (codes "-") [] ≡ codes "-"

-- n letters `a`
abbrev pub some_letters : ℕ → List ℕ
some_letters n = replicate n 97

-- formats of names
pub record FormatRowsHold : Type 0 where
  pub label : is_dns1123_label (codes "a--1--2--b") ≡ true
  pub label_of_digits : is_dns1123_label (codes "012") ≡ true
  pub label_of_one : is_dns1123_label (codes "a") ≡ true
  pub label_of_none : is_dns1123_label [] ≡ false
  pub label_of_63 : is_dns1123_label (some_letters 63) ≡ true
  pub label_of_64 : is_dns1123_label (some_letters 64) ≡ false
  pub label_in_upper_case : is_dns1123_label (codes "aBc") ≡ false
  pub label_from_dash : is_dns1123_label (codes "-a") ≡ false
  pub label_to_dash : is_dns1123_label (codes "a-") ≡ false
  pub label_with_dot : is_dns1123_label (codes "a.b") ≡ false
  pub label_with_underscore : is_dns1123_label (codes "a_b") ≡ false
  pub label_with_line : is_dns1123_label (codes "a" ++ 10 ∷ []) ≡ false
  pub label_of_others : is_dns1123_label (0xe9 ∷ []) ≡ false
  pub subdomain : is_dns1123_subdomain (codes "aa.bb.cc.dd.ee") ≡ true
  pub subdomain_of_digits : is_dns1123_subdomain (codes "1.2.3.4.5") ≡ true
  pub subdomain_of_one : is_dns1123_subdomain (codes "1-a.1") ≡ true
  pub subdomain_of_none : is_dns1123_subdomain [] ≡ false
  pub subdomain_of_253 : is_dns1123_subdomain (some_letters 253) ≡ true
  pub subdomain_of_254 : is_dns1123_subdomain (some_letters 254) ≡ false
  pub subdomain_with_two_dots : is_dns1123_subdomain (codes "a..b") ≡ false
  pub subdomain_from_dot : is_dns1123_subdomain (codes ".a") ≡ false
  pub subdomain_to_dot : is_dns1123_subdomain (codes "a.") ≡ false
  pub subdomain_with_dash : is_dns1123_subdomain (codes "a-.b") ≡ false
  pub subdomain_in_upper_case : is_dns1123_subdomain (codes "a.B.c.d.e") ≡ false
  pub label1035 : is_dns1035_label (codes "a-1") ≡ true
  pub label1035_of_63 : is_dns1035_label (some_letters 63) ≡ true
  pub label1035_of_64 : is_dns1035_label (some_letters 64) ≡ false
  pub label1035_from_digit : is_dns1035_label (codes "1a") ≡ false
  pub label1035_to_dash : is_dns1035_label (codes "a-") ≡ false
  pub label1035_of_none : is_dns1035_label [] ≡ false
  pub value : is_label_value (codes "1-starts-with-num") ≡ true
  pub value_of_all : is_label_value (codes "A_b.c-D") ≡ true
  pub value_of_none : is_label_value [] ≡ true
  pub value_of_63 : is_label_value (some_letters 63) ≡ true
  pub value_of_64 : is_label_value (some_letters 64) ≡ false
  pub value_from_dash : is_label_value (codes "-starts-with-dash") ≡ false
  pub value_to_dot : is_label_value (codes "ends.with.dot.") ≡ false
  pub value_with_sign : is_label_value (codes "nospecialchars%^=@") ≡ false
  pub value_with_slash : is_label_value (codes "a/b") ≡ false
