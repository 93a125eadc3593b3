-- What `regex` reads in texts that are written.
use Rattle.std.proofs.Common.{ℕ, List, [], ◌∷◌, true, false, None, arith}
use Rattle.std.proofs.lemmas.Bool.Decides.{nat_tests}
use lib.Utf8.{encode}
use Rattle.regex.specs.Patterns.{Re, empty, literal, char_in, look, alt, repeat, default_config}
use Rattle.regex.specs.Patterns as regex
use Rattle.regex.proofs.OnLiterals.{regex_on_literals, IsReadAs, alone, class_is, same_plus, same_refl, alt_cong, cat-empty, alt-fail}
use Rattle.regex.proofs.ForCallers.{alike_as_written}
use Rattle.pattern_reader.specs.Rows.{star, lazy_star}
use Rattle.pattern_reader.specs.SearchedRows.{text_of, IsSearchedAs, SearchedRowsHold}
use Rattle.pattern_reader.specs.declared.item.Item.TheVariants as kind
use Rattle.pattern_reader.specs.declared.set.Set.TheVariants.{Digit, Alpha, PerlSpace}

searched : (source : List ℕ) (re : Re) → IsReadAs default_config source re → IsSearchedAs source re
searched source re w r k = alike_as_written r default_config source k.0 k.1 k.2 re w

letter_row : IsReadAs default_config (text_of (kind.Literal 97 ∷ [])) (literal (97 ∷ []))
unfolding regex_on_literals encode
letter_row = alone (same_refl _)

dot_row : IsReadAs default_config (text_of (kind.Literal 46 ∷ [])) (literal (46 ∷ []))
unfolding regex_on_literals encode
dot_row = alone (same_refl _)

less_row : IsReadAs default_config (text_of (kind.Literal 60 ∷ [])) (literal (60 ∷ []))
unfolding regex_on_literals encode
less_row = alone (same_refl _)

any_row : IsReadAs default_config (text_of (kind.Any ∷ [])) (char_in ((0, 9) ∷ (11, 0x10FFFF) ∷ []))
unfolding regex_on_literals
any_row = alone (class_is _ ((0, 9) ∷ (11, 0x10FFFF) ∷ []) (λ c le. grind (arith, nat_tests)))

start_row : IsReadAs default_config (text_of (kind.Start ∷ [])) (look regex.Start)
unfolding regex_on_literals
start_row = alone (same_refl _)

end_row : IsReadAs default_config (text_of (kind.End ∷ [])) (look regex.End)
unfolding regex_on_literals
end_row = alone (same_refl _)

boundary_row : IsReadAs default_config (text_of (kind.Boundary ∷ [])) (look regex.WordAscii)
unfolding regex_on_literals
boundary_row = alone (alone (same_refl _))

digit_row : IsReadAs default_config (text_of (kind.Named Digit true ∷ [])) (char_in ((0, 47) ∷ (58, 0x10FFFF) ∷ []))
unfolding regex_on_literals
digit_row = alone (class_is _ ((0, 47) ∷ (58, 0x10FFFF) ∷ []) (λ c le. grind (arith, nat_tests)))

space_row : IsReadAs default_config (text_of (kind.Named PerlSpace false ∷ [])) (char_in ((9, 10) ∷ (12, 13) ∷ (32, 32) ∷ []))
unfolding regex_on_literals
space_row = alone (class_is _ ((9, 10) ∷ (12, 13) ∷ (32, 32) ∷ []) (λ c le. grind (arith, nat_tests)))

lazy_row : IsReadAs default_config (text_of (kind.Literal 97 ∷ kind.Repeat lazy_star ∷ [])) (repeat 0 None false (literal (97 ∷ [])))
unfolding regex_on_literals encode
lazy_row = alone (same_refl _)

group_row : IsReadAs default_config (text_of (kind.Open ∷ kind.Literal 97 ∷ kind.Close ∷ kind.Repeat star ∷ []))
    (repeat 0 None true (literal (97 ∷ [])))
unfolding regex_on_literals encode
group_row = alone (alt_cong (same_plus true (alone (same_refl _))) (same_refl _))

side_row : IsReadAs default_config (text_of (kind.Literal 97 ∷ kind.Bar ∷ [])) (alt (literal (97 ∷ [])) empty)
unfolding regex_on_literals encode
side_row = alt_cong (cat-empty _) (alt-fail _)

bracket_row : IsReadAs default_config (text_of (kind.OpenBracket true ∷ kind.Range 97 99 ∷ kind.Range 45 45 ∷ kind.CloseBracket ∷ []))
    (char_in ((0, 44) ∷ (46, 96) ∷ (100, 0x10FFFF) ∷ []))
unfolding regex_on_literals encode
bracket_row = alone (class_is _ ((0, 44) ∷ (46, 96) ∷ (100, 0x10FFFF) ∷ []) (λ c le. grind (arith, nat_tests)))

named_row : IsReadAs default_config (text_of (kind.OpenBracket false ∷ kind.Member Alpha ∷ kind.Member PerlSpace ∷ kind.CloseBracket ∷ []))
    (char_in ((9, 10) ∷ (12, 13) ∷ (32, 32) ∷ (65, 90) ∷ (97, 122) ∷ []))
unfolding regex_on_literals
named_row = alone (class_is _ ((9, 10) ∷ (12, 13) ∷ (32, 32) ∷ (65, 90) ∷ (97, 122) ∷ []) (λ c le. grind (arith, nat_tests)))

pub searched_rows : SearchedRowsHold
searched_rows = record {
  a_letter = searched _ _ letter_row;
  a_dot = searched _ _ dot_row;
  a_less_sign = searched _ _ less_row;
  any = searched _ _ any_row;
  start_of_text = searched _ _ start_row;
  end_of_text = searched _ _ end_row;
  boundary = searched _ _ boundary_row;
  no_digit = searched _ _ digit_row;
  space = searched _ _ space_row;
  repeated_lazily = searched _ _ lazy_row;
  group_is_repeated = searched _ _ group_row;
  a_side_is_empty = searched _ _ side_row;
  brackets = searched _ _ bracket_row;
  named_set = searched _ _ named_row;
}
