-- What `regex` searches for in texts that are written, worked by hand.
use Rattle.std.specs.Prelude.{ℕ, List, [], ◌∷◌, true, false, None}
use Rattle.regex.specs.Patterns.{Re, empty, literal, char_in, look, alt, repeat, SameCaptures}
use Rattle.regex.specs.Patterns as regex
use Rattle.regex.specs.Strings.{regex_pattern}
use Rattle.regex.specs.declared.string.regex.Regex.{Regex}
use Rattle.pattern_reader.specs.Flags.{flags}
use Rattle.pattern_reader.specs.Patterns.{IsCompiledPattern}
use Rattle.pattern_reader.specs.Rows.{star, lazy_star}
use Rattle.pattern_reader.specs.Written.{written}
use Rattle.pattern_reader.specs.declared.item.Item.{Item}
use Rattle.pattern_reader.specs.declared.item.Item.TheVariants as kind
use Rattle.pattern_reader.specs.declared.set.Set.TheVariants.{Digit, Alpha, PerlSpace}

-- the text of these items, without flags
abbrev pub text_of : List Item → List ℕ
text_of items = written (flags false false) items

-- what is compiled of the text is searched for as this pattern
abbrev pub IsSearchedAs : List ℕ → Re → Type 0
IsSearchedAs source re = (r : Regex) → IsCompiledPattern source r → SameCaptures (regex_pattern r) re

-- the patterns that texts are searched for
pub record SearchedRowsHold : Type 0 where
  pub a_letter : IsSearchedAs (text_of (kind.Literal 97 ∷ [])) (literal (97 ∷ []))
  pub a_dot : IsSearchedAs (text_of (kind.Literal 46 ∷ [])) (literal (46 ∷ []))
  pub a_less_sign : IsSearchedAs (text_of (kind.Literal 60 ∷ [])) (literal (60 ∷ []))
  pub any : IsSearchedAs (text_of (kind.Any ∷ [])) (char_in ((0, 9) ∷ (11, 0x10FFFF) ∷ []))
  pub start_of_text : IsSearchedAs (text_of (kind.Start ∷ [])) (look regex.Start)
  pub end_of_text : IsSearchedAs (text_of (kind.End ∷ [])) (look regex.End)
  pub boundary : IsSearchedAs (text_of (kind.Boundary ∷ [])) (look regex.WordAscii)
  pub no_digit : IsSearchedAs (text_of (kind.Named Digit true ∷ [])) (char_in ((0, 47) ∷ (58, 0x10FFFF) ∷ []))
  pub space : IsSearchedAs (text_of (kind.Named PerlSpace false ∷ [])) (char_in ((9, 10) ∷ (12, 13) ∷ (32, 32) ∷ []))
  pub repeated_lazily : IsSearchedAs (text_of (kind.Literal 97 ∷ kind.Repeat lazy_star ∷ [])) (repeat 0 None false (literal (97 ∷ [])))
  pub group_is_repeated : IsSearchedAs (text_of (kind.Open ∷ kind.Literal 97 ∷ kind.Close ∷ kind.Repeat star ∷ []))
      (repeat 0 None true (literal (97 ∷ [])))
  pub a_side_is_empty : IsSearchedAs (text_of (kind.Literal 97 ∷ kind.Bar ∷ [])) (alt (literal (97 ∷ [])) empty)
  pub brackets : IsSearchedAs (text_of (kind.OpenBracket true ∷ kind.Range 97 99 ∷ kind.Range 45 45 ∷ kind.CloseBracket ∷ []))
      (char_in ((0, 44) ∷ (46, 96) ∷ (100, 0x10FFFF) ∷ []))
  pub named_set : IsSearchedAs (text_of (kind.OpenBracket false ∷ kind.Member Alpha ∷ kind.Member PerlSpace ∷ kind.CloseBracket ∷ []))
      (char_in ((9, 10) ∷ (12, 13) ∷ (32, 32) ∷ (65, 90) ∷ (97, 122) ∷ []))
