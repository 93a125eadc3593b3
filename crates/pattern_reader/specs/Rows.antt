-- Patterns that were worked by hand: what is taken, with its tree and its text, and where others are refused.
use Rattle.std.specs.Prelude.{◌≡◌, [], ◌∷◌, true, false, Some, None, codes}
use Rattle.pattern_reader.specs.Tree.{empty, one, class, join, either, repeated, group}
use Rattle.pattern_reader.specs.Reading.{taken, refused}
use Rattle.pattern_reader.specs.Flags.{flags}
use Rattle.pattern_reader.specs.Written.{written}
use Rattle.pattern_reader.specs.Laws.{outcome}
use Rattle.pattern_reader.specs.declared.item.Item.TheVariants as kind
use Rattle.pattern_reader.specs.declared.repeat.Repeat.{Repeat}
use Rattle.pattern_reader.specs.declared.purpose.Purpose.TheVariants.{Match, Find}
use Rattle.pattern_reader.specs.declared.set.Set.TheVariants.{Digit, Alpha, PerlSpace}

-- any number of times, fewer preferred or not
abbrev pub star : Repeat
star = record { min = 0; max = None; lazy = false }

abbrev pub lazy_star : Repeat
lazy_star = record { min = 0; max = None; lazy = true }

-- the items and the tree of patterns
pub record TakenRowsHold : Type 0 where
  pub nothing : outcome Match [] ≡ Some (taken [] empty)
  pub a_letter : outcome Match (codes "a") ≡ Some (taken (kind.Literal 97 ∷ []) (join empty (one (kind.Literal 97))))
  pub a_digit : outcome Match (codes "\\d") ≡ Some (taken (kind.Named Digit false ∷ []) (join empty (one (kind.Named Digit false))))
  pub repeated_lazily : outcome Match (codes "a*?")
      ≡ Some (taken (kind.Literal 97 ∷ kind.Repeat lazy_star ∷ []) (join empty (repeated (one (kind.Literal 97)) lazy_star)))
  pub a_side_is_empty : outcome Match (codes "a|")
      ≡ Some (taken (kind.Literal 97 ∷ kind.Bar ∷ []) (either (join empty (one (kind.Literal 97))) empty))
  pub group_is_repeated : outcome Match (codes "(?P<n>a)*") ≡ Some (taken (kind.Open ∷ kind.Literal 97 ∷ kind.Close ∷ kind.Repeat star ∷ [])
      (join empty (repeated (group (join empty (one (kind.Literal 97)))) star)))
  pub brackets : outcome Match (codes "[^a-c-]") ≡ Some (taken (kind.OpenBracket true ∷ kind.Range 97 99 ∷ kind.Range 45 45 ∷ kind.CloseBracket ∷ [])
      (join empty (class true (kind.Range 97 99 ∷ kind.Range 45 45 ∷ []))))
  pub named_set : outcome Match (codes "[[:alpha:]\\s]") ≡ Some (taken (kind.OpenBracket false ∷ kind.Member Alpha ∷ kind.Member PerlSpace ∷ kind.CloseBracket ∷ [])
      (join empty (class false (kind.Member Alpha ∷ kind.Member PerlSpace ∷ []))))
  pub end_of_text : outcome Match (codes "a$") ≡ Some (taken (kind.Literal 97 ∷ kind.End ∷ []) (join (join empty (one (kind.Literal 97))) (one kind.End)))
  pub flag_at_start : outcome Match (codes "(?i)k") ≡ Some (taken (kind.Literal 107 ∷ []) (join empty (one (kind.Literal 107))))

-- the code point before which the first thing that does not fit begins
pub record RefusedPatternRowsHold : Type 0 where
  pub flags_inside : outcome Match (codes "^(?i)ab$") ≡ Some (refused 1)
  pub brace_without_count : outcome Match (codes "a{x") ≡ Some (refused 1)
  pub zero_before_a_digit : outcome Match (codes "a{01}") ≡ Some (refused 1)
  pub count_too_great : outcome Match (codes "a{1001}") ≡ Some (refused 1)
  pub counts_in_wrong_order : outcome Match (codes "a{3,2}") ≡ Some (refused 1)
  pub nested_counts_too_great : outcome Match (codes "(a{40}){30}") ≡ Some (refused 7)
  pub repeated_twice : outcome Match (codes "x**") ≡ Some (refused 2)
  pub edge_repeated : outcome Match (codes "^*") ≡ Some (refused 1)
  pub nothing_to_repeat : outcome Match (codes "*a") ≡ Some (refused 0)
  pub closing_bracket_first : outcome Match (codes "[]a]") ≡ Some (refused 1)
  pub bracket_in_brackets : outcome Match (codes "[a[b]") ≡ Some (refused 2)
  pub intersection : outcome Match (codes "[a&&b]") ≡ Some (refused 2)
  pub difference : outcome Match (codes "[a--b]") ≡ Some (refused 1)
  pub symmetric_difference : outcome Match (codes "[a~~b]") ≡ Some (refused 2)
  pub dash_between : outcome Match (codes "[a-c-e]") ≡ Some (refused 4)
  pub property : outcome Match (codes "\\pL") ≡ Some (refused 0)
  pub hex : outcome Match (codes "a\\x41") ≡ Some (refused 1)
  pub quotation : outcome Match (codes "\\Qa") ≡ Some (refused 0)
  pub no_boundary : outcome Match (codes "\\B") ≡ Some (refused 0)
  pub many_lines : outcome Match (codes "(?m)a") ≡ Some (refused 0)
  pub negated_name : outcome Match (codes "[[:^alpha:]]") ≡ Some (refused 1)
  pub folded_above_ascii : outcome Match (40 ∷ 63 ∷ 105 ∷ 41 ∷ 97 ∷ 233 ∷ []) ≡ Some (refused 5)
  pub not_folded_above_ascii : outcome Match (233 ∷ []) ≡ Some (taken (kind.Literal 233 ∷ []) (join empty (one (kind.Literal 233))))
  pub open_group : outcome Match (codes "(a") ≡ Some (refused 2)
  pub closed_too_often : outcome Match (codes "a)") ≡ Some (refused 1)
  pub open_brackets : outcome Match (codes "[a") ≡ Some (refused 2)
  pub empty_is_repeated : outcome Find (codes "([0-9]*?)*") ≡ Some (refused 9)

-- the text that is written
pub record WrittenRowsHold : Type 0 where
  pub any : written (flags false false) (kind.Any ∷ []) ≡ codes "[^\\n]"
  pub any_with_line_feeds : written (flags false true) (kind.Any ∷ []) ≡ codes "(?s:.)"
  pub end_of_text : written (flags false false) (kind.End ∷ []) ≡ codes "\\z"
  pub boundary : written (flags false false) (kind.Boundary ∷ []) ≡ codes "(?-u:\\b)"
  pub no_digit : written (flags false false) (kind.Named Digit true ∷ []) ≡ codes "[^0-9]"
  pub space : written (flags false false) (kind.Named PerlSpace false ∷ []) ≡ codes "[\\t\\n\\f\\r ]"
  pub folded_group : written (flags true false) (kind.Open ∷ kind.Literal 107 ∷ kind.Close ∷ kind.Repeat star ∷ []) ≡ codes "(?i)(?:k)*"
  pub a_dot : written (flags false false) (kind.Literal 46 ∷ []) ≡ codes "\\."
  pub a_less_sign : written (flags false false) (kind.Literal 60 ∷ []) ≡ codes "<"
