-- Lines of an input: blank ones, and the line feed at the end of each.
use Rattle.std.specs.Prelude.{◌≡◌, true, false, [], ◌∷◌, codes}
use Rattle.line_answers.specs.Lines.{is_blank, line_of}

-- a space, a tab and a carriage return are blank; the bytes next to them are not
pub record BlankRowsHold : Type 0 where
  pub empty : is_blank [] ≡ true
  pub all_three : is_blank (codes " \t\r") ≡ true
  pub space : is_blank (32 ∷ []) ≡ true
  pub before_space : is_blank (31 ∷ []) ≡ false
  pub after_space : is_blank (33 ∷ []) ≡ false
  pub tab : is_blank (9 ∷ []) ≡ true
  pub before_tab : is_blank (8 ∷ []) ≡ false
  pub line_feed : is_blank (10 ∷ []) ≡ false
  pub carriage_return : is_blank (13 ∷ []) ≡ true
  pub before_carriage_return : is_blank (12 ∷ []) ≡ false
  pub after_carriage_return : is_blank (14 ∷ []) ≡ false
  pub blank_and_more : is_blank (codes " a") ≡ false
  pub more_and_blank : is_blank (codes "a ") ≡ false
  pub ended : line_of (codes "a") ≡ codes "a\n"
