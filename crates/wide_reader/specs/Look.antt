-- Lookahead: the front of the words.
use Rattle.std.specs.Prelude.{◌≡◌, ◌≢◌, ℕ, List, [], ◌∷◌, map, Bool, true, false, Some, None, ◌⊎◌}
use Rattle.wide_tokens.specs.Token.{WideWord, WideToken, token_view, name, quoted, mark}
use Rattle.wide_tokens.specs.Quoted.{is_quoted_name}
use Rattle.wide_tokens.specs.declared.token.Token.{Token as CodeToken}
use Rattle.cel_tokens.specs.declared.mark.Mark.{Mark}
use Rattle.cel_tokens.specs.declared.mark.Mark.TheVariants as marks
use Rattle.cel_reader.specs.declared.operator.BinaryOperator.{BinaryOperator}
use Rattle.wide_reader.specs.Tree.{Wide}
use Rattle.wide_reader.specs.Words.{literal_of, operator_of, level_of}
use Rattle.wide_reader.specs.declared.level.Level.{Level}
use Rattle.wide_reader.specs.declared.closing.Closing.{Closing}
use Rattle.wide_reader.specs.declared.closing.Closing.TheVariants.{Call, List as ListLiteral, Map}

-- the words of the tokens
abbrev pub words_only : List WideToken → List WideWord
words_only lexemes = map (λ l. l.word) lexemes

-- the words of the code's tokens in this text
abbrev pub words : List ℕ → List CodeToken → List WideWord
words source tokens = words_only (map (token_view source) tokens)

-- the mark that closes the list
abbrev pub closing_mark : Closing → Mark
closing_mark Call = marks.CloseParen
closing_mark ListLiteral = marks.CloseBracket
closing_mark Map = marks.CloseBrace

-- whether a comma may be before that mark
abbrev pub takes_comma : Closing → Bool
takes_comma Call = false
takes_comma ListLiteral = true
takes_comma Map = true

-- what the reader looks for in a word: a mark; a mark, but only in a list that may end with a comma; a name that
-- passes a test; a name in back quotes; a literal; or an operator of the level
pub data WideLook : Type 0 where
  at : Mark → WideLook
  in_literal : Closing → Mark → WideLook
  named : (List ℕ → Bool) → WideLook
  back_quoted : WideLook
  constant : WideLook
  operator : Level → WideLook

-- what it finds there
abbrev pub WideFoundBy : WideLook → Type 0
WideFoundBy (at m) = Unit {0}
WideFoundBy (in_literal c m) = Unit {0}
WideFoundBy (named test) = List ℕ
WideFoundBy back_quoted = List ℕ
WideFoundBy constant = Wide
WideFoundBy (operator l) = BinaryOperator

-- the word is what the reader looks for
pub data WideIs : (l : WideLook) → WideWord → WideFoundBy l → Type 0 where
  this_mark : {m : Mark} → WideIs (at m) (mark m) tt
  this_one : {c : Closing} {m : Mark} → takes_comma c ≡ true → WideIs (in_literal c m) (mark m) tt
  this_name : {test : List ℕ → Bool} {n : List ℕ} → test n ≡ true → WideIs (named test) (name n) n
  this_quoted : {n : List ℕ} → is_quoted_name n ≡ true → WideIs back_quoted (quoted n) n
  this_literal : {w : WideWord} {v : Wide} → literal_of w ≡ Some v → WideIs constant w v
  this_operator : {l : Level} {w : WideWord} {op : BinaryOperator} → operator_of w ≡ Some op → level_of op ≡ l → WideIs (operator l) w op

-- the word is not what the reader looks for
abbrev pub WideIsNot : WideLook → WideWord → Type 0
WideIsNot (at m) w = w ≢ mark m
WideIsNot (in_literal c m) w = takes_comma c ≡ true → w ≢ mark m
WideIsNot (named test) w = (n : List ℕ) → w ≡ name n → test n ≡ false
WideIsNot back_quoted w = (n : List ℕ) → w ≡ quoted n → is_quoted_name n ≡ false
WideIsNot constant w = literal_of w ≡ None
WideIsNot (operator l) w = (op : BinaryOperator) → operator_of w ≡ Some op → level_of op ≢ l

-- the words do not begin with what the reader looks for
abbrev pub WideIsNotNext : WideLook → List WideWord → Type 0
WideIsNotNext l [] = Unit {0}
WideIsNotNext l (w ∷ ws) = WideIsNot l w

-- the list is closed here, and `rest` are the words after it
abbrev pub WideCloses : Closing → List WideWord → List WideWord → Type 0
WideCloses c ws rest =
    (ws ≡ mark (closing_mark c) ∷ rest) ⊎ ((takes_comma c ≡ true) × (ws ≡ mark marks.Comma ∷ mark (closing_mark c) ∷ rest))

-- the list continues
abbrev pub WideGoesOn : Closing → List WideWord → Type 0
WideGoesOn c ws = (rest : List WideWord) → WideCloses c ws rest → ⊥

-- whether the mark is ( [ { or ?
abbrev pub opens_mark : Mark → Bool
opens_mark marks.OpenParen = true
opens_mark marks.OpenBracket = true
opens_mark marks.OpenBrace = true
opens_mark marks.Question = true
opens_mark other = false

-- whether the word is one of these marks, which may open a bracket or conditional
abbrev pub opens : WideWord → Bool
opens (mark m) = opens_mark m
opens _ = false
