-- Lookahead: the front of the words.
use Rattle.std.specs.Prelude.{◌≡◌, ◌≢◌, ℕ, ◌+◌, List, [], ◌∷◌, map, Bool, true, false, if◌then◌else◌, Some, None, ◌⊎◌}
use Rattle.cel_tokens.specs.Token.{Word, Token, token_view, name, int, text, mark}
use Rattle.cel_tokens.specs.declared.token.Token.{Token as CodeToken}
use Rattle.cel_tokens.specs.declared.mark.Mark.{Mark}
use Rattle.cel_tokens.specs.declared.mark.Mark.TheVariants as marks
use Rattle.cel_reader.specs.Tree.{Literal}
use Rattle.cel_reader.specs.Words.{literal_of, operator_of, level_of}
use Rattle.cel_reader.specs.declared.level.Level.{Level}
use Rattle.cel_reader.specs.declared.operator.BinaryOperator.{BinaryOperator}
use Rattle.cel_reader.specs.declared.closing.Closing.{Closing}
use Rattle.cel_reader.specs.declared.closing.Closing.TheVariants.{Call, List as ListLiteral, Map}

-- the words of the tokens
abbrev pub words_only : List Token → List Word
words_only lexemes = map (λ l. l.word) lexemes

-- the words of the code's tokens in this text
abbrev pub words : List ℕ → List CodeToken → List Word
words source tokens = words_only (map (token_view source) tokens)

-- the mark that closes the list
abbrev pub closing_mark : Closing → Mark
closing_mark Call = marks.CloseParen
closing_mark ListLiteral = marks.CloseBracket
closing_mark Map = marks.CloseBrace

-- whether a comma may be before that mark
abbrev pub takes_comma : Closing → Bool
takes_comma Call = false
takes_comma ListLiteral = true
takes_comma Map = true

-- what the reader looks for in a word: a mark; a mark, but only in a list that may end with a comma; a name that
-- passes a test; a literal; or an operator of the level
pub data Look : Type 0 where
  at : Mark → Look
  in_literal : Closing → Mark → Look
  named : (List ℕ → Bool) → Look
  constant : Look
  operator : Level → Look

-- what it finds there
abbrev pub FoundBy : Look → Type 0
FoundBy (at m) = Unit {0}
FoundBy (in_literal c m) = Unit {0}
FoundBy (named test) = List ℕ
FoundBy constant = Literal
FoundBy (operator l) = BinaryOperator

-- the word is what the reader looks for
pub data Is : (l : Look) → Word → FoundBy l → Type 0 where
  this_mark : {m : Mark} → Is (at m) (mark m) tt
  this_one : {c : Closing} {m : Mark} → takes_comma c ≡ true → Is (in_literal c m) (mark m) tt
  this_name : {test : List ℕ → Bool} {n : List ℕ} → test n ≡ true → Is (named test) (name n) n
  this_literal : {w : Word} {v : Literal} → literal_of w ≡ Some v → Is constant w v
  this_operator : {l : Level} {w : Word} {op : BinaryOperator} → operator_of w ≡ Some op → level_of op ≡ l → Is (operator l) w op

-- the word is not what the reader looks for
abbrev pub IsNot : Look → Word → Type 0
IsNot (at m) w = w ≢ mark m
IsNot (in_literal c m) w = takes_comma c ≡ true → w ≢ mark m
IsNot (named test) w = (n : List ℕ) → w ≡ name n → test n ≡ false
IsNot constant w = literal_of w ≡ None
IsNot (operator l) w = (op : BinaryOperator) → operator_of w ≡ Some op → level_of op ≢ l

-- the words do not begin with what the reader looks for
abbrev pub IsNotNext : Look → List Word → Type 0
IsNotNext l [] = Unit {0}
IsNotNext l (w ∷ ws) = IsNot l w

-- the list is closed here, and `rest` are the words after it
abbrev pub Closes : Closing → List Word → List Word → Type 0
Closes c ws rest = (ws ≡ mark (closing_mark c) ∷ rest) ⊎ ((takes_comma c ≡ true) × (ws ≡ mark marks.Comma ∷ mark (closing_mark c) ∷ rest))

-- the list continues
abbrev pub GoesOn : Closing → List Word → Type 0
GoesOn c ws = (rest : List Word) → Closes c ws rest → ⊥

-- whether the mark is ( [ { or ?
abbrev pub opens_mark : Mark → Bool
opens_mark marks.OpenParen = true
opens_mark marks.OpenBracket = true
opens_mark marks.OpenBrace = true
opens_mark marks.Question = true
opens_mark other = false

-- whether the word is one of these marks, which open a bracket or conditional
abbrev pub opens : Word → Bool
opens (mark m) = opens_mark m
opens (name n) = false
opens (int z) = false
opens (text bytes) = false

-- the number of opening brackets and question marks among the words
abbrev pub openings : List Word → ℕ
openings [] = 0
openings (w ∷ ws) = (if opens w then 1 else 0) + openings ws
