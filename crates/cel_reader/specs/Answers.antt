-- Results of the reader.
use Rattle.std.specs.Prelude.{◌≡◌, ◌≢◌, ℕ, suc, ◌<◌, ◌≤◌, List, [], ◌∷◌, ◌++◌, length, take, drop, true, Result, Ok, Err}
use Rattle.cel_tokens.specs.Token.{Word, Token}
use Rattle.cel_tokens.specs.Lexis.{Lexes, TakesMemory}
use Rattle.cel_tokens.specs.declared.read_error.ReadError.{ReadError}
use Rattle.cel_tokens.specs.declared.read_error.ReadError.TheVariants.{UnknownCharacter, InvalidTextLiteral, IntOutOfRange, UnexpectedToken, TooManyOpen, TextTooLong, Memory}
use Rattle.cel_tokens.specs.Limits.{text_limit}
use Rattle.cel_reader.specs.Limits.{open_limit}
use Rattle.cel_reader.specs.Tree.{Tree, view}
use Rattle.cel_reader.specs.Grammar.{Expression, One, Derives}
use Rattle.cel_reader.specs.Look.{words_only, openings, opens}
use Rattle.cel_reader.specs.declared.expr.Expr.{Expr}

-- all of the words are this expression, with at most `room` brackets and conditionals open at any word
abbrev pub IsExpression : ℕ → List Word → Tree → Type 0
IsExpression room ws a = Derives Expression room ws (One a) []

-- the words are not an expression, for any number of open brackets and conditionals
abbrev pub IsNoExpression : List Word → Type 0
IsNoExpression ws = (room : ℕ) (a : Tree) → IsExpression room ws a → ⊥

-- the words are not an expression with at most 100 open, and more than 100 of them open one
abbrev pub IsTooDeep : List Word → Type 0
IsTooDeep ws = ((a : Tree) → IsExpression open_limit ws a → ⊥) × (open_limit < openings ws)

-- these words can be extended to an expression with at most `room` open at any word
abbrev pub IsViablePrefix : ℕ → List Word → Type 0
IsViablePrefix room ws = (more : List Word) × (a : Tree) × IsExpression room (ws ++ more) a

-- The first `count` words can be extended to an expression, but not with the next one, for any number of open
-- brackets and conditionals; or there is no next one.
abbrev pub UnexpectedAt : ℕ → List Word → Type 0
UnexpectedAt count ws =
    (count ≤ length ws) × IsViablePrefix open_limit (take count ws)
    × (count < length ws → (room : ℕ) → IsViablePrefix room (take (suc count) ws) → ⊥)

-- The first `count` words can be extended to an expression. The next is an opening bracket or question mark, with
-- which they can be extended only if more than 100 may be open.
abbrev pub DeepAt : ℕ → List Word → Type 0
DeepAt count ws =
    (w : Word) × (take (suc count) ws ≡ take count ws ++ w ∷ []) × (opens w ≡ true) × IsViablePrefix open_limit (take count ws)
    × (IsViablePrefix open_limit (take (suc count) ws) → ⊥) × IsViablePrefix (suc open_limit) (take (suc count) ws)

-- the text has its tokens, and this holds of their words
abbrev pub HasTokens : List ℕ → (List Word → Type 0) → Type 0
HasTokens source Holds = (lexemes : List Token) × Lexes source (Ok lexemes) × Holds (words_only lexemes)

-- What each result means for the text: its tokens are this expression, or the cause of the error holds. An allocation
-- can fail only for a text that is not refused before anything is allocated.
abbrev pub ReadReturns : List ℕ → Result Expr ReadError → Type 0
ReadReturns source (Ok e) = HasTokens source (λ ws. IsExpression open_limit ws (view e))
ReadReturns source (Err (UnknownCharacter place)) = Lexes source (Err (UnknownCharacter place))
ReadReturns source (Err (InvalidTextLiteral place)) = Lexes source (Err (InvalidTextLiteral place))
ReadReturns source (Err (IntOutOfRange place)) = Lexes source (Err (IntOutOfRange place))
ReadReturns source (Err (UnexpectedToken place)) = HasTokens source IsNoExpression
ReadReturns source (Err (TooManyOpen place)) = HasTokens source IsTooDeep
ReadReturns source (Err (TextTooLong place)) = Lexes source (Err (TextTooLong place))
ReadReturns source (Err Memory) = (length source ≤ text_limit) × TakesMemory true source

-- what each result means for the words, without their text
abbrev pub ParseReturns : List Word → Result Expr ReadError → Type 0
ParseReturns ws (Ok e) = IsExpression open_limit ws (view e)
ParseReturns ws (Err (UnexpectedToken place)) = IsNoExpression ws
ParseReturns ws (Err (TooManyOpen place)) = IsTooDeep ws
ParseReturns ws (Err Memory) = ws ≢ []
ParseReturns ws _ = ⊥

-- the position of the first of these tokens, or the end of a text of `len` bytes if there are none
abbrev pub place_at : ℕ → List Token → ℕ
place_at len [] = len
place_at len (l ∷ ls) = l.place

-- this property holds of some number of words, and the position is that of the token after them
abbrev pub StandsAt : ℕ → List Token → ℕ → (ℕ → List Word → Type 0) → Type 0
StandsAt len lexemes place Holds = (count : ℕ) × (place ≡ place_at len (drop count lexemes)) × Holds count (words_only lexemes)

-- the position of an error in the words of a text of `len` bytes
abbrev pub ParseErrorIsAt : ℕ → List Token → Result Expr ReadError → Type 0
ParseErrorIsAt len lexemes (Err (UnexpectedToken place)) = StandsAt len lexemes place UnexpectedAt
ParseErrorIsAt len lexemes (Err (TooManyOpen place)) = StandsAt len lexemes place DeepAt
ParseErrorIsAt len lexemes (Ok e) = Unit {0}
ParseErrorIsAt len lexemes (Err Memory) = Unit {0}
ParseErrorIsAt len lexemes _ = ⊥

-- the position of an error in a text; for an error of its tokens, that of the tokens
abbrev pub ErrorIsAt : List ℕ → Result Expr ReadError → Type 0
ErrorIsAt source (Err (UnexpectedToken place)) = (lexemes : List Token) × Lexes source (Ok lexemes)
    × ParseErrorIsAt (length source) lexemes (Err (UnexpectedToken place))
ErrorIsAt source (Err (TooManyOpen place)) = (lexemes : List Token) × Lexes source (Ok lexemes)
    × ParseErrorIsAt (length source) lexemes (Err (TooManyOpen place))
ErrorIsAt source (Err Memory) = Unit {0}
ErrorIsAt source (Err e) = Lexes source (Err e)
ErrorIsAt source (Ok e) = Unit {0}

-- why a text is refused, and at which byte: for its tokens; or because their words are not an expression, at the first
-- word with which none goes on; or because they open too many brackets and conditionals
abbrev pub IsUnreadable : List ℕ → ReadError → Type 0
IsUnreadable source (UnexpectedToken place) = (lexemes : List Token) × Lexes source (Ok lexemes)
    × IsNoExpression (words_only lexemes) × StandsAt (length source) lexemes place UnexpectedAt
IsUnreadable source (TooManyOpen place) = (lexemes : List Token) × Lexes source (Ok lexemes)
    × IsTooDeep (words_only lexemes) × StandsAt (length source) lexemes place DeepAt
IsUnreadable source Memory = ⊥
IsUnreadable source e = Lexes source (Err e)

-- a result other than an allocation failure: it is correct for the text, and so is its position
pub record IsReadResult (source : List ℕ) (r : Result Expr ReadError) : Type 0 where
  pub some : r ≢ Err Memory
  pub answers : ReadReturns source r
  pub placed : ErrorIsAt source r
