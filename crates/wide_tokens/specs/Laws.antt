-- The laws of the tokens.
use Rattle.std.specs.Prelude.{◌≡◌, ◌≤◌, ◌↔◌, ℕ, List, length, Result, Ok}
use Rattle.cel_tokens.specs.Limits.{text_limit, token_limit}
use Rattle.wide_tokens.specs.Token.{WideToken}
use Rattle.wide_tokens.specs.Lexis.{WideLexes, WideIsTokens}
use Rattle.cel_tokens.specs.declared.read_error.ReadError.{ReadError}

-- the outcome is unique: the tokens of the text, or one error
abbrev pub WideHasOneEnd : Type 0
WideHasOneEnd = (source : List ℕ) (r s : Result (List WideToken) ReadError) → WideLexes source r → WideLexes source s → r ≡ s

-- the outcome is tokens exactly if these are the tokens of the text and both are within the limits
abbrev pub WideEndsInItsTokens : Type 0
WideEndsInItsTokens = (source : List ℕ) (lexemes : List WideToken)
    → WideLexes source (Ok lexemes) ↔ (WideIsTokens source lexemes × (length source ≤ text_limit) × (length lexemes ≤ token_limit))

-- a text has one list of tokens
abbrev pub WideHasOneReading : Type 0
WideHasOneReading = (source : List ℕ) (xs ys : List WideToken) → WideIsTokens source xs → WideIsTokens source ys → xs ≡ ys
