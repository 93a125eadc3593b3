-- The laws of the tokens.
use Rattle.std.specs.Prelude.{◌≡◌, ◌≤◌, ◌↔◌, ℕ, List, length, All, Result, Ok, FitsSigned}
use Rattle.std.specs.Int.{w64}
use Rattle.cel_tokens.specs.Limits.{text_limit, token_limit}
use Rattle.cel_tokens.specs.Token.{Word, Token, name, int, text, mark}
use Rattle.cel_tokens.specs.Lexis.{Lexes, IsTokens}
use Rattle.cel_tokens.specs.declared.read_error.ReadError.{ReadError}

-- the outcome is unique: the tokens of the text, or one error
abbrev pub HasOneEnd : Type 0
HasOneEnd = (source : List ℕ) (r s : Result (List Token) ReadError) → Lexes source r → Lexes source s → r ≡ s

-- the outcome is tokens exactly if these are the tokens of the text and both are within the limits
abbrev pub EndsInItsTokens : Type 0
EndsInItsTokens = (source : List ℕ) (lexemes : List Token)
    → Lexes source (Ok lexemes) ↔ (IsTokens source lexemes × (length source ≤ text_limit) × (length lexemes ≤ token_limit))

-- a text has one list of tokens
abbrev pub HasOneReading : Type 0
HasOneReading = (source : List ℕ) (xs ys : List Token) → IsTokens source xs → IsTokens source ys → xs ≡ ys

-- an int in the word fits 64 bits
abbrev pub IntFits : Word → Type 0
IntFits (int z) = FitsSigned w64 z
IntFits (name bytes) = Unit {0}
IntFits (text bytes) = Unit {0}
IntFits (mark m) = Unit {0}

-- every int among a text's tokens fits 64 bits
abbrev pub HasIntsThatFit : Type 0
HasIntsThatFit = (source : List ℕ) (lexemes : List Token) → Lexes source (Ok lexemes) → All (λ l. IntFits l.word) lexemes
