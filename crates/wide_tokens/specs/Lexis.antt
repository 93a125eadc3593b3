-- The tokens of a text, and the errors of a text without.
use Rattle.std.specs.Prelude.{◌≡◌, ℕ, ◌+◌, ◌<◌, ◌≤◌, List, [], ◌∷◌, ◌++◌, drop, length, map, Bool, true, Result, Ok, Err, Vec}
use Rattle.std.specs.Global.{Global}
use Rattle.cel_tokens.specs.Limits.{token_limit, text_limit}
use Rattle.wide_tokens.specs.Token.{WideWord, WideToken, token_view}
use Rattle.wide_tokens.specs.Lexed as front
use Rattle.wide_tokens.specs.Lexed.{front, sign_may_follow}
use Rattle.wide_tokens.specs.declared.token.Token.{Token as CodeToken}
use Rattle.cel_tokens.specs.declared.read_error.ReadError.{ReadError}
use Rattle.cel_tokens.specs.declared.read_error.ReadError.TheVariants.{UnknownCharacter, InvalidTextLiteral, IntOutOfRange, UnexpectedToken, TooManyOpen, TextTooLong, Memory}

-- the token of n bytes at this position
abbrev pub lexeme : ℕ → ℕ → WideWord → WideToken
lexeme place n w = record { place = place; end = place + n; word = w }

-- a token begins at the front, even if its text or its size is invalid
pub data WideTokenBegins : front.WideLexed → Type 0 where
  a_word : (n : ℕ) (w : WideWord) → WideTokenBegins (front.word n w)
  a_text : WideTokenBegins front.wrong_text
  an_int : (n : ℕ) → WideTokenBegins (front.wide_int n)

-- after the tokens so far, the text from this position on has this outcome, by the first error from the left
pub data WideCuts : Bool → List WideToken → ℕ → List ℕ → Result (List WideToken) ReadError → Type 0 where
  over : {signed : Bool} {so_far : List WideToken} {place : ℕ} {rest : List ℕ} → front signed rest ≡ front.over
      → WideCuts signed so_far place rest (Ok so_far)
  space : {signed : Bool} {so_far : List WideToken} {place : ℕ} {rest : List ℕ} {r : Result (List WideToken) ReadError} (n : ℕ)
      → front signed rest ≡ front.space n → WideCuts signed so_far (place + n) (drop n rest) r → WideCuts signed so_far place rest r
  token : {signed : Bool} {so_far : List WideToken} {place : ℕ} {rest : List ℕ} {r : Result (List WideToken) ReadError} (n : ℕ) (w : WideWord)
      → front signed rest ≡ front.word n w → length so_far < token_limit
      → WideCuts (sign_may_follow w) (so_far ++ (lexeme place n w ∷ [])) (place + n) (drop n rest) r → WideCuts signed so_far place rest r
  nothing : {signed : Bool} {so_far : List WideToken} {place : ℕ} {rest : List ℕ} → front signed rest ≡ front.nothing
      → WideCuts signed so_far place rest (Err (UnknownCharacter place))
  wrong_text : {signed : Bool} {so_far : List WideToken} {place : ℕ} {rest : List ℕ} → front signed rest ≡ front.wrong_text
      → length so_far < token_limit → WideCuts signed so_far place rest (Err (InvalidTextLiteral place))
  wide_int : {signed : Bool} {so_far : List WideToken} {place : ℕ} {rest : List ℕ} (n : ℕ) → front signed rest ≡ front.wide_int n
      → length so_far < token_limit → WideCuts signed so_far place rest (Err (IntOutOfRange (place + n)))
  too_many : {signed : Bool} {so_far : List WideToken} {place : ℕ} {rest : List ℕ} → WideTokenBegins (front signed rest)
      → token_limit ≤ length so_far
      → WideCuts signed so_far place rest (Err (TextTooLong place))

-- the whole text has this outcome; a text above 65,536 bytes is refused before it is read
pub data WideLexes : List ℕ → Result (List WideToken) ReadError → Type 0 where
  too_long : {source : List ℕ} → text_limit < length source → WideLexes source (Err (TextTooLong text_limit))
  read : {source : List ℕ} {r : Result (List WideToken) ReadError} → length source ≤ text_limit → WideCuts true [] 0 source r → WideLexes source r

-- the text from this position on is these tokens, the longest at each position, with blanks and comments between them
pub data WideTokens : Bool → ℕ → List ℕ → List WideToken → Type 0 where
  over : {signed : Bool} {place : ℕ} {rest : List ℕ} → front signed rest ≡ front.over → WideTokens signed place rest []
  space : {signed : Bool} {place : ℕ} {rest : List ℕ} {more : List WideToken} (n : ℕ) → front signed rest ≡ front.space n
      → WideTokens signed (place + n) (drop n rest) more → WideTokens signed place rest more
  token : {signed : Bool} {place : ℕ} {rest : List ℕ} {more : List WideToken} (n : ℕ) (w : WideWord) → front signed rest ≡ front.word n w
      → WideTokens (sign_may_follow w) (place + n) (drop n rest) more → WideTokens signed place rest (lexeme place n w ∷ more)

-- these are the tokens of the whole text
abbrev pub WideIsTokens : List ℕ → List WideToken → Type 0
WideIsTokens source lexemes = WideTokens true 0 source lexemes

-- reading on allocates: the first thing here after blanks and comments is a token or a text literal
pub data WideTakesMemory : Bool → List ℕ → Type 0 where
  for_word : {signed : Bool} {rest : List ℕ} (n : ℕ) (w : WideWord) → front signed rest ≡ front.word n w → WideTakesMemory signed rest
  for_text : {signed : Bool} {rest : List ℕ} → front signed rest ≡ front.wrong_text → WideTakesMemory signed rest
  behind_space : {signed : Bool} {rest : List ℕ} (n : ℕ) → front signed rest ≡ front.space n → WideTakesMemory signed (drop n rest)
      → WideTakesMemory signed rest

-- what the code may return. An allocation may also fail, unless the text is refused before anything is allocated: for
-- its length, or in its first token if that is not a text literal
abbrev pub WideTokensReturns : List ℕ → Result (Vec CodeToken Global) ReadError → Type 0
WideTokensReturns source (Ok tokens) = WideLexes source (Ok (map (token_view source) tokens.items))
WideTokensReturns source (Err Memory) = (length source ≤ text_limit) × WideTakesMemory true source
WideTokensReturns source (Err (UnknownCharacter place)) = WideLexes source (Err (UnknownCharacter place))
WideTokensReturns source (Err (InvalidTextLiteral place)) = WideLexes source (Err (InvalidTextLiteral place))
WideTokensReturns source (Err (IntOutOfRange place)) = WideLexes source (Err (IntOutOfRange place))
WideTokensReturns source (Err (UnexpectedToken place)) = ⊥
WideTokensReturns source (Err (TooManyOpen place)) = ⊥
WideTokensReturns source (Err (TextTooLong place)) = WideLexes source (Err (TextTooLong place))
