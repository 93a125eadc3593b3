-- One step of the code over a text, in the terms of the definitions.
use Rattle.std.specs.Prelude.{ℕ, ◌<◌, ◌≤◌, List, [], length, drop, map, Bool, true, Result, Ok, Err, Option, Some, None, Vec, if◌then◌else◌, nat_le}
use Rattle.std.specs.Global.{Global}
use Rattle.cel_tokens.specs.Limits.{token_limit}
use Rattle.wide_tokens.specs.Token.{WideToken, token_view}
use Rattle.wide_tokens.specs.Lexis.{WideCuts, WideTakesMemory}
use Rattle.wide_tokens.specs.declared.token.Token.{Token as CodeToken}
use Rattle.cel_tokens.specs.declared.read_error.ReadError.{ReadError}
use Rattle.cel_tokens.specs.declared.read_error.ReadError.TheVariants.{UnknownCharacter, InvalidTextLiteral, IntOutOfRange, UnexpectedToken, TooManyOpen, TextTooLong, Memory}

-- after these tokens, the text from this position on has this outcome
abbrev pub WideEndsAs : List ℕ → Bool → ℕ → List CodeToken → Result (List WideToken) ReadError → Type 0
WideEndsAs source signed at tokens r = WideCuts signed (map (token_view source) tokens) at (drop at source) r

-- the text has this error, or an allocation for it may fail
abbrev pub WideIsTextRefused : (Result (List WideToken) ReadError → Type 0) → Type 0 → ReadError → Type 0
WideIsTextRefused ends Takes Memory = Takes
WideIsTextRefused ends Takes (UnknownCharacter place) = ends (Err (UnknownCharacter place))
WideIsTextRefused ends Takes (InvalidTextLiteral place) = ends (Err (InvalidTextLiteral place))
WideIsTextRefused ends Takes (IntOutOfRange place) = ends (Err (IntOutOfRange place))
WideIsTextRefused ends Takes (UnexpectedToken place) = ⊥
WideIsTextRefused ends Takes (TooManyOpen place) = ⊥
WideIsTextRefused ends Takes (TextTooLong place) = ends (Err (TextTooLong place))

-- a step keeps the outcome of the text; after the last one the text is at its end
abbrev pub WideCutsOn : List ℕ → Bool → ℕ → List CodeToken → List CodeToken → Result (Option (ℕ × Bool)) ReadError → Type 0
WideCutsOn source signed at old new (Ok (Some x)) =
    (at < x.0) × (x.0 ≤ length source) × ((r : Result (List WideToken) ReadError) → WideEndsAs source x.1 x.0 new r → WideEndsAs source signed at old r)
    × (WideTakesMemory x.1 (drop x.0 source) → WideTakesMemory signed (drop at source))
WideCutsOn source signed at old new (Ok None) = WideEndsAs source signed at old (Ok (map (token_view source) new))
WideCutsOn source signed at old new (Err e) = WideIsTextRefused (WideEndsAs source signed at old) (WideTakesMemory signed (drop at source)) e

-- the error at this position, or that the token is the 4,097th
abbrev pub refusal_of : ℕ → ℕ → ReadError → ReadError
refusal_of count at cause = if nat_le token_limit count then TextTooLong at else cause

-- the outcome that the code returns
abbrev pub WideCutsTo : List ℕ → Result (Vec CodeToken Global) ReadError → Type 0
WideCutsTo source (Ok tokens) = WideCuts true [] 0 source (Ok (map (token_view source) tokens.items))
WideCutsTo source (Err e) = WideIsTextRefused (WideCuts true [] 0 source) (WideTakesMemory true source) e
