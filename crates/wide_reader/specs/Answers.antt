-- Results of the reader.
use Rattle.std.specs.Prelude.{◌≡◌, ◌≢◌, ℕ, suc, ◌<◌, ◌≤◌, List, [], ◌∷◌, ◌++◌, length, take, drop, true, false, Option, None, Some, Result, Ok, Err}
use Rattle.cel_tokens.specs.Limits.{text_limit}
use Rattle.cel_tokens.specs.declared.read_error.ReadError.TheVariants.{UnexpectedToken, TooManyOpen, Memory}
use Rattle.wide_tokens.specs.Token.{WideWord, WideToken, bytes, double}
use Rattle.wide_tokens.specs.Lexis.{WideLexes, WideTakesMemory}
use Rattle.wide_reader.specs.Limits.{open_limit}
use Rattle.wide_reader.specs.Tree.{Wide, view}
use Rattle.wide_reader.specs.Words.{is_unsupported}
use Rattle.wide_reader.specs.Grammar.{Expression, One, WideDerives}
use Rattle.wide_reader.specs.Look.{words_only, opens}
use Rattle.wide_reader.specs.Faults.{fault}
use Rattle.wide_reader.specs.declared.wide.Wide.{Wide as CodeWide}
use Rattle.wide_reader.specs.declared.wide_error.MacroFault.{MacroFault}
use Rattle.wide_reader.specs.declared.wide_error.WideReadError.{WideReadError, TheVariants.Text, TheVariants.Bytes, TheVariants.Double, TheVariants.Macro}

-- none of the words is bytes or a double
abbrev pub AreSupported : List WideWord → Type 0
AreSupported [] = Unit {0}
AreSupported (w ∷ ws) = (is_unsupported w ≡ false) × AreSupported ws

-- all of the words are this expression, with at most `room` brackets and conditionals open at any word, if bytes and
-- doubles are read as literals
abbrev pub IsWideExpression : ℕ → List WideWord → Wide → Type 0
IsWideExpression room ws a = WideDerives Expression room ws (One a) []

-- the words are not an expression, for any number of open brackets and conditionals
abbrev pub IsNoWideExpression : List WideWord → Type 0
IsNoWideExpression ws = (room : ℕ) (a : Wide) → IsWideExpression room ws a → ⊥

-- these words can be extended to an expression with at most `room` open at any word
abbrev pub WideIsViablePrefix : ℕ → List WideWord → Type 0
WideIsViablePrefix room ws = (more : List WideWord) × (a : Wide) × IsWideExpression room (ws ++ more) a

-- The words are not an expression. The first `count` ones are supported, and can be extended to one, but not with the
-- next one, for any number of open brackets and conditionals; or there is no next one.
abbrev pub WideUnexpectedAt : ℕ → List WideWord → Type 0
WideUnexpectedAt count ws =
    AreSupported (take count ws) × (count ≤ length ws) × WideIsViablePrefix open_limit (take count ws)
    × (count < length ws → (room : ℕ) → WideIsViablePrefix room (take (suc count) ws) → ⊥) × IsNoWideExpression ws

-- The first `count` words are supported, and can be extended to an expression. The next is an opening bracket or
-- question mark, with which they can be extended only if more than 100 may be open.
abbrev pub WideDeepAt : ℕ → List WideWord → Type 0
WideDeepAt count ws =
    AreSupported (take count ws) × (w : WideWord) × (take (suc count) ws ≡ take count ws ++ w ∷ []) × (opens w ≡ true)
    × WideIsViablePrefix open_limit (take count ws) × (WideIsViablePrefix open_limit (take (suc count) ws) → ⊥)
    × WideIsViablePrefix (suc open_limit) (take (suc count) ws)

-- The first `count` words are supported. The next is this word, which is not, and with it they can be extended to an
-- expression, if it is read as a literal.
abbrev pub UnsupportedAt : WideWord → ℕ → List WideWord → Type 0
UnsupportedAt w count ws =
    AreSupported (take count ws) × (take (suc count) ws ≡ take count ws ++ w ∷ []) × WideIsViablePrefix open_limit (take (suc count) ws)

-- the position of the first of these tokens, or the end of a text of `len` bytes if there are none
abbrev pub place_at : ℕ → List WideToken → ℕ
place_at len [] = len
place_at len (l ∷ ls) = l.place

-- this property holds of some number of words, and the position is that of the token after them
abbrev pub WideStandsAt : ℕ → List WideToken → ℕ → (ℕ → List WideWord → Type 0) → Type 0
WideStandsAt len lexemes place Holds = (count : ℕ) × (place ≡ place_at len (drop count lexemes)) × Holds count (words_only lexemes)

-- What each result means for the tokens of a text of `len` bytes, macros left aside: their words are this expression; or
-- the cause of the error holds, at its position
abbrev pub WideParseReturns : ℕ → List WideToken → Result CodeWide WideReadError → Type 0
WideParseReturns len lexemes (Ok e) = AreSupported (words_only lexemes) × IsWideExpression open_limit (words_only lexemes) (view e)
WideParseReturns len lexemes (Err (Text (UnexpectedToken place))) = WideStandsAt len lexemes place WideUnexpectedAt
WideParseReturns len lexemes (Err (Text (TooManyOpen place))) = WideStandsAt len lexemes place WideDeepAt
WideParseReturns len lexemes (Err (Text Memory)) = lexemes ≢ []
WideParseReturns len lexemes (Err (Text _)) = ⊥
WideParseReturns len lexemes (Err (Bytes place)) = WideStandsAt len lexemes place (UnsupportedAt bytes)
WideParseReturns len lexemes (Err (Double place)) = WideStandsAt len lexemes place (UnsupportedAt double)
WideParseReturns len lexemes (Err (Macro f)) = ⊥

-- the text has its tokens, and this holds of them
abbrev pub InTokens : List ℕ → (List WideToken → Type 0) → Type 0
InTokens source Holds = (lexemes : List WideToken) × WideLexes source (Ok lexemes) × Holds lexemes

-- the text's tokens form this expression with at most 100 open brackets and conditionals, and none of them is bytes or a
-- double; its macros are not tested
abbrev pub FormsWide : List ℕ → Wide → Type 0
FormsWide source w = InTokens source (λ lexemes. AreSupported (words_only lexemes) × IsWideExpression open_limit (words_only lexemes) w)

-- the text is this expression: its tokens form it, and no macro in it is invalid
abbrev pub IsWide : List ℕ → Wide → Type 0
IsWide source w = FormsWide source w × (fault w ≡ None)

-- the expression, unless a macro in it is invalid
abbrev pub unless_fault : CodeWide → Option MacroFault → Result CodeWide WideReadError
unless_fault e None = Ok e
unless_fault e (Some f) = Err (Macro f)

-- the expression that was read, unless a macro in it is invalid
abbrev pub tested : Result CodeWide WideReadError → Result CodeWide WideReadError
tested (Ok e) = unless_fault e (fault (view e))
tested (Err x) = Err x

-- What each result means for the text. An allocation can fail only for a text that is not refused before anything is
-- allocated.
abbrev pub WideReadReturns : List ℕ → Result CodeWide WideReadError → Type 0
WideReadReturns source (Ok e) = IsWide source (view e)
WideReadReturns source (Err (Macro f)) = (w : Wide) × FormsWide source w × (fault w ≡ Some f)
WideReadReturns source (Err (Bytes place)) = InTokens source (λ lexemes. WideStandsAt (length source) lexemes place (UnsupportedAt bytes))
WideReadReturns source (Err (Double place)) = InTokens source (λ lexemes. WideStandsAt (length source) lexemes place (UnsupportedAt double))
WideReadReturns source (Err (Text (UnexpectedToken place))) =
    InTokens source (λ lexemes. WideStandsAt (length source) lexemes place WideUnexpectedAt)
WideReadReturns source (Err (Text (TooManyOpen place))) = InTokens source (λ lexemes. WideStandsAt (length source) lexemes place WideDeepAt)
WideReadReturns source (Err (Text Memory)) = (length source ≤ text_limit) × WideTakesMemory true source
WideReadReturns source (Err (Text e)) = WideLexes source (Err e)
