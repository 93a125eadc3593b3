-- The laws of the grammar.
use Rattle.std.specs.Prelude.{◌≡◌, ◌≢◌, ◌≤◌, ℕ, List, Result, Ok, Err}
use Rattle.cel_tokens.specs.declared.read_error.ReadError.TheVariants.{Memory}
use Rattle.wide_tokens.specs.Token.{WideWord}
use Rattle.wide_reader.specs.Tree.{Wide, view}
use Rattle.wide_reader.specs.Answers.{IsWideExpression, IsWide, WideReadReturns}
use Rattle.wide_reader.specs.declared.wide.Wide.{Wide as CodeWide}
use Rattle.wide_reader.specs.declared.wide_error.WideReadError.{WideReadError, TheVariants.Text}

-- words are at most one expression, for any number of open brackets and conditionals
abbrev pub HasOneWideTree : Type 0
HasOneWideTree = (room other : ℕ) (ws : List WideWord) (a b : Wide) → IsWideExpression room ws a → IsWideExpression other ws b → a ≡ b

-- words that are an expression are the same one if more may be open
abbrev pub WideKeepsWithMoreRoom : Type 0
WideKeepsWithMoreRoom =
    (room more : ℕ) (ws : List WideWord) (a : Wide) → room ≤ more → IsWideExpression room ws a → IsWideExpression more ws a

-- a text is at most one expression
abbrev pub HasOneWide : Type 0
HasOneWide = (source : List ℕ) (a b : Wide) → IsWide source a → IsWide source b → a ≡ b

-- the tree of a result, or its error
abbrev pub wide_of : Result CodeWide WideReadError → Result Wide WideReadError
wide_of (Ok e) = Ok (view e)
wide_of (Err e) = Err e

-- two results for a text other than allocation failures are the same tree, or the same error with the same position
abbrev pub HasOneWideResult : Type 0
HasOneWideResult =
    (source : List ℕ) (r s : Result CodeWide WideReadError) → r ≢ Err (Text Memory) → s ≢ Err (Text Memory)
    → WideReadReturns source r → WideReadReturns source s → wide_of r ≡ wide_of s
