-- What the code returns for a pattern.
use Rattle.std.specs.Prelude.{◌≡◌, ◌≢◌, ℕ, ◌≤◌, ◌<◌, List, take, length, Result, Ok, Err}
use Rattle.std.specs.Str.{chars, encode_utf8_all}
use Rattle.regex.specs.Strings.{regex_source, regex_config, IsReadFromSource, IsDefaultFailure}
use Rattle.regex.specs.Patterns.{default_config}
use Rattle.regex.specs.declared.error.Error.{Error}
use Rattle.regex.specs.declared.error.Error.TheVariants.{Internal, OutOfMemory}
use Rattle.regex.specs.declared.string.regex.Regex.{Regex}
use Rattle.pattern_reader.specs.Flags.{flags_at}
use Rattle.pattern_reader.specs.Tree.{PatternTree}
use Rattle.pattern_reader.specs.Reading.{IsOutcome, taken, refused}
use Rattle.pattern_reader.specs.Written.{written}
use Rattle.pattern_reader.specs.declared.item.Item.{Item}
use Rattle.pattern_reader.specs.declared.purpose.Purpose.{Purpose}
use Rattle.pattern_reader.specs.declared.syntax.Syntax.{Syntax}
use Rattle.pattern_reader.specs.declared.pattern.Pattern.{Pattern}
use Rattle.pattern_reader.specs.declared.pattern_error.PatternError.{PatternError}
use Rattle.pattern_reader.specs.declared.pattern_error.PatternError.TheVariants.{Misfit, TooLong, NotCompiled, Memory}

-- the greatest length of a pattern in bytes
abbrev pub pattern_limit : ℕ
pattern_limit = 1024

-- the byte at which code point n begins
abbrev pub byte_at : List ℕ → ℕ → ℕ
byte_at points n = length (encode_utf8_all (take n points))

-- the flags and items of the pattern with these code points
abbrev pub IsSyntax : Purpose → List ℕ → Syntax → Type 0
IsSyntax purpose points s =
    (s.flags ≡ (flags_at points).0) × ((t : PatternTree) × IsOutcome purpose points (taken s.items.items t))

-- the pattern with these code points does not fit at this byte
abbrev pub IsMisfit : Purpose → List ℕ → ℕ → Type 0
IsMisfit purpose points byte = (n : ℕ) × (byte ≡ byte_at points n) × IsOutcome purpose points (refused n)

-- what is returned for these code points
abbrev pub SyntaxReturns : Purpose → List ℕ → Result Syntax PatternError → Type 0
SyntaxReturns purpose points (Ok s) = IsSyntax purpose points s
SyntaxReturns purpose points (Err (Misfit byte)) = IsMisfit purpose points byte
SyntaxReturns purpose points (Err TooLong) = ⊥
SyntaxReturns purpose points (Err (NotCompiled e)) = ⊥
SyntaxReturns purpose points (Err Memory) = Unit {0}

-- what is returned for a text
abbrev pub PatternReadReturns : Purpose → List ℕ → Result Syntax PatternError → Type 0
PatternReadReturns purpose text (Ok s) = (length text ≤ pattern_limit) × IsSyntax purpose (chars text) s
PatternReadReturns purpose text (Err (Misfit byte)) = (length text ≤ pattern_limit) × IsMisfit purpose (chars text) byte
PatternReadReturns purpose text (Err TooLong) = pattern_limit < length text
PatternReadReturns purpose text (Err (NotCompiled e)) = ⊥
PatternReadReturns purpose text (Err Memory) = length text ≤ pattern_limit

-- the text that is compiled for a pattern with these code points
abbrev pub IsWritten : Purpose → List ℕ → List ℕ → Type 0
IsWritten purpose points source =
    (items : List Item) × (t : PatternTree) × IsOutcome purpose points (taken items t)
    × (source ≡ written (flags_at points).0 items)

-- the compiled pattern is what the `regex` crate reads in this text, under its default options
abbrev pub IsCompiledPattern : List ℕ → Regex → Type 0
IsCompiledPattern source r = (regex_source r ≡ source) × (regex_config r ≡ default_config) × IsReadFromSource r

-- An error for a text that the `regex` crate does not compile: its grammar does not read it, it is nested too deep, or what
-- it compiles to is too large.
abbrev pub IsUncompiled : List ℕ → Error → Type 0
IsUncompiled source e = IsDefaultFailure source e × (e ≢ Internal) × (e ≢ OutOfMemory)

-- the compiled pattern
abbrev pub regex_of : Pattern → Regex
regex_of p = p.regex

-- what is returned for a text as a compiled pattern
abbrev pub PatternReturns : Purpose → List ℕ → Result Pattern PatternError → Type 0
PatternReturns purpose text (Ok p) =
    (length text ≤ pattern_limit)
    × ((source : List ℕ) × IsWritten purpose (chars text) source × IsCompiledPattern source (regex_of p))
PatternReturns purpose text (Err (Misfit byte)) = (length text ≤ pattern_limit) × IsMisfit purpose (chars text) byte
PatternReturns purpose text (Err TooLong) = pattern_limit < length text
PatternReturns purpose text (Err (NotCompiled e)) =
    (length text ≤ pattern_limit)
    × ((source : List ℕ) × IsWritten purpose (chars text) source × IsUncompiled source e)
PatternReturns purpose text (Err Memory) = length text ≤ pattern_limit

-- what compiling a text returns
abbrev pub CompileReturns : List ℕ → Result Pattern PatternError → Type 0
CompileReturns source (Ok p) = IsCompiledPattern source (regex_of p)
CompileReturns source (Err (Misfit byte)) = ⊥
CompileReturns source (Err TooLong) = ⊥
CompileReturns source (Err (NotCompiled e)) = IsUncompiled source e
CompileReturns source (Err Memory) = Unit {0}
