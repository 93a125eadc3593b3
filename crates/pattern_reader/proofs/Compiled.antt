-- Compiling what was written of a pattern.
use Rattle.std.proofs.Common.{◌≡◌, ℕ, List, Result, Ok, Err, ap, ◌∙◌}
use Rattle.std.specs.Str.{chars}
use Rattle.pattern_reader.specs.Patterns.{PatternReadReturns, PatternReturns, CompileReturns, IsWritten}
use Rattle.pattern_reader.specs.Written.{written}
use Rattle.pattern_reader.specs.declared.flags.Flags.{Flags}
use Rattle.pattern_reader.specs.declared.purpose.Purpose.{Purpose}
use Rattle.pattern_reader.specs.declared.syntax.Syntax.{Syntax}
use Rattle.pattern_reader.specs.declared.pattern.Pattern.{Pattern}
use Rattle.pattern_reader.specs.declared.pattern_error.PatternError.{PatternError}
use Rattle.pattern_reader.specs.declared.pattern_error.PatternError.TheVariants.{Misfit, TooLong, NotCompiled, Memory}

-- the text that is written of a pattern that was read
is_written : (purpose : Purpose) (text : List ℕ) (s : Syntax) (source : List ℕ) → PatternReadReturns purpose text (Ok s)
    → source ≡ written s.flags s.items.items → IsWritten purpose (chars text) source
is_written purpose text s source h e =
    (s.items.items, h.1.1.0, h.1.1.1, e ∙ ap (λ (f : Flags). written f s.items.items) h.1.0)

pub compiled_returns : (purpose : Purpose) (text : List ℕ) (s : Syntax) (source : List ℕ) (r : Result Pattern PatternError)
    → PatternReadReturns purpose text (Ok s) → source ≡ written s.flags s.items.items → CompileReturns source r → PatternReturns purpose text r
compiled_returns purpose text s source (Ok p) h e k = (h.0, (source, is_written purpose text s source h e, k))
compiled_returns purpose text s source (Err (Misfit byte)) h e k = absurd k
compiled_returns purpose text s source (Err TooLong) h e k = absurd k
compiled_returns purpose text s source (Err (NotCompiled error)) h e k = (h.0, (source, is_written purpose text s source h e, k))
compiled_returns purpose text s source (Err Memory) h e k = h.0
