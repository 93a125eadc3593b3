-- Repetitions of one operator before an operand.
use Rattle.std.specs.Prelude.{◌≡◌, List, ◌∷◌, Bool, not}
use Rattle.wide_tokens.specs.Token.{WideWord, mark}
use Rattle.cel_reader.specs.Words.{unary_mark}
use Rattle.cel_reader.specs.declared.operator.UnaryOperator.{UnaryOperator}
use Rattle.wide_reader.specs.Look.{at, WideIsNotNext}

-- after an odd number of operators if `odd`, the words begin with some more, followed by `rest`, which does not begin
-- with one; `last`: the number of all of them is odd
pub data WidePrefixes : UnaryOperator → (odd last : Bool) → List WideWord → List WideWord → Type 0 where
  none : {op : UnaryOperator} {odd : Bool} {ws : List WideWord} → WideIsNotNext (at (unary_mark op)) ws → WidePrefixes op odd odd ws ws
  one_more : {op : UnaryOperator} {odd last : Bool} {ws us rest : List WideWord} → ws ≡ mark (unary_mark op) ∷ us
      → WidePrefixes op (not odd) last us rest → WidePrefixes op odd last ws rest
