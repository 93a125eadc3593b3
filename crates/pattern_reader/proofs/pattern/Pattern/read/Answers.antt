-- Proof obligations of `Pattern::read` (src/pattern.rt).
use Rattle.std.proofs.Common.{◌∙◌}
use Rattle.pattern_reader.proofs.Compiled.{compiled_returns}
use Rattle.pattern_reader.proofs.pattern.Pattern.read.Goals as goal

pub returns : goal.returns
returns c =
    compiled_returns c.args.purpose c.args.text.now c.in_ok-syntax.syntax c.as_str.result.now c.compiled.result
    c.in_ok-syntax.ensures (c.as_str.ensures.value ∙ c.in_ok-source.ensures) c.compiled.ensures
