-- Proof obligations of `escapes` (src/laws.rt).
use Rattle.cel_tokens.proofs.NamedEscapes.{names_its_code_point}
use Rattle.cel_tokens.proofs.laws.escapes.Goals as goal

pub returns : goal.returns
returns c = names_its_code_point
