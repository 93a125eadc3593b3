-- Loop invariants of `unsupported` (src/source.rt).
use Rattle.wide_reader.proofs.Prelude.{◌≡◌, drop}
use Rattle.wide_reader.specs.Place.{unsupported_in}
use Rattle.wide_reader.proofs.source.unsupported.Given as goal

abbrev pub invariant-loop-token : goal.invariant-loop-token
invariant-loop-token l = unsupported_in l.tokens ≡ unsupported_in (drop l.token-index l.tokens)
