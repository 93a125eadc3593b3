-- Proof obligations of `signed_ints` (src/laws.rt).
use Rattle.cel_tokens.proofs.NegatedInts.{plain_minus, negated_int, wide_int}
use Rattle.cel_tokens.proofs.PrefixPositions.{has_prefix_position}
use Rattle.cel_tokens.proofs.laws.signed_ints.Goals as goal

pub returns : goal.returns
returns c = record { prefix = has_prefix_position; plain = plain_minus; negated = negated_int; wide = wide_int }
