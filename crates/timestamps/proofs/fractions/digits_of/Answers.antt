-- Proofs of `fractions::digits_of`: what it takes are digits.
use Rattle.timestamps.proofs.Nanos.{are_first}
use Rattle.timestamps.proofs.fractions.digits_of.Goals as goal

pub nanos_of-requires : goal.nanos_of-requires
nanos_of-requires c =
    are_first c.args.text.now c.split_at-halves.result.0.now c.digits_len-len.result c.digits_len-len.ensures.len c.split_at-halves.ensures.front
