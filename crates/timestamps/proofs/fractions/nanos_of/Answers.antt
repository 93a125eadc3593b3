-- Proofs of `fractions::nanos_of`: digits beyond nine are cut.
use Rattle.timestamps.proofs.Nanos.{are_some, cut_digits}
use Rattle.timestamps.proofs.fractions.nanos_of.Goals as goal

pub nanos_in-requires-clause-digits : goal.nanos_in-requires-clause-digits
nanos_in-requires-clause-digits c = are_some c.args.digits.now c.split_at-halves.result.0.now c.min-len.result c.requires c.split_at-halves.ensures.front

pub returns : goal.returns
returns c =
    cut_digits c.args.digits.now c.split_at-halves.result.0.now c.min-len.result c.nanos_in.result c.min-len.ensures c.split_at-halves.ensures.front c.nanos_in.ensures
