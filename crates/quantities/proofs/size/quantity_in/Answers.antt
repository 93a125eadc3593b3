-- Proofs of `size::quantity_in`: the result meets the contract.
use Rattle.std.proofs.Common.{arith}
use Rattle.std.proofs.lemmas.Int.{ints}
use Rattle.quantities.specs.Quantities.{spelled_view}
use Rattle.quantities.proofs.Made.{made_is}
use Rattle.quantities.proofs.size.quantity_in.Goals as goal

pub returns : goal.returns
returns c =
    made_is (spelled_view c.args.spelled.now) c.mantissa-mantissa.result c.size-size.result _ c.made.result c.mantissa-mantissa.ensures c.size-size.ensures c.made.ensures
    (omega (arith, ints))
