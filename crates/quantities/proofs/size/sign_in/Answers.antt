-- Proofs of `size::sign_in`: the result meets the contract.
use Rattle.std.proofs.Common.{arith}
use Rattle.quantities.specs.Quantities.{spelled_view}
use Rattle.quantities.proofs.Signs.{sign_minus, sign_plus, sign_zero}
use Rattle.quantities.proofs.size.sign_in.Goals as goal

pub returns-then-mantissa-eq0 : goal.returns-then-mantissa-eq0
returns-then-mantissa-eq0 c = sign_zero (spelled_view c.args.spelled.now) c.mantissa.result c.mantissa.ensures (omega arith)

pub returns-then-spelled : goal.returns-then-spelled
returns-then-spelled c = sign_minus (spelled_view c.args.spelled.now) c.mantissa.result c.mantissa.ensures (omega arith) c.if-spelled.true

pub returns-else-spelled : goal.returns-else-spelled
returns-else-spelled c = sign_plus (spelled_view c.args.spelled.now) c.mantissa.result c.mantissa.ensures (omega arith) c.if-spelled.false
