-- Proofs of `emission::variable`: the result meets the contract.

use Rattle.codegen.proofs.Prelude.{arith, core_view}
use Rattle.codegen.proofs.Layer.{emits_routine}
use Rattle.codegen.proofs.emission.variable.Goals as goal

pub returns-clause-joins : goal.returns-clause-joins
returns-clause-joins c = emits_routine c.args.emitter.now c.args.scope.now (core_view c.args.core.now) (omega (arith, c.need.ensures)) c.in_ok-add.ensures.literals
