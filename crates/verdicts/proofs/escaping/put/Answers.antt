-- Proofs of `escaping::put`: a byte that is its own escape.

use Rattle.std.proofs.Common.{arith}
use Rattle.verdicts.proofs.Escapes.{byte_put}
use Rattle.verdicts.proofs.escaping.put.Goals as goal

pub returns-then-is_plain-clause-items : goal.returns-then-is_plain-clause-items
returns-then-is_plain-clause-items c = byte_put c.args.text.now c.args.end _ (omega arith) (omega arith) c.if-is_plain.ensures
