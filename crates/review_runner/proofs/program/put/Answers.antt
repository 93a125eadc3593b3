-- Proofs of `program::put`: the result meets the contract.

use Rattle.review_runner.proofs.Programs.{is_none, is_some, puts_all, puts_none}
use Rattle.review_runner.proofs.program.put.Goals as goal

pub returns-then-is_empty : goal.returns-then-is_empty
returns-then-is_empty g c = puts_none _ _ (is_none _ _ c.is_empty.ensures c.if-is_empty.true)

pub returns : goal.returns
returns g c = puts_all _ _ _ _ (is_some _ _ c.is_empty.ensures c.if-is_empty.false) c.write_all.ensures.whole c.write_all.ensures.ok c.write_all.ensures.part c.write_all.ensures.err
