-- Proofs of `rows::refusal_rows_stand`: the result meets the contract.

use Rattle.std.proofs.Common.{rules}
use Rattle.std.specs.Fmt.{digits}
use Rattle.cli.proofs.rows.refusal_rows_stand.Goals as goal

pub returns-clause-lines : goal.returns-clause-lines
unfolding digits
returns-clause-lines c = search rules

pub returns-clause-expressions : goal.returns-clause-expressions
unfolding digits
returns-clause-expressions c = search rules

pub returns-clause-causes : goal.returns-clause-causes
returns-clause-causes c = search rules
