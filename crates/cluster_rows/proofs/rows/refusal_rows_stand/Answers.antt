-- Proofs of `rows::refusal_rows_stand`: the results meet the contract.

use Rattle.std.proofs.Common.{refl}
use Rattle.cluster_rows.proofs.rows.refusal_rows_stand.Goals as goal

pub returns : goal.returns
returns c = record {
  program = refl;
  text_of_an_expression = refl;
  macros_of_an_expression = refl;
  expression_itself = refl;
  compilation = refl;
  policy = refl;
  review = refl;
}
