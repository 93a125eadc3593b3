-- Proofs of `rows::depth_rows_stand`: the result meets the contract.

use Rattle.std.proofs.Common.{refl}
use Rattle.wide_policy.specs.Depth.{depth}
use Rattle.cluster_rows.proofs.rows.depth_rows_stand.Goals as goal

pub returns : goal.returns
unfolding depth
returns c = record {
  number = refl;
  root = refl;
  field = refl;
  index = refl;
  indexed = refl;
  tested = refl;
  negation = refl;
  left_sum = refl;
  right_sum = refl;
  condition = refl;
  chosen = refl;
  other = refl;
  no_list = refl;
  list = refl;
  no_map = refl;
  key = refl;
  entry = refl;
  range = refl;
  predicate = refl;
  filtered = refl;
  filter = refl;
  pairs = refl;
  filtered_pairs = refl;
  of_optional = refl;
  call = refl;
  arguments = refl;
  method = refl;
  argument = refl;
  limit = refl;
  above = refl;
  code = refl;
  place = refl;
}
