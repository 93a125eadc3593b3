-- Proofs of `rows::line_rows_stand`: the results meet the contract.

use Rattle.std.proofs.Common.{refl}
use Rattle.cluster_rows.proofs.rows.line_rows_stand.Goals as goal

pub returns : goal.returns
returns c = record {
  empty = refl;
  all_three = refl;
  space = refl;
  before_space = refl;
  after_space = refl;
  tab = refl;
  before_tab = refl;
  line_feed = refl;
  carriage_return = refl;
  before_carriage_return = refl;
  after_carriage_return = refl;
  blank_and_more = refl;
  more_and_blank = refl;
  ended = refl;
}
