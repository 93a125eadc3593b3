-- Proofs of `rows::selector_rows_stand`: the results meet the contract.

use Rattle.std.proofs.Common.{refl}
use Rattle.label_selectors.specs.Storing.{checked_label, checked_requirement, is_dns_label, is_label_key, is_label_value, is_name, is_prefix}
use Rattle.cluster_rows.proofs.rows.selector_rows_stand.Goals as goal

pub returns-clause-values : goal.returns-clause-values
unfolding checked_label checked_requirement is_dns_label is_label_key is_label_value is_name is_prefix
returns-clause-values c = record {
  first_capital = refl;
  last_capital = refl;
  before_capitals = refl;
  after_capitals = refl;
  first_small = refl;
  last_small = refl;
  before_small = refl;
  after_small = refl;
  first_digit = refl;
  last_digit = refl;
  before_digits = refl;
  after_digits = refl;
}

pub returns-clause-prefixes : goal.returns-clause-prefixes
unfolding checked_label checked_requirement is_dns_label is_label_key is_label_value is_name is_prefix
returns-clause-prefixes c = record {
  dash = refl;
  dash_in_the_second_part = refl;
  comma = refl;
  underscore = refl;
  dash_at_the_start = refl;
}

pub returns-clause-operators : goal.returns-clause-operators
unfolding checked_label checked_requirement is_dns_label is_label_key is_label_value is_name is_prefix
returns-clause-operators c = record {
  absence = refl;
}
