-- Proof obligations of `helper_rows_stand` (src/rows.rt).
use Rattle.std.proofs.Common.{arith, rules}
use Rattle.helper_table.specs.Calls.{row_of}
use Rattle.helper_table.specs.Comparisons.{contains_row}
use Rattle.helper_table.specs.Numbers.{of_number}
use Rattle.machine_rows.proofs.rows.helper_rows_stand.Goals as goal

pub returns-clause-bounds : goal.returns-clause-bounds
returns-clause-bounds c = record {
  null_by_none = search rules;
  truth_by_none = search rules;
  greatest_int = search rules;
  past_the_greatest = λ h. grind (arith, h);
  least_int = search rules;
  past_the_least = λ h. grind (arith, h);
  text_by_its_bytes = search rules;
  text_by_fewer = λ h. grind (arith, h);
  list_by_its_items = search rules;
  list_by_fewer = λ h. grind (arith, h);
  list_with_a_long_first = λ h. grind (arith, h);
  list_with_a_long_second = λ h. grind (arith, h);
  map_by_its_entries = search rules;
  map_by_fewer = λ h. grind (arith, h);
  map_with_a_long_key = λ h. grind (arith, h);
  map_with_a_long_first = λ h. grind (arith, h);
  map_with_a_long_second = λ h. grind (arith, h);
  error_by_none = search rules;
  value_by_its_bytes = search rules;
  value_by_fewer = λ h. grind (arith, h);
}

pub returns-clause-calls : goal.returns-clause-calls
unfolding of_number row_of contains_row
returns-clause-calls c = search rules
