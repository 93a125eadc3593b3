-- Proof obligations of `value_rows_stand` (src/rows.rt).
use Rattle.std.proofs.Common.{arith, refl, rules}
use Rattle.machine_rows.proofs.rows.value_rows_stand.Goals as goal

pub returns-clause-equality : goal.returns-clause-equality
returns-clause-equality c = search rules

pub returns-clause-sizes : goal.returns-clause-sizes
returns-clause-sizes c = search rules

pub returns-clause-outlines : goal.returns-clause-outlines
returns-clause-outlines c = record {
  of_error = refl;
  of_null = refl;
  of_truth = refl;
  of_int = refl;
  of_text = refl;
  of_list = refl;
  of_map = refl;
  parts_of_list = refl;
  parts_of_map = refl;
  parts_of_text = refl;
  one_item = refl;
  error_at_0 = search rules;
  error_elsewhere = λ h. grind (arith, h);
  falsehood_at_2 = search rules;
  falsehood_elsewhere = λ h. grind (arith, h);
  truth_at_3 = search rules;
  truth_elsewhere = λ h. grind (arith, h);
  null_anywhere = search rules;
}

pub returns-clause-documents : goal.returns-clause-documents
returns-clause-documents c = search rules
