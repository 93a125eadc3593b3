-- Proof obligations of `rows_stand` (src/laws.rt).
use Rattle.std.specs.Fmt.{digits}
use Rattle.cel_macros.proofs.Prelude.{is_root, name_value, variable_value, function_named, test_named, macro_named, is_map, is_has, is_variables, meaning, macro_fault}
use Rattle.cel_macros.proofs.laws.rows_stand.Goals as goal

pub returns : goal.returns
unfolding digits is_root name_value variable_value function_named test_named macro_named is_map is_has is_variables meaning macro_fault
returns c = search
