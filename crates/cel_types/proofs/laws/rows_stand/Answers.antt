-- Proofs of `laws::rows_stand`: the result meets the contract.

use Rattle.cel_types.proofs.Prelude.{refl, is_root, function_named, test_named, macro_named, is_map, is_has, is_variables, name_type, variable_type, typing}
use Rattle.cel_types.proofs.laws.rows_stand.Goals as goal

pub returns : goal.returns
unfolding is_root function_named test_named macro_named is_map is_has is_variables name_type variable_type typing
returns c = record { order_of_truth_and_int = refl; order_of_truths = refl; map_by_int = refl; root_by_int = refl; root_by_truth = refl; equal_kinds = refl; equal_dyn = refl; predicate_of_int = refl; transform = refl; has_field = refl; unknown = refl; bare_variables = refl; variables_as_item = refl; variables_by_key = refl; has_of_variable = refl; variable_known = refl; variable_unknown = refl; sum_of_kinds = refl; sum_with_dyn = refl; sum_of_dyn = refl; sum_with_null = refl; sum_with_map = refl; order_with_null = refl; int_in_map = refl; null_in_root = refl; branches_of_kinds = refl; branches_with_dyn = refl; part_before_node = refl; unknown_function = refl; test_of_int = refl; value_before_key_kind = refl; int_key = refl; string_of_truth = refl; size_method = refl; string_method = refl; dyn_method = refl; size_of_list = refl; size_of_map = refl; size_of_int = refl; sum_of_lists = refl; sum_of_texts = refl; sum_of_truths = refl; difference_of_ints = refl; difference_of_texts = refl; not_of_truth = refl; not_of_int = refl; negative_of_dyn = refl; negative_of_truth = refl; or_of_truths = refl; and_of_truths = refl; or_of_int = refl; and_of_int = refl; order_of_texts = refl; order_of_lists = refl; equal_nulls = refl; list_by_int = refl; list_by_text = refl; map_by_text = refl; text_by_int = refl; int_in_list = refl; text_in_map = refl; int_in_text = refl; has_of_map = refl; has_of_list = refl; field_of_map = refl; field_of_list = refl; int_as_condition = refl; string_of_int = refl; string_of_text = refl; dyn_of_null = refl; test_of_texts = refl; all_of_truth = refl; exists_of_truth = refl; exists_one_of_truth = refl; filter_of_truth = refl; exists_of_int = refl; exists_one_of_int = refl; filter_of_int = refl; all_of_map = refl; all_of_text = refl }
