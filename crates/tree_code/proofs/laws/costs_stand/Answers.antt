-- Proofs of `laws::costs_stand`: the result meets the contract.

use Rattle.tree_code.proofs.Prelude.{refl, name_value, variable_value, function_named, test_named, macro_named, is_map, is_has, is_variables, meaning, cost}
use Rattle.tree_code.proofs.laws.costs_stand.Goals as goal

pub returns : goal.returns
unfolding name_value variable_value function_named test_named macro_named is_map is_has is_variables meaning cost
returns c = record { policy_work = refl; policy_spent = refl; both_sides_of_and = refl; both_sides_of_or = refl; chosen_branch = refl; other_branch = refl; no_branch = refl; every_item = refl; every_key = refl; chosen_items = refl; every_transform = refl; no_range = refl; has_spent = refl; shallow_text = refl; shallow_selection = refl; text_spent = refl; variable_spent = refl; index_spent = refl; error_spent = refl; items_spent = refl; transform_spent = refl; method_spent = refl; not_yet_deep = refl; deep = refl; deep_inside = refl; deep_entry = refl; deep_in_error = refl; deep_transform = refl; deep_transform_not_kept = refl; deep_item = refl; deep_item_not_kept = refl; nothing_kept = refl }
