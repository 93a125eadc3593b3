-- The nodes and the texts of a policy's parts, as the definitions have them.
use Rattle.std.specs.Prelude.{ℕ, List, [], Option}
use Rattle.std.specs.List.{flat_map}
use Rattle.std.specs.Option.{option_map_or}
use Rattle.cel_reader.specs.Tree.{Tree}
use Rattle.policy_code.specs.Limits.{part_nodes, tree_texts, validation_tree_texts}
use Rattle.policy_code.specs.Trees.{VariableTree, ValidationTree}

-- the nodes of a message expression, 0 if there is none
abbrev pub message_nodes : Option Tree → ℕ
message_nodes o = option_map_or part_nodes o 0

-- the texts of a message expression, if there is one
abbrev pub message_texts : Option Tree → List (List ℕ)
message_texts o = option_map_or tree_texts o []

-- the texts of all variables
abbrev pub variable_texts : List VariableTree → List (List ℕ)
variable_texts vs = flat_map (λ v. tree_texts v.expression) vs

-- the texts of all conditions
abbrev pub condition_texts : List Tree → List (List ℕ)
condition_texts conditions = flat_map tree_texts conditions

-- the texts of all validations
abbrev pub validation_texts : List ValidationTree → List (List ℕ)
validation_texts rs = flat_map validation_tree_texts rs
