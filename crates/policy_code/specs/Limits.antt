-- The size limits of programs.
use Rattle.std.specs.Prelude.{ℕ, ◌+◌, ◌*◌, List, [], ◌++◌, fold, length, nat_lt, Option, Some, None, if◌then◌else◌}
use Rattle.std.specs.List.{sum_by, flat_map}
use Rattle.std.specs.Option.{option_map_or}
use Rattle.loader.specs.Limits.{constants_limit}
use Rattle.insn_codec.specs.Limits.{slot_limit}
use Rattle.expression_code.specs.Limits.{slots_per_node}
use Rattle.cel_reader.specs.Tree.{Tree}
use Rattle.cel_macros.specs.CoreTree.{expanded}
use Rattle.cel_measures.specs.Measures.{nodes}
use Rattle.tree_code.specs.Constants.{joined, with_text}
use Rattle.tree_code.specs.Code.Expressions.{texts_of}
pub use Rattle.verdicts.specs.Policy.{part_limit}
use Rattle.policy_code.specs.Trees.{ValidationTree, PolicyTree}
use Rattle.policy_code.specs.declared.program_error.ProgramError.{ProgramError, TheVariants.TooManyNodes, TheVariants.TooManyTextBytes}

-- ---- nodes: one for the policy, and for each part one and those of its expression

-- the nodes of a part: one, and those of its expression with its macros expanded
abbrev pub part_nodes : Tree → ℕ
part_nodes a = 1 + nodes (expanded a)

-- the nodes of a validation with its message expression
abbrev pub validation_nodes : ValidationTree → ℕ
validation_nodes r = part_nodes r.expression + option_map_or part_nodes r.message 0

-- the nodes of a whole policy
unfoldable pub policy_nodes : PolicyTree → ℕ
policy_nodes p =
    1 + sum_by (λ v. part_nodes v.expression) p.variables + sum_by part_nodes p.conditions + sum_by validation_nodes p.validations

-- ---- texts: field names and text literals, each once, in order of first use

-- the texts of an expression with its macros expanded
abbrev pub tree_texts : Tree → List (List ℕ)
tree_texts a = texts_of (expanded a)

-- the texts of a validation with its message expression
abbrev pub validation_tree_texts : ValidationTree → List (List ℕ)
validation_tree_texts r = tree_texts r.expression ++ option_map_or tree_texts r.message []

-- the texts of the whole policy, each once: of its variables, its conditions and its validations
unfoldable pub policy_texts : PolicyTree → List (List ℕ)
policy_texts p =
    fold with_text [] (flat_map (λ v. tree_texts v.expression) p.variables
    ++ (flat_map tree_texts p.conditions ++ flat_map validation_tree_texts p.validations))

-- ---- the limits

-- the limit that a policy passes: an image has `slot_limit` slots, `slots_per_node` for each node, and room for
-- `constants_limit` bytes of texts
abbrev pub limit_passed : PolicyTree → Option ProgramError
limit_passed p =
    if nat_lt slot_limit (slots_per_node * policy_nodes p) then Some TooManyNodes
    else (if nat_lt constants_limit (length (joined (policy_texts p))) then Some TooManyTextBytes
    else None)
