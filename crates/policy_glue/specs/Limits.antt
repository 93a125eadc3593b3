-- The size limits of policies, and which policies compile.
use Rattle.std.specs.Prelude.{◌≡◌, ◌*◌, length, nat_lt, Option, Some, None, Result, Ok, Err, if◌then◌else◌}
use Rattle.loader.specs.Limits.{constants_limit}
use Rattle.insn_codec.specs.Limits.{slot_limit}
use Rattle.expression_code.specs.Limits.{slots_per_node}
use Rattle.tree_code.specs.Constants.{joined}
use Rattle.policy_code.specs.Trees.{PolicyTree}
use Rattle.policy_glue.specs.Checking.{PartsEnd}
use Rattle.verdicts.specs.Policy.{Policy}
use Rattle.policy_glue.specs.declared.compile_error.CompileError.{CompileError, TheVariants.TooManyNodes, TheVariants.TooManyTextBytes}
pub use Rattle.policy_code.specs.Limits.{part_nodes, tree_texts, validation_nodes, validation_tree_texts}
unfoldable pub use Rattle.policy_code.specs.Limits.{policy_nodes, policy_texts}

-- the limit that a policy exceeds: an image has `slot_limit` slots, `slots_per_node` for each node, and room for
-- `constants_limit` bytes of texts
abbrev pub excess : PolicyTree → Option CompileError
excess p =
    if nat_lt slot_limit (slots_per_node * policy_nodes p) then Some TooManyNodes
    else (if nat_lt constants_limit (length (joined (policy_texts p))) then Some TooManyTextBytes
    else None)

-- the trees of a policy that compiles, or why it does not
pub data Compiles (p : Policy) : Result PolicyTree CompileError → Type 0 where
  refused : (e : CompileError) → PartsEnd p (Err e) → Compiles p (Err e)
  too_large : (t : PolicyTree) (e : CompileError) → PartsEnd p (Ok t) → excess t ≡ Some e → Compiles p (Err e)
  compiled : (t : PolicyTree) → PartsEnd p (Ok t) → excess t ≡ None → Compiles p (Ok t)
