-- What is proved of the code of expressions as lists of instructions.
use Rattle.std.specs.Prelude.{◌≡◌, ℕ, ◌+◌, ◌*◌, ◌≤◌, Bool, List, [], ◌∷◌, ◌++◌, length}
use Rattle.std.specs.Prelude.{map as each}
use Rattle.expression_code.specs.Limits.{part_slots_per_node, memo_limit, budget_reserve}
use Rattle.insn_codec.specs.declared.insn.Insn.{Insn}
use Rattle.loader.specs.Contents.{Image}
use Rattle.loader.specs.Limits.{constants_limit}
use Rattle.value_store.specs.Value.{Value}
use Rattle.cel_macros.specs.CoreTree.{Core, plain_tree}
use Rattle.cel_macros.specs.Environment.{Roots}
use Rattle.cel_macros.specs.Meaning.{meaning}
use Rattle.cel_measures.specs.Measures.{nodes}
use Rattle.cel_types.specs.CoreTyping.{core_typing}
use Rattle.cel_types.specs.Declarations.{Declaration, scope_of}
use Rattle.cel_types.specs.Types.{typed}
use Rattle.cel_types.specs.declared.cel_type.CelType.{CelType}
use Rattle.expression_code.specs.CpuState.{CpuState}
use Rattle.expression_code.specs.Engine.{RunsTo, RunContext}
use Rattle.expression_code.specs.Paths.{FrameUse, nothing_kept}
use Rattle.expression_code.specs.Pieces.{IsCodeAt, size}
use Rattle.expression_code.specs.Scopes.{IsScope, Variable, scope_setting}
use Rattle.tree_code.specs.Accepted.{IsAccepted}
use Rattle.tree_code.specs.Computes.{Computes, Ready, TextsStand, environment_in, routines, scope_context, variable_of}
use Rattle.tree_code.specs.Constants.{joined, with_texts}
use Rattle.tree_code.specs.Cost.{cost}
use Rattle.tree_code.specs.HasLiterals.{HasLiterals}
use Rattle.tree_code.specs.Code.Expressions.{code_of}
use Rattle.tree_code.specs.Code.Whole.{passed, plain_code, routine_code, whole_code}

-- the code of a part has at most 63 slots for each node, less 8; so jumps in the code of 512 nodes fit 16 bits
abbrev pub CodeIsShort : Type 0
CodeIsShort = (e : Core) (texts : List (List ℕ)) (routines : List (List ℕ × ℕ)) (words : FrameUse) (k p : ℕ)
    → size (code_of e texts routines words k p) + budget_reserve ≤ part_slots_per_node * nodes e

-- the code of a whole expression is not longer than the code without a kept path
abbrev pub WholeIsShort : Type 0
WholeIsShort = (e : Core) (texts : List (List ℕ)) (routines : List (List ℕ × ℕ)) (p : ℕ)
    → size (whole_code e texts routines p) ≤ size (plain_code e texts routines p)

-- each expression that the type checker accepts in a scope has code there
abbrev pub TypedIsAccepted : Type 0
TypedIsAccepted = (e : Core) (declared : List Declaration) (t : CelType) → core_typing e (scope_of declared) ≡ typed t
    → IsAccepted e (each (λ d. d.name) declared)

-- At any slot, the code of an expression that may use the variables of a scope gives the expression's value. It takes
-- at most 128 steps a visit and 16 times the cost, plus the first uses of variables; or it is stopped because the
-- charge would pass the limit or a value may be too deep. Variables after the scope may exist; their first uses do
-- not count.
abbrev pub CodeGives : Type 0
CodeGives =
    (image : Image) (deep : Bool) (roots : Roots) (constants : List ℕ) (scope later : List Variable) (texts : List (List ℕ))
    (items : List (List ℕ × Value)) (words : FrameUse) (depth k p : ℕ) (e : Core)
    → IsScope image deep roots constants scope → length scope ≤ memo_limit → HasLiterals (plain_tree e)
    → let s = scope_setting image deep scope in let c = scope_context roots items words constants (scope ++ later) in
    let env = environment_in roots items scope in
    Ready s scope texts c depth k e (cost (plain_tree e) env).is_deep
    → Computes s p (code_of e texts (routines scope) words k p) c depth k (meaning (plain_tree e) env) (cost (plain_tree e) env)

-- if the image has the routine of an expression that may use the first variables of a scope, the scope with its
-- variable added is a scope
abbrev pub RoutineGives : Type 0
RoutineGives =
    (image : Image) (deep : Bool) (roots : Roots) (constants : List ℕ) (scope later : List Variable) (texts : List (List ℕ))
    (name : List ℕ) (p : ℕ) (e : Core)
    → IsScope image deep roots constants (scope ++ later) → length scope ≤ memo_limit → HasLiterals (plain_tree e)
    → let s = scope_setting image deep (scope ++ later) in let c = scope_context roots [] nothing_kept constants (scope ++ later) in
    Ready s scope texts c 1 0 e (cost (plain_tree e) (environment_in roots [] scope)).is_deep
    → IsCodeAt image.code p (routine_code e texts (routines scope) (length (scope ++ later)) p)
    → IsScope image deep roots constants ((scope ++ later) ++ variable_of roots scope texts name e p ∷ [])

-- the texts that an expression uses, once added, stay at the addresses that its code uses, even if more are added later
abbrev pub TextsStay : Type 0
TextsStay = (texts used later : List (List ℕ)) → length (joined (with_texts (with_texts texts used) later)) ≤ constants_limit
    → TextsStand (joined (with_texts (with_texts texts used) later)) (with_texts texts used) used

-- from the jump before a routine the machine reaches the slot after the routine in one step that changes nothing else
abbrev pub RoutineIsPassed : Type 0
RoutineIsPassed = (s : RunContext) (p : ℕ) (piece : List Insn) (b : CpuState) → IsCodeAt s.image.code p (passed piece)
    → RunsTo s 1 0 p b (p + size (passed piece)) (λ new. new ≡ b)
