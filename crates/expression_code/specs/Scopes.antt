-- The variables of a scope with their routines. A variable may use the earlier ones.
-- For `tree_code/src/code/variables.rt`; proofs in `proofs/Scopes`, `proofs/Returns` and `proofs/Later`.
use Rattle.std.specs.Prelude.{◌≡◌, ℕ, suc, ◌+◌, ◌<◌, ◌≤◌, ℤ, pos, ◌+ℤ◌, Bool, List, [], ◌∷◌, ◌++◌, length, Option, Some, None, slice_get}
use Rattle.std.specs.Prelude.{bytes_eq, option_map, if◌then◌else◌}
use Rattle.std.specs.Prelude.{map as each}
use Rattle.bpf_machine.specs.Limits.{record_limit}
use Rattle.insn_codec.specs.declared.insn.Insn.{Insn}
use Rattle.insn_codec.specs.declared.register.Register.TheVariants.{R0}
use Rattle.loader.specs.Contents.{Image}
use Rattle.value_store.specs.Value.{Value, ValueOrError}
use Rattle.cel_macros.specs.Environment.{Roots, variable_value}
use Rattle.expression_code.specs.Limits.{word_limit, memo_limit}
use Rattle.expression_code.specs.CpuState.{CpuState}
use Rattle.expression_code.specs.Calls.{entered}
use Rattle.expression_code.specs.Contexts.{Context, IsWellFormedState, Evaluates, LeavesValue}
use Rattle.expression_code.specs.Engine.{RunsToWith, RunContext}
use Rattle.expression_code.specs.FirstUses.{FirstUse}
use Rattle.expression_code.specs.Paths.{FrameUse}
use Rattle.expression_code.specs.Pieces.{IsCodeAt}
use Rattle.expression_code.specs.Variables.{memo_tail, routine_context, use_code, used_context, with_variables}
use Rattle.expression_code.specs.Words.{memo_at}

-- a variable: its name, its value or error, the slot and the code of its routine, the largest number of frames that a
-- use opens, including its own, and the cost of its value
pub record Variable : Type 0 where
  pub name : List ℕ
  pub value : ValueOrError
  pub routine : ℕ
  pub body : List Insn
  pub nesting : ℕ
  pub steps : ℕ
  pub charge : ℕ

-- the values of the names
abbrev pub bindings : List Variable → List (List ℕ × ValueOrError)
bindings = each (λ v. (v.name, v.value))

-- the steps of each variable's first use: at most 9 more than those of its value, for the call, the memo and the exit
abbrev pub first_steps : List Variable → List ℕ
first_steps = each (λ v. v.steps + 9)

-- the charge of each variable's first use
abbrev pub first_charges : List Variable → List ℕ
first_charges = each (λ v. v.charge)

-- the first use of a variable
abbrev pub first_use : Variable → FirstUse
first_use v = record { routine = v.routine; steps = v.steps + 9; charge = v.charge }

-- the run context in which these variables may be used
abbrev pub scope_setting : Image → Bool → List Variable → RunContext
scope_setting image deep scope = with_variables image deep (each first_use scope)

-- the routine of the variable after these is in the image, and evaluates to its value in their run context if there
-- are enough frames
pub record HasRoutine (image : Image) (deep : Bool) (roots : Roots) (constants : List ℕ)
    (before : List Variable) (v : Variable) : Type 0 where
  pub stands : IsCodeAt image.code v.routine (v.body ++ memo_tail (length before))
  pub opens : 1 ≤ v.nesting
  pub gives : (depth : ℕ) → depth + v.nesting ≤ record_limit
      → Evaluates (scope_setting image deep before) v.routine v.body (routine_context roots (bindings before) constants) (depth + 1) 0
      v.value v.steps v.charge

-- each variable of a scope has its routine
abbrev pub IsScope : Image → Bool → Roots → List ℕ → List Variable → Type 0
IsScope image deep roots constants scope =
    (before later : List Variable) (v : Variable) → scope ≡ before ++ v ∷ later → HasRoutine image deep roots constants before v

-- the place of the first variable with this name
abbrev pub place_named : List ℕ → List Variable → Option ℕ
place_named n [] = None
place_named n (v ∷ more) = if bytes_eq v.name n then Some 0 else option_map suc (place_named n more)

-- the use of a variable, found by its name, gives the variable's value if there are enough frames; 5 steps are its
-- own
abbrev pub ScopeGives : Type 0
ScopeGives =
    (image : Image) (deep : Bool) (roots : Roots) (constants : List ℕ) (scope : List Variable) (words : FrameUse)
    (items : List (List ℕ × Value)) (name : List ℕ) (i : ℕ) (v : Variable) (p depth base : ℕ) (offset : ℤ)
    → IsScope image deep roots constants scope → length scope ≤ memo_limit → base ≤ word_limit
    → place_named name scope ≡ Some i → slice_get scope i ≡ Some v → depth + v.nesting ≤ record_limit
    → pos (p + 5) +ℤ pos 1 +ℤ offset ≡ pos v.routine
    → Evaluates (scope_setting image deep scope) p (use_code i offset)
    (used_context roots items words constants (bindings scope)) depth base (variable_value name (bindings scope)) 5 0

-- the empty list of variables is a scope
abbrev pub NoScope : Type 0
NoScope = (image : Image) (deep : Bool) (roots : Roots) (constants : List ℕ) → IsScope image deep roots constants []

-- the first variables of a scope are a scope
abbrev pub ScopeBegins : Type 0
ScopeBegins = (image : Image) (deep : Bool) (roots : Roots) (constants : List ℕ) (scope more : List Variable)
    → IsScope image deep roots constants (scope ++ more) → IsScope image deep roots constants scope

-- a scope with one more variable, which may use the earlier ones, is a scope
abbrev pub ScopeGrows : Type 0
ScopeGrows = (image : Image) (deep : Bool) (roots : Roots) (constants : List ℕ) (scope : List Variable) (v : Variable)
    → IsScope image deep roots constants scope → HasRoutine image deep roots constants scope v
    → IsScope image deep roots constants (scope ++ v ∷ [])

-- what a piece gives in a scope, it gives if more variables follow the scope; their memos are unchanged
abbrev pub LaterGives : Type 0
LaterGives =
    (image : Image) (deep : Bool) (roots : Roots) (constants : List ℕ) (scope later : List Variable) (words : FrameUse)
    (items : List (List ℕ × Value)) (p : ℕ) (piece : List Insn) (depth base : ℕ) (x : ValueOrError) (steps charge : ℕ)
    → Evaluates (scope_setting image deep scope) p piece (used_context roots items words constants (bindings scope)) depth base x
    steps charge
    → Evaluates (scope_setting image deep scope) p piece (used_context roots items words constants (bindings (scope ++ later))) depth base x
    steps charge

-- the same, if the first uses of more variables are paid for
abbrev pub WiderGives : Type 0
WiderGives = (image : Image) (deep : Bool) (scope more : List Variable) (p : ℕ) (piece : List Insn) (c : Context) (depth base : ℕ)
    (x : ValueOrError) (steps charge : ℕ)
    → Evaluates (scope_setting image deep scope) p piece c depth base x steps charge
    → Evaluates (scope_setting image deep (scope ++ more)) p piece c depth base x steps charge

-- Called from slot q in a well-formed CPU state, the routine of variable i at slot p returns to the slot after the
-- call. The call's record is removed, R0 holds the value or the error, and the memo is filled. The caller's CPU state
-- is well-formed again, and keeps what code for an expression preserves.
abbrev pub Returns : RunContext → ℕ → ℕ → Context → ℕ → ℕ → ValueOrError → ℕ → ℕ → Type 0
Returns s p i c depth base x steps charge = (q : ℕ) (b : CpuState) → IsWellFormedState c depth base b
    → RunsToWith s steps charge p (entered q b) b.records (q + 1)
    (λ new. LeavesValue c depth base x b new × (memo_at i new ≡ new.registers R0 + 1))

-- if the code of the next variable's routine gives its value with these first uses paid for, the routine returns it
-- in 5 more steps
abbrev pub RoutineReturns : Type 0
RoutineReturns = (image : Image) (deep : Bool) (paid : List FirstUse) (roots : Roots) (constants : List ℕ) (scope : List Variable)
    (v : Variable) (words : FrameUse) (items : List (List ℕ × Value)) (depth base : ℕ)
    → IsCodeAt image.code v.routine (v.body ++ memo_tail (length scope))
    → Evaluates (with_variables image deep paid) v.routine v.body (routine_context roots (bindings scope) constants) (depth + 1) 0
    v.value v.steps v.charge
    → length scope < memo_limit → base ≤ word_limit → depth < record_limit
    → let c = used_context roots items words constants (bindings scope ++ (v.name, v.value) ∷ []) in
    Returns (with_variables image deep paid) v.routine (length scope) c depth base v.value (v.steps + 5) v.charge
