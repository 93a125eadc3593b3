-- The policies that have a program, and what their programs do.
use Rattle.std.specs.Prelude.{◌≡◌, ℕ, ◌+◌, ◌*◌, ◌<◌, ◌≤◌, ◌⊎◌, All, false, List, [], ◌∷◌, length, Option, Some, None}
use Rattle.expression_code.specs.Limits.{variable_depth_limit, slots_per_node, charge_per_unit, steps_per_visit}
use Rattle.guest_memory.specs.declared.fault.Fault.TheVariants.{F8}
use Rattle.insn_codec.specs.Limits.{slot_limit}
use Rattle.loader.specs.Contents as loader
use Rattle.loader.specs.Limits.{constants_limit}
use Rattle.value_store.specs.Placing.{Contents, charge_limit}
use Rattle.cel_reader.specs.Tree.{Tree}
use Rattle.cel_macros.specs.CoreTree.{expanded}
use Rattle.cel_macros.specs.Environment.{Roots}
use Rattle.cel_types.specs.Declarations.{Declaration}
use Rattle.bpf_machine.specs.State.{State, start_state}
use Rattle.bpf_machine.specs.Step.{is_running}
use Rattle.bpf_machine.specs.Trace.{state_after}
use Rattle.bpf_machine.specs.declared.status.Status.TheVariants.{Exited, Fault}
use Rattle.expression_code.specs.Contexts.{HasValues}
use Rattle.expression_code.specs.Pieces.{AreInsns, size, spellings}
use Rattle.tree_code.specs.Constants.{joined}
use Rattle.tree_code.specs.Layer.{IsEmittable}
use Rattle.policy_code.specs.Limits.{part_limit}
use Rattle.policy_code.specs.Budget.{IsDeepPolicy, policy_spent, policy_work}
use Rattle.policy_code.specs.Scopes.{depth_in, scope_after, with_variable}
use Rattle.policy_code.specs.Evaluation.{decision_of}
use Rattle.verdicts.specs.Layout.{IsLayout, outcome_word}
use Rattle.policy_code.specs.Limits.{policy_nodes, policy_texts}
use Rattle.policy_code.specs.ProgramCode.{program_of}
use Rattle.policy_code.specs.Trees.{PolicyTree, ValidationTree, VariableTree}
use Rattle.verdicts.specs.declared.failure_policy.FailurePolicy.{FailurePolicy}

-- ---- policies

-- the type checker accepts each expression with the variables before it, and no variable is too deep
abbrev pub AreVariables : List Declaration → List VariableTree → Type 0
AreVariables scope [] = Unit {0}
AreVariables scope (v ∷ more) =
    IsEmittable scope (expanded v.expression) × (depth_in scope v.expression ≤ variable_depth_limit)
    × AreVariables (with_variable scope v) more

-- the type checker accepts each condition, without variables
abbrev pub AreConditions : List Tree → Type 0
AreConditions [] = Unit {0}
AreConditions (a ∷ more) = IsEmittable [] (expanded a) × AreConditions more

-- the type checker accepts the message expression, if there is one, in this scope
abbrev pub IsEmittableMessage : List Declaration → Option Tree → Type 0
IsEmittableMessage scope (Some a) = IsEmittable scope (expanded a)
IsEmittableMessage scope None = Unit {0}

-- the type checker accepts each validation and its message expression in this scope
abbrev pub AreValidations : List Declaration → List ValidationTree → Type 0
AreValidations scope [] = Unit {0}
AreValidations scope (r ∷ more) = IsEmittable scope (expanded r.expression) × IsEmittableMessage scope r.message × AreValidations scope more

-- the type checker accepts all expressions, and the policy is within its limits
pub record HasProgram (p : PolicyTree) : Type 0 where
  pub variables : AreVariables [] p.variables
  pub conditions : AreConditions p.conditions
  pub validations : AreValidations (scope_after p.variables) p.validations
  pub few_variables : length p.variables ≤ part_limit
  pub few_validations : length p.validations ≤ part_limit
  pub short : slots_per_node * policy_nodes p ≤ slot_limit
  pub few_texts : length (joined (policy_texts p)) ≤ constants_limit

-- ---- programs

-- The program of a policy has exited with the outcome of its decision in R0 and the decision's layout in the verdict
-- region, or has stopped because its charge would pass the limit or a value is too deep.
pub data Decides (f : FailurePolicy) (p : PolicyTree) (roots : Roots) (values : Contents) (t : State) : Type 0 where
  OutOfBudget : t.status ≡ Fault F8 → (charge_limit < values.charge + charge_per_unit * policy_spent f p roots) ⊎ IsDeepPolicy f p roots
      → Decides f p roots values t
  LeavesByExit : t.status ≡ Exited (outcome_word (decision_of f p roots).outcome)
      → IsLayout f (decision_of f p roots) t.values.values t.memory.verdict → Decides f p roots values t

-- the image of a policy's program, run from the start, has decided after 128 steps for each unit of the policy's work
abbrev pub ProgramDecides : Type 0
ProgramDecides = (f : FailurePolicy) (p : PolicyTree) (roots : Roots) (image : loader.Image) (values : Contents) (m : ℕ)
    → HasProgram p → image.code ≡ spellings (program_of f p) → image.constants ≡ joined (policy_texts p)
    → All (λ b. b < 256) image.code → All (λ b. b < 256) image.constants → HasValues roots values
    → steps_per_visit * policy_work f p roots ≤ m → Decides f p roots values (state_after m (start_state image values))

-- if that run has stopped, it has decided
abbrev pub ProgramStops : Type 0
ProgramStops = (f : FailurePolicy) (p : PolicyTree) (roots : Roots) (image : loader.Image) (values : Contents) (k : ℕ)
    → HasProgram p → image.code ≡ spellings (program_of f p) → image.constants ≡ joined (policy_texts p)
    → All (λ b. b < 256) image.code → All (λ b. b < 256) image.constants → HasValues roots values
    → is_running (state_after k (start_state image values)).status ≡ false
    → Decides f p roots values (state_after k (start_state image values))

-- the program has at most 128 slots for each of the policy's nodes, and can be encoded
abbrev pub ProgramIsShort : Type 0
ProgramIsShort = (f : FailurePolicy) (p : PolicyTree) → size (program_of f p) ≤ slots_per_node * policy_nodes p

-- each slot of the program can be encoded
abbrev pub ProgramIsCode : Type 0
ProgramIsCode = (f : FailurePolicy) (p : PolicyTree) → HasProgram p → AreInsns (program_of f p)
