-- The emission of a policy's program: the state of the emitter after each part of the policy.
use Rattle.std.specs.Prelude.{◌≡◌, ◌≢◌, ℕ, ◌+◌, ◌-◌, ◌≤◌, List, [], ◌∷◌, fold, length, map, slice_get, take, Option, Some, None, Result, Ok, Err, Vec}
use Rattle.std.specs.Global.{Global}
use Rattle.cel_macros.specs.CoreTree.{Core}
use Rattle.cel_macros.specs.CoreView.{core_view}
use Rattle.cel_measures.specs.Measures.{depth, need}
use Rattle.cel_types.specs.Declarations.{Declaration, depths_of}
use Rattle.codegen.specs.Added.{with_expression, with_variable}
use Rattle.tree_code.specs.Constants.{joined}
use Rattle.codegen.specs.Emitted.{Emitted, no_code, with_insn_at, with_nodes, with_piece}
use Rattle.expression_code.specs.Pieces.{spellings}
use Rattle.expression_code.specs.Limits.{word_limit, variable_depth_limit}
use Rattle.policy_code.specs.Checked.{IsChecked, validation_trees}
use Rattle.policy_code.specs.Scopes.{scope_after}
use Rattle.policy_code.specs.Limits.{limit_passed, part_limit, policy_texts}
use Rattle.policy_code.specs.Program.{condition_tail, decided_tail, if_true, leave_error, message_tail, outcome_tail, result_code}
use Rattle.policy_code.specs.ProgramCode.{program_of}
use Rattle.policy_code.specs.ProgramTrees.{AreConditions, AreValidations, AreVariables}
use Rattle.policy_code.specs.Trees.{PolicyTree}
use Rattle.policy_code.specs.declared.checked.Checked.{Checked}
use Rattle.policy_code.specs.declared.program_error.ProgramError.{ProgramError, TheVariants.Memory}
use Rattle.verdicts.specs.declared.failure_policy.FailurePolicy.{FailurePolicy}

-- ---- each part

-- after the variables from number i on; each may use the earlier ones
abbrev pub with_variables : List Declaration → ℕ → Emitted → List Core → Emitted
with_variables declarations i e [] = e
with_variables declarations i e (tree ∷ more) = with_variables declarations (i + 1) (with_variable e (take i declarations) tree) more

abbrev pub with_condition : FailurePolicy → Emitted → Core → Emitted
with_condition f e tree = with_piece (with_expression (with_nodes e 1) [] tree) (condition_tail f)

abbrev pub with_conditions : FailurePolicy → Emitted → List Core → Emitted
with_conditions f e trees = fold (with_condition f) e trees

-- after the code that follows the conditions, if there are any
abbrev pub with_decided : {A : Type 0} → Emitted → List A → Emitted
with_decided e [] = e
with_decided e (condition ∷ more) = with_piece e decided_tail

abbrev pub with_message : ℕ → List Declaration → Emitted → Core → Emitted
with_message i scope e tree = with_piece (with_expression (with_nodes e 1) scope tree) (message_tail i)

-- the jumps of a validation whose code begins at this slot are set to go to the end of the code
abbrev pub with_way : FailurePolicy → ℕ → Emitted → Emitted
with_way f slot e =
    with_insn_at (with_insn_at e slot (if_true (length e.code - 1 - slot))) (slot + 5) (leave_error f (length e.code - 1 - slot - 5))

-- after the code that runs if a validation is not true, and its message
abbrev pub with_result : FailurePolicy → ℕ → List Declaration → Emitted → Option Core → Emitted
with_result f i scope e None = with_piece e (result_code f i [])
with_result f i scope e (Some tree) = with_way f (length e.code) (with_message i scope (with_piece e (result_code f i [])) tree)

abbrev pub with_validation : FailurePolicy → ℕ → List Declaration → Emitted → Core × Option Core → Emitted
with_validation f i scope e v = with_result f i scope (with_expression (with_nodes e 1) scope v.0) v.1

-- after the validations from number i on
abbrev pub with_validations : FailurePolicy → ℕ → List Declaration → Emitted → List (Core × Option Core) → Emitted
with_validations f i scope e [] = e
with_validations f i scope e (v ∷ more) = with_validations f (i + 1) scope (with_validation f i scope e v) more

-- ---- the whole

abbrev pub variables_of : Checked → List Core
variables_of c = map core_view c.variables.items

abbrev pub conditions_of : Checked → List Core
conditions_of c = map core_view c.conditions.items

abbrev pub validations_of : Checked → List (Core × Option Core)
validations_of c = map validation_trees c.validations.items

abbrev pub before_validations : FailurePolicy → Checked → Emitted
before_validations f c =
    with_decided (with_conditions f (with_variables c.scope 0 (with_nodes no_code 1) (variables_of c)) (conditions_of c)) (conditions_of c)

abbrev pub emitted : FailurePolicy → Checked → Emitted
emitted f c = with_piece (with_validations f 0 c.scope (before_validations f c) (validations_of c)) outcome_tail

-- ---- what can be emitted

-- each expression fits the stack words of a frame, and no variable is too deep
abbrev pub FitInOrder : List Declaration → List Core → Type 0
FitInOrder declarations trees = (i : ℕ) (tree : Core) → slice_get trees i ≡ Some tree
    → (need tree ≤ word_limit) × (depth tree (depths_of (take i declarations)) ≤ variable_depth_limit)

abbrev pub FitsFrame : Core → Type 0
FitsFrame tree = need tree ≤ word_limit

abbrev pub MayFit : Option Core → Type 0
MayFit (Some tree) = FitsFrame tree
MayFit None = Unit {0}

-- the result of the check holds the trees of a policy, and they can be emitted
pub record HasTrees (checked : Checked) : Type 0 where
  pub trees : PolicyTree
  pub are : IsChecked checked trees
  pub variables : AreVariables [] trees.variables
  pub conditions : AreConditions trees.conditions
  pub validations : AreValidations (scope_after trees.variables) trees.validations
  pub few : length trees.validations ≤ part_limit

-- the bytes of the program and of its texts, or the limit that the policy passes; or an allocation failed
abbrev pub EmitsProgram : FailurePolicy → PolicyTree → Result (Vec ℕ Global × Vec ℕ Global) ProgramError → Type 0
EmitsProgram f t (Ok r) = (limit_passed t ≡ None) × (r.0.items ≡ spellings (program_of f t)) × (r.1.items ≡ joined (policy_texts t))
EmitsProgram f t (Err e) = e ≢ Memory → limit_passed t ≡ Some e
