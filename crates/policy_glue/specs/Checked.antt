-- Results of checking a policy's expressions, as the code returns them.
use Rattle.std.specs.Prelude.{◌≡◌, ◌≢◌, ℕ, All, IfSome, List, [], ◌∷◌, ◌++◌, length, map, Option, Some, None, option_map, Result, Ok, Err, Vec}
use Rattle.std.specs.Global.{Global}
use Rattle.cel_reader.specs.Tree.{Tree}
use Rattle.cel_reader.specs.WellFormed.{IsWellFormed}
use Rattle.cel_macros.specs.CoreTree.{Core, expanded}
use Rattle.cel_macros.specs.CoreView.{core_view}
use Rattle.cel_macros.specs.MacroFault.{macro_fault}
use Rattle.cel_macros.specs.declared.core_tree.Core.{Core as CodeCore}
use Rattle.cel_types.specs.Declarations.{Declaration}
use Rattle.cel_types.specs.declared.scope.Scope.{Scope}
use Rattle.cel_types.specs.declared.cel_type.CelType.{CelType}
use Rattle.policy_glue.specs.Checking.{TakenOrRefused, ReadsTree, IsTaken, IsExpressionRefused, IsOneOf, IsNoneOf, IsVariable, IsNoVariable, IsMessage, IsValidation, IsNoValidation}
use Rattle.policy_glue.specs.Checking.{PartsEnd, VariablesEnd, ConditionsEnd, ValidationsEnd, truths}
use Rattle.policy_code.specs.Scopes.{depth_in, scope_after, with_variable}
use Rattle.policy_code.specs.Checked.{IsChecked, IsFormedValidation, IsFormedVariable}
use Rattle.policy_code.specs.Checked.{validation_expanded, validation_trees, variable_expanded}
use Rattle.policy_glue.specs.Checking.{expression_judged, texts, variable_judged}
use Rattle.verdicts.specs.Policy.{NamedExpression, Validation, Policy}
use Rattle.policy_code.specs.Trees.{VariableTree, ValidationTree, PolicyTree}
use Rattle.policy_code.specs.declared.checked.Checked.{Checked}
use Rattle.policy_code.specs.declared.checked_validation.CheckedValidation.{CheckedValidation}
use Rattle.policy_glue.specs.declared.compile_error.CompileError.{CompileError, TheVariants.MessageNotAString, TheVariants.NotABool}
use Rattle.policy_glue.specs.declared.compile_error.CompileError.TheVariants as compile_error
use Rattle.policy_glue.specs.declared.expression_error.ExpressionError.{ExpressionError}
use Rattle.policy_glue.specs.declared.expression_error.ExpressionError.TheVariants as expression_error
use Rattle.policy_glue.specs.declared.part_kind.PartKind.{PartKind, TheVariants.Condition, TheVariants.Message}

-- the next variable is accepted; it may use those accepted so far
abbrev pub TakesVariable : List VariableTree → NamedExpression → VariableTree → Type 0
TakesVariable taken n v = IsVariable (scope_after taken) n v

-- the next variable is refused; its place is the number of variables accepted so far
abbrev pub RefusesVariable : List VariableTree → NamedExpression → CompileError → Type 0
RefusesVariable taken n e = IsNoVariable (scope_after taken) (length taken) n.expression e

-- the next condition is accepted; it may use no variable
abbrev pub TakesCondition : List Tree → NamedExpression → Tree → Type 0
TakesCondition taken n a = IsOneOf truths [] n.expression a

-- the next condition is refused, with `NotABool` if it has another type
abbrev pub RefusesCondition : List Tree → NamedExpression → CompileError → Type 0
RefusesCondition taken n e = IsNoneOf truths NotABool Condition (length taken) [] n.expression e

-- the next validation is accepted
abbrev pub TakesValidation : List Declaration → List ValidationTree → Validation → ValidationTree → Type 0
TakesValidation scope taken n r = IsValidation scope n r

-- the next validation is refused; its place is the number of validations accepted so far
abbrev pub RefusesValidation : List Declaration → List ValidationTree → Validation → CompileError → Type 0
RefusesValidation scope taken n e = IsNoValidation scope (length taken) n e

-- the tree with its macros expanded; its literals are valid values and its names valid names
abbrev pub IsExpanded : CodeCore → Tree → Type 0
IsExpanded core a = (core_view core ≡ expanded a) × IsWellFormed a

-- the text is read and its macros are expanded, or it is refused in every scope; or an allocation failed
abbrev pub ReadsAndExpands : List ℕ → Result CodeCore ExpressionError → Type 0
ReadsAndExpands text (Ok core) = (a : Tree) × IsExpanded core a × ReadsTree text a × (macro_fault a ≡ None)
ReadsAndExpands text (Err e) = e ≢ expression_error.Memory → (scope : List Declaration)
    → IsExpressionRefused (expression_judged scope) text e

-- the result of judging a text; or an allocation failed
abbrev pub Judges : (Tree → Result CelType ExpressionError) → List ℕ → Result (CodeCore × CelType) ExpressionError → Type 0
Judges judge text (Ok x) = (a : Tree) × IsExpanded x.0 a × IsTaken judge text a x.1
Judges judge text (Err e) = e ≢ expression_error.Memory → IsExpressionRefused judge text e

-- the result of judging a text that must have one of these types
abbrev pub Sorts : List CelType → CompileError → PartKind → ℕ → List Declaration → List ℕ → Result CodeCore CompileError → Type 0
Sorts types other part place scope text (Ok core) = (a : Tree) × IsExpanded core a × IsOneOf types scope text a
Sorts types other part place scope text (Err e) = e ≢ compile_error.Memory → IsNoneOf types other part place scope text e

-- ---- parts and lists of them

-- the result of judging a variable's text: its tree, its type and its depth
abbrev pub JudgesVariable : List Declaration → ℕ → List ℕ → Result (CodeCore × CelType × ℕ) CompileError → Type 0
JudgesVariable scope place text (Ok x) =
    (a : Tree) × IsExpanded x.0 a × IsTaken (variable_judged scope) text a x.1 × (x.2 ≡ depth_in scope a)
JudgesVariable scope place text (Err e) = e ≢ compile_error.Memory → IsNoVariable scope place text e

-- a variable is added to the scope, and its tree to the end of the trees
pub record IsAdded (n : NamedExpression) (old new : List Declaration) (before after : List Core) : Type 0 where
  pub variable : VariableTree
  pub taken : IsVariable old n variable
  pub scope : new ≡ with_variable old variable
  pub trees : after ≡ before ++ expanded variable.expression ∷ []
  pub formed : IsWellFormed variable.expression

abbrev pub AddsVariable : NamedExpression → ℕ → List Declaration → List Declaration → List Core → List Core → Result (Unit {0}) CompileError
    → Type 0
AddsVariable n place old new before after (Ok u) = IsAdded n old new before after
AddsVariable n place old new before after (Err e) = e ≢ compile_error.Memory → IsNoVariable old place n.expression e

-- the result of checking a list of parts: all are accepted and their trees well formed, or the first refusal
pub record PartsChecked {A B C : Type 0} (Takes : List B → A → B → Type 0) (Refuses : List B → A → CompileError → Type 0) (seen : B → C)
    (IsFormed : B → Type 0) (ns : List A) (trees : List C) : Type 0 where
  pub taken : List B
  pub end : TakenOrRefused Takes Refuses [] ns (Ok taken)
  pub trees_are : trees ≡ map seen taken
  pub formed : All IsFormed taken

pub record VariablesChecked (ns : List NamedExpression) (scope : List Declaration) (trees : List Core) : Type 0 where
  pub are : PartsChecked TakesVariable RefusesVariable variable_expanded IsFormedVariable ns trees
  pub scope_is : scope ≡ scope_after are.taken

abbrev pub ChecksVariables : List NamedExpression → Result (Scope × Vec CodeCore Global) CompileError → Type 0
ChecksVariables ns (Ok x) = VariablesChecked ns x.0 (map core_view x.1.items)
ChecksVariables ns (Err e) = e ≢ compile_error.Memory → VariablesEnd ns (Err e)

abbrev pub ConditionsChecked : List NamedExpression → List Core → Type 0
ConditionsChecked ns trees = PartsChecked TakesCondition RefusesCondition expanded IsWellFormed ns trees

abbrev pub ChecksConditions : List NamedExpression → Result (Vec CodeCore Global) CompileError → Type 0
ChecksConditions ns (Ok v) = ConditionsChecked ns (map core_view v.items)
ChecksConditions ns (Err e) = e ≢ compile_error.Memory → ConditionsEnd ns (Err e)

-- the refusal of a validation's message expression, if it has one
pub record IsNoMessage (scope : List Declaration) (place : ℕ) (text : Option (List ℕ)) (e : CompileError) : Type 0 where
  pub source : List ℕ
  pub is : text ≡ Some source
  pub because : IsNoneOf texts MessageNotAString Message place scope source e

abbrev pub SortsMessage : List Declaration → ℕ → Option (List ℕ) → Result (Option CodeCore) CompileError → Type 0
SortsMessage scope place text (Ok m) =
    (b : Option Tree) × (option_map core_view m ≡ option_map expanded b) × IsMessage scope text b × IfSome b IsWellFormed
SortsMessage scope place text (Err e) = e ≢ compile_error.Memory → IsNoMessage scope place text e

abbrev pub ChecksValidation : List Declaration → ℕ → Validation → Result CheckedValidation CompileError → Type 0
ChecksValidation scope place n (Ok v) = (r : ValidationTree) × (validation_trees v ≡ validation_expanded r) × IsValidation scope n r
    × IsFormedValidation r
ChecksValidation scope place n (Err e) = e ≢ compile_error.Memory → IsNoValidation scope place n e

abbrev pub ValidationsChecked : List Declaration → List Validation → List (Core × Option Core) → Type 0
ValidationsChecked scope ns trees =
    PartsChecked (TakesValidation scope) (RefusesValidation scope) validation_expanded IsFormedValidation ns trees

abbrev pub ChecksValidations : List Declaration → List Validation → Result (Vec CheckedValidation Global) CompileError → Type 0
ChecksValidations scope ns (Ok v) = ValidationsChecked scope ns (map validation_trees v.items)
ChecksValidations scope ns (Err e) = e ≢ compile_error.Memory → ValidationsEnd scope ns (Err e)

-- ---- a policy

-- the parts of the policy are checked, or its first refusal is returned; or an allocation failed
abbrev pub Checks : Policy → Result Checked CompileError → Type 0
Checks p (Ok checked) = (t : PolicyTree) × IsChecked checked t × PartsEnd p (Ok t)
Checks p (Err e) = e ≢ compile_error.Memory → PartsEnd p (Err e)
