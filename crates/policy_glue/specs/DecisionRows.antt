-- Decisions of policies, and the first refusals of others, worked by hand.
use Rattle.std.specs.Prelude.{◌≡◌, ℕ, zero, suc, pos, true, false, List, [], ◌∷◌, ◌++◌, Some, None, Ok, Err, codes, decimal}
use Rattle.value_store.specs.Value.{int, map}
use Rattle.cel_reader.specs.Tree.{Tree, binary, select}
use Rattle.cel_reader.specs.Written.{num, str, yes, no, name, dot, call, method, list_literal}
use Rattle.cel_reader.specs.declared.operator.BinaryOperator.TheVariants.{Add, And, Divide, Equal, LessEqual, Or}
use Rattle.cel_macros.specs.Environment.{Roots}
use Rattle.cel_macros.specs.Written.{entries_of, review, variable}
use Rattle.cel_macros.specs.declared.macro_error.MacroError.TheVariants.{InvalidIterationName, HasWithoutSelection}
use Rattle.cel_types.specs.Types.{allowed}
use Rattle.cel_types.specs.declared.cel_type.CelType.TheVariants as type
use Rattle.cel_types.specs.declared.type_error.TypeError.TheVariants.{NoMatchingOverload, MisusedVariables}
use Rattle.cel_measures.specs.Rows.{to_the_right}
use Rattle.policy_glue.specs.Checking.{expression_judged, texts, truths, variable_judged}
use Rattle.policy_code.specs.Scopes.{scope_after}
use Rattle.policy_code.specs.Evaluation.{decision_of}
use Rattle.policy_code.specs.Trees.{VariableTree, ValidationTree, PolicyTree}
use Rattle.verdicts.specs.Verdict.{Verdict, Finding, CheckResult, Holds, Fails, Errs}
use Rattle.verdicts.specs.declared.outcome.Outcome.{TheVariants.Skipped, TheVariants.Rejected, TheVariants.Denied, TheVariants.Admitted}
use Rattle.policy_glue.specs.declared.expression_error.ExpressionError.TheVariants.{Unexpanded, Untyped, NeedsTooManyWords, VariableTooDeep}
use Rattle.verdicts.specs.declared.failure_policy.FailurePolicy.{FailurePolicy, TheVariants.Fail, TheVariants.Ignore}

-- ---- decisions

-- roots whose object is {"spec":{"replicas":5}}
abbrev pub five : Roots
five = record review.roots { object = map (entries_of ((codes "spec", map (entries_of ((codes "replicas", int (pos 5)) ∷ []))) ∷ [])) }

abbrev pub replicas : Tree
replicas = dot (dot (name "object") "spec") "replicas"

-- object.spec.replicas <= 3
abbrev pub at_most_three : Tree
at_most_three = binary LessEqual replicas (num 3)

-- 1 / 0
abbrev pub wrong : Tree
wrong = binary Divide (num 1) (num 0)

-- 1 / 0 == 1
abbrev pub undecided : Tree
undecided = binary Equal wrong (num 1)

abbrev pub bare : Tree → ValidationTree
bare a = record { expression = a; message = None }

-- a policy with only validations
abbrev pub policy_of_validations : List ValidationTree → PolicyTree
policy_of_validations validations = record { variables = []; conditions = []; validations = validations }

abbrev pub decided : FailurePolicy → List ValidationTree → Verdict
decided f rules = decision_of f (policy_of_validations rules) five

abbrev pub under : FailurePolicy → List Tree → Verdict
under f conditions = decision_of f (record { variables = []; conditions = conditions; validations = bare no ∷ [] }) five

-- the decision of a policy whose variable v is 1 / 0
abbrev pub with_wrong : FailurePolicy → List ValidationTree → Verdict
with_wrong f rules =
    decision_of f (record { variables = record { name = codes "v"; expression = wrong } ∷ []; conditions = []; validations = rules }) five

abbrev pub found : CheckResult → Finding
found t = record { truth = t; message = None }

abbrev pub admitted : List Finding → Verdict
admitted xs = record { outcome = Admitted; findings = xs }

abbrev pub denied : List Finding → Verdict
denied xs = record { outcome = Denied; findings = xs }

-- 'replicas ' + string(object.spec.replicas) + ' above 3'
abbrev pub how_many : Tree
how_many = binary Add (binary Add (str "replicas ") (call "string" (replicas ∷ []))) (str " above 3")

abbrev pub with_message : Tree → Verdict
with_message m = decided Fail (record { expression = at_most_three; message = Some m } ∷ [])

pub record DecisionRowsStand : Type 0 where
  pub false_denies : decided Fail (bare at_most_three ∷ []) ≡ denied (found Fails ∷ [])
  pub true_admits : decided Fail (bare (binary LessEqual replicas (num 5)) ∷ []) ≡ admitted (found Holds ∷ [])
  -- 1 / 0 == 1 || true, and true && 1 / 0 == 1
  pub absorbed : decided Fail (bare (binary Or undecided yes) ∷ []) ≡ admitted (found Holds ∷ [])
  pub error_denies : decided Fail (bare (binary And yes undecided) ∷ []) ≡ denied (found Errs ∷ [])
  pub error_ignored : decided Ignore (bare (binary And yes undecided) ∷ []) ≡ admitted (found Errs ∷ [])
  pub false_condition : under Fail (undecided ∷ no ∷ []) ≡ record { outcome = Skipped; findings = [] }
  pub undecided_condition : under Fail (undecided ∷ yes ∷ []) ≡ record { outcome = Rejected; findings = [] }
  pub ignored_condition : under Ignore (undecided ∷ yes ∷ []) ≡ record { outcome = Skipped; findings = [] }
  pub true_condition : under Fail (yes ∷ []) ≡ denied (found Fails ∷ [])
  -- an error in a variable that no expression uses has no effect
  pub unused_variable : with_wrong Fail (bare yes ∷ []) ≡ admitted (found Holds ∷ [])
  pub used_variable : with_wrong Ignore (bare (binary Equal (variable "v") (num 1)) ∷ bare no ∷ []) ≡ denied (found Errs ∷ found Fails ∷ [])
  pub text : with_message how_many ≡ denied (record { truth = Fails; message = Some (codes "replicas 5 above 3") } ∷ [])
  pub no_text : with_message (call "dyn" (num 1 ∷ [])) ≡ denied (found Fails ∷ [])
  pub wrong_text : with_message (call "string" (wrong ∷ [])) ≡ denied (found Fails ∷ [])
  pub no_denial : decided Fail (record { expression = yes; message = Some (call "string" (wrong ∷ [])) } ∷ []) ≡ admitted (found Holds ∷ [])

-- ---- refusals

-- v0 = 1, v1 = variables.v0, .. of n variables
abbrev pub numbered : ℕ → List ℕ
numbered n = codes "v" ++ decimal n

abbrev pub earlier : ℕ → Tree
earlier zero = num 1
earlier (suc n) = select (name "variables") (numbered n)

abbrev pub chained : ℕ → List VariableTree
chained zero = []
chained (suc n) = chained n ++ record { name = numbered n; expression = earlier n } ∷ []

pub record CheckingRowsStand : Type 0 where
  pub sixth : variable_judged (scope_after (chained 5)) (earlier 5) ≡ Ok type.Int
  pub seventh : variable_judged (scope_after (chained 6)) (earlier 6) ≡ Err VariableTooDeep
  -- a variable may not use a later one, and a condition may use none
  pub later_variable : variable_judged (scope_after []) (variable "v1") ≡ Err (Untyped MisusedVariables)
  pub in_condition : expression_judged [] (variable "v0") ≡ Err (Untyped MisusedVariables)
  pub in_validation : expression_judged (scope_after (chained 1)) (binary Equal (variable "v0") (num 1)) ≡ Ok type.Bool
  pub number : expression_judged [] (binary Add (num 1) (num 1)) ≡ Ok type.Int
  pub bool_is_truth : allowed truths type.Bool ≡ true
  pub text_is_no_truth : allowed truths type.String ≡ false
  pub number_is_no_truth : allowed truths type.Int ≡ false
  pub text_is_text : allowed texts type.String ≡ true
  pub bool_is_no_text : allowed texts type.Bool ≡ false
  pub number_is_no_text : allowed texts type.Int ≡ false
  pub unknown_is_truth : allowed truths type.Dyn ≡ true
  pub unknown_is_text : allowed texts type.Dyn ≡ true
  -- 'a' + 1, has(object), [1].all(object, true), variables
  pub no_overload : expression_judged [] (binary Add (str "a") (num 1)) ≡ Err (Untyped NoMatchingOverload)
  pub no_selection : expression_judged [] (call "has" (name "object" ∷ [])) ≡ Err (Unexpanded HasWithoutSelection)
  pub root_as_item : expression_judged [] (method (list_literal (num 1 ∷ [])) "all" (name "object" ∷ yes ∷ []))
      ≡ Err (Unexpanded InvalidIterationName)
  pub variables_alone : expression_judged [] (name "variables") ≡ Err (Untyped MisusedVariables)
  -- 1 + (1 + (.. + 1)) == 1
  pub need_of_59 : expression_judged [] (binary Equal (to_the_right 59) (num 1)) ≡ Ok type.Bool
  pub need_of_60 : expression_judged [] (binary Equal (to_the_right 60) (num 1)) ≡ Err NeedsTooManyWords
