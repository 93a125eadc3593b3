-- Expressions of a policy's parts, the errors of a policy, its size and what is found by its verdict, worked by hand from
-- docs/POLICIES.md.
use Rattle.std.specs.Prelude.{◌≡◌, false, ℕ, [], ◌∷◌, Some, None, Ok, Err, codes}
use Rattle.cel_reader.specs.Tree.{no_entries, select, unary}
use Rattle.cel_reader.specs.Written.{list_literal, name, num, str, yes}
use Rattle.cel_reader.specs.declared.operator.UnaryOperator.TheVariants.{Not}
use Rattle.cel_tokens.specs.declared.read_error.ReadError.TheVariants as read_error
use Rattle.cel_macros.specs.declared.macro_error.MacroError.TheVariants as macro_error
use Rattle.cel_macros.specs.Environment.{Roots}
use Rattle.cel_macros.specs.Written.{review, variable}
use Rattle.cel_measures.specs.Rows.{conjoined}
use Rattle.cel_types.specs.Declarations.{declared}
use Rattle.cel_types.specs.Types.{MisplacedVariables, NoOverload, UnknownName, refused, typed}
use Rattle.cel_types.specs.declared.cel_type.CelType.TheVariants as type
use Rattle.cel_types.specs.declared.type_error.TypeError.TheVariants as type_error
use Rattle.tree_code.specs.CostRows.{nested}
use Rattle.policy_glue.specs.Budget.{IsDeepPolicy, policy_cost}
use Rattle.policy_glue.specs.Checking.{depth_in, scope_after, type_error as error_of, type_or_any, with_depth, with_typing, with_variable}
use Rattle.policy_glue.specs.CompileErrors.{compile_text, expression_text, kind_text, part_text, with_number}
use Rattle.policy_glue.specs.DecisionRows.{bare, policy_of_validations}
use Rattle.policy_glue.specs.ErrorCodes.{compile_error_code, expression_error_code, expression_error_place, policy_error_code}
use Rattle.policy_glue.specs.Limits.{excess, part_nodes, policy_nodes, policy_texts, tree_texts, validation_nodes, validation_tree_texts}
use Rattle.policy_glue.specs.Naming.{namespace_name, one_entry_names}
use Rattle.policy_glue.specs.Trees.{PolicyTree}
use Rattle.policy_glue.specs.declared.compile_error.CompileError.TheVariants as compile_error
use Rattle.policy_glue.specs.declared.expression_error.ExpressionError.TheVariants as expression_error
use Rattle.policy_glue.specs.declared.failure_policy.FailurePolicy.TheVariants.{Fail}
use Rattle.policy_glue.specs.declared.part_kind.PartKind.TheVariants as kind
use Rattle.policy_glue.specs.declared.policy_error.PolicyError.TheVariants as policy_error

-- what type checking and the limits of code give
pub record JudgedRowsStand : Type 0 where
  pub unknown_name : error_of UnknownName ≡ type_error.UnknownIdentifier
  pub no_overload : error_of NoOverload ≡ type_error.NoMatchingOverload
  pub misplaced_variables : error_of MisplacedVariables ≡ type_error.MisusedVariables
  pub most_words : with_typing (typed type.Int) 60 ≡ Ok type.Int
  pub too_many_words : with_typing (typed type.Int) 61 ≡ Err expression_error.NeedsTooManyWords
  pub fault_before_words : with_typing (refused NoOverload) 61 ≡ Err (expression_error.Untyped type_error.NoMatchingOverload)
  pub deepest : with_depth 6 (Ok type.Int) ≡ Ok type.Int
  pub too_deep : with_depth 7 (Ok type.Int) ≡ Err expression_error.VariableTooDeep
  pub error_before_depth : with_depth 7 (Err expression_error.NeedsTooManyWords) ≡ Err expression_error.NeedsTooManyWords
  pub type_found : type_or_any (typed type.List) ≡ type.List
  pub no_type_found : type_or_any (refused NoOverload) ≡ type.Dyn
  pub first_depth : depth_in [] (num 1) ≡ 1
  pub second_depth : depth_in (declared (codes "v") type.Int 1 ∷ []) (variable "v") ≡ 2
  -- v = 1, then w = variables.v
  pub one_more : with_variable (declared (codes "v") type.Int 1 ∷ []) (record { name = codes "w"; expression = variable "v" })
      ≡ declared (codes "v") type.Int 1 ∷ declared (codes "w") type.Int 2 ∷ []
  pub two_variables :
      scope_after (record { name = codes "v"; expression = str "a" } ∷ record { name = codes "w"; expression = variable "v" } ∷ [])
      ≡ declared (codes "v") type.String 1 ∷ declared (codes "w") type.String 2 ∷ []

-- codes and texts of errors
pub record ErrorRowsStand : Type 0 where
  pub k1 : policy_error_code policy_error.NotJson ≡ codes "K1"
  pub k2 : policy_error_code policy_error.NotAPolicy ≡ codes "K2"
  pub k3 : policy_error_code policy_error.InvalidField ≡ codes "K3"
  pub k4 : policy_error_code policy_error.NoValidations ≡ codes "K4"
  pub k5 : policy_error_code policy_error.TooManyParts ≡ codes "K5"
  pub k8 : policy_error_code policy_error.MessageWithLineBreak ≡ codes "K8"
  pub policy_memory : policy_error_code policy_error.Memory ≡ codes "memory"
  pub p4 : expression_error_code (expression_error.Unread (read_error.UnexpectedToken 3)) ≡ codes "P4"
  pub m1 : expression_error_code (expression_error.Unexpanded macro_error.WrongArgumentCount) ≡ codes "M1"
  pub m2 : expression_error_code (expression_error.Unexpanded macro_error.InvalidIterationName) ≡ codes "M2"
  pub m3 : expression_error_code (expression_error.Unexpanded macro_error.HasWithoutSelection) ≡ codes "M3"
  pub y1 : expression_error_code (expression_error.Untyped type_error.UnknownIdentifier) ≡ codes "Y1"
  pub y2 : expression_error_code (expression_error.Untyped type_error.NoMatchingOverload) ≡ codes "Y2"
  pub y3 : expression_error_code (expression_error.Untyped type_error.MisusedVariables) ≡ codes "Y3"
  pub g1 : expression_error_code expression_error.NeedsTooManyWords ≡ codes "G1"
  pub g2 : expression_error_code expression_error.VariableTooDeep ≡ codes "G2"
  pub expression_memory : expression_error_code expression_error.Memory ≡ codes "memory"
  pub place_of_text : expression_error_place (expression_error.Unread (read_error.UnexpectedToken 3)) ≡ Some 3
  pub place_of_macro : expression_error_place (expression_error.Unexpanded macro_error.WrongArgumentCount) ≡ None
  pub place_of_type : expression_error_place (expression_error.Untyped type_error.NoMatchingOverload) ≡ None
  pub place_of_words : expression_error_place expression_error.NeedsTooManyWords ≡ None
  pub place_of_depth : expression_error_place expression_error.VariableTooDeep ≡ None
  pub place_of_memory : expression_error_place expression_error.Memory ≡ None
  pub k6 : compile_error_code (compile_error.InvalidExpression kind.Condition 0 expression_error.VariableTooDeep) ≡ codes "K6"
  pub k7 : compile_error_code compile_error.NotABool ≡ codes "K7"
  pub k9 : compile_error_code compile_error.MessageNotAString ≡ codes "K9"
  pub g3 : compile_error_code compile_error.TooManyNodes ≡ codes "G3"
  pub g4 : compile_error_code compile_error.TooManyTextBytes ≡ codes "G4"
  pub compile_memory : compile_error_code compile_error.Memory ≡ codes "memory"
  pub of_variable : kind_text kind.Variable ≡ codes "variable"
  pub of_condition : kind_text kind.Condition ≡ codes "condition"
  pub of_validation : kind_text kind.Validation ≡ codes "validation"
  pub of_message : kind_text kind.Message ≡ codes "message"
  pub number : with_number (codes "P4") (codes " at ") (Some 12) ≡ codes "P4 at 12"
  pub no_number : with_number (codes "Y2") (codes " at ") None ≡ codes "Y2"
  pub at_a_byte : expression_text (expression_error.Unread (read_error.UnexpectedToken 13)) ≡ codes "P4 at 13"
  pub in_a_part : part_text kind.Variable 2 (expression_error.Untyped type_error.NoMatchingOverload) ≡ codes "variable 2 Y2"
  pub of_an_expression :
      compile_text (compile_error.InvalidExpression kind.Validation 0 (expression_error.Unread (read_error.UnexpectedToken 13)))
      ≡ codes "K6 validation 0 P4 at 13"
  pub of_another_error : compile_text compile_error.NotABool ≡ codes "K7"

-- a policy with a variable 1, a condition true, and a validation 'a' with the message 'b'
abbrev pub of_each : PolicyTree
of_each = record {
  variables = record { name = codes "v"; expression = num 1 } ∷ [];
  conditions = yes ∷ [];
  validations = record { expression = str "a"; message = Some (str "b") } ∷ [];
}

-- nodes, texts and names of trees
pub record TreeRowsStand : Type 0 where
  pub nodes_of_part : part_nodes (num 1) ≡ 2
  pub nodes_of_validation : validation_nodes (bare yes) ≡ 2
  pub nodes_with_message : validation_nodes (record { expression = yes; message = Some (select (name "object") (codes "f")) }) ≡ 5
  -- the policy, and for each part one more than its expression has
  pub nodes_of_policy : policy_nodes of_each ≡ 9
  pub texts_of_tree : tree_texts (select (str "a") (codes "f")) ≡ codes "a" ∷ codes "f" ∷ []
  pub texts_of_validation : validation_tree_texts (record { expression = str "a"; message = Some (str "b") }) ≡ codes "a" ∷ codes "b" ∷ []
  pub texts_of_policy : policy_texts (record of_each {
    variables = record { name = codes "v"; expression = str "x" } ∷ [];
    conditions = str "y" ∷ str "a" ∷ [];
  }) ≡ codes "x" ∷ codes "y" ∷ codes "a" ∷ codes "b" ∷ []
  -- !(true && true && .. with 255 literals), in a policy of 512 nodes, which have all 65,536 slots
  pub most_nodes : policy_nodes (policy_of_validations (bare (unary Not (conjoined 254)) ∷ [])) ≡ 512
  pub most_slots : excess (policy_of_validations (bare (unary Not (conjoined 254)) ∷ [])) ≡ None
  pub no_entry_names : one_entry_names namespace_name no_entries ≡ false

-- [object]
abbrev pub holder : PolicyTree
holder = policy_of_validations (bare (list_literal (name "object" ∷ [])) ∷ [])

-- roots whose object is n lists in one another around an empty one
abbrev pub with_object : ℕ → Roots
with_object n = record review.roots { object = nested n }

-- a list has a depth of at most 255 (docs/VALUES.md), and that of an empty one is 1
pub record DepthOfPolicyRowsStand : Type 0 where
  pub deep : IsDeepPolicy Fail holder (with_object 254)
  pub shallow : (policy_cost Fail holder (with_object 253)).is_deep ≡ false
