-- Trees of the profile that carry the values of a policy's wide expressions.
use Rattle.std.specs.Prelude.{◌≡◌, Bool, true, List, [], ◌∷◌, map, Option, Some, None}
use Rattle.cel_reader.specs.Tree.{Tree}
use Rattle.cel_macros.specs.Environment.{Roots}
use Rattle.wide_reader.specs.Tree.{Wide}
use Rattle.wide_kinds.specs.declared.kind.Kind.{TheVariants.Value}
use Rattle.wide_kinds.specs.declared.kind.ValueKind.{ValueKind}
use Rattle.wide_meaning.specs.Environment.{WideEnvironment}
use Rattle.wide_meaning.specs.Outcome.{Outcome}
use Rattle.wide_indices.specs.Tables.{index_tables, table_length}
use Rattle.wide_translation.specs.Placed.{WideStep, AreTranslated, kind_of, placed}
use Rattle.wide_translation.specs.Results.{WideMeans}
use Rattle.wide_translation.specs.Scope.{WideScope, scope_of, condition_scope}
use Rattle.policy_glue.specs.Evaluation.{decision_of}
use Rattle.policy_glue.specs.Trees.{VariableTree, ValidationTree, PolicyTree}
use Rattle.policy_glue.specs.declared.failure_policy.FailurePolicy.{FailurePolicy}
use Rattle.wide_policy.specs.NarrowTrees.{is_policy_tabled}
use Rattle.wide_policy.specs.WideEvaluation.{wide_decision_of}
use Rattle.wide_policy.specs.WideTrees.{WideVariableTree, WideValidationTree, WidePolicyTree}

-- the lists have the same length, and this holds of the items at each place
abbrev pub EachPair : {A B : Type 0} → (A → B → Type 0) → List A → List B → Type 0
EachPair P [] [] = Unit {0}
EachPair P (a ∷ more) (b ∷ others) = P a b × EachPair P more others
EachPair P _ _ = ⊥

-- in this scope the tree has the value of the expression, which is no optional value
pub record CarriesValue (s : WideScope) (e : Wide) (a : Tree) : Type 0 where
  pub kind : ValueKind
  pub means : WideMeans s e (Value kind) a

-- a message expression, if there is one
abbrev pub CarriesMessage : WideScope → Option Wide → Option Tree → Type 0
CarriesMessage s (Some e) (Some a) = CarriesValue s e a
CarriesMessage s None None = Unit {0}
CarriesMessage s _ _ = ⊥

-- a validation
pub record CarriesValidation (s : WideScope) (r : WideValidationTree) (t : ValidationTree) : Type 0 where
  pub expression : CarriesValue s r.expression t.expression
  pub message : CarriesMessage s r.message t.message

-- a variable that is translated: its wide tree, and its tree in the profile
abbrev pub wide_variable : WideStep → WideVariableTree
wide_variable v = record { name = v.name; expression = v.wide }

abbrev pub profile_variable : WideStep → VariableTree
profile_variable v = record { name = v.name; expression = v.tree }

-- each expression of the second policy carries the value of the one of the first policy at its place, on roots that are
-- wrapped or not
pub record CarriesPolicy (wrapped : Bool) (w : WidePolicyTree) (t : PolicyTree) : Type 0 where
  pub steps : List WideStep
  pub are_translated : AreTranslated wrapped [] steps
  pub wide_are : w.variables ≡ map wide_variable steps
  pub trees_are : t.variables ≡ map profile_variable steps
  pub conditions : EachPair (CarriesValue (condition_scope wrapped)) w.conditions t.conditions
  pub validations : EachPair (CarriesValidation (scope_of wrapped (map kind_of steps))) w.validations t.validations

-- the roots on which a policy's translation is decided: if they are wrapped, with the indices 0, 1, .. beside the
-- parameters, as many as the documents are wide, and at least 16
abbrev pub roots_for : Bool → Roots → Roots
roots_for wrapped roots = placed wrapped (index_tables (table_length roots)) roots

-- A policy whose expressions carry the values of another's decides as the other does, on any roots, whatever the calls
-- mean that `wide_meaning` leaves open. If the roots are wrapped, the ranges of the other's macros have to be narrow.
abbrev pub CarriedPolicyDecides : Type 0
CarriedPolicyDecides = (others : Wide → WideEnvironment → Outcome) (wrapped : Bool) (f : FailurePolicy) (w : WidePolicyTree) (t : PolicyTree)
    (roots : Roots) → CarriesPolicy wrapped w t → (wrapped ≡ true → is_policy_tabled w ≡ true)
    → decision_of f t (roots_for wrapped roots) ≡ wide_decision_of others f w roots
