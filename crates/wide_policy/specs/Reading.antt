-- What is read in the document of a policy, and what its translation decides.
use Rattle.std.specs.Prelude.{◌≡◌, ℕ, Bool, true, false, List, Option, Some, None, Result, Ok, Err}
use Rattle.cel_macros.specs.Environment.{Roots}
use Rattle.wide_reader.specs.Answers.{IsWide}
use Rattle.wide_reader.specs.Tree.{Wide}
use Rattle.wide_meaning.specs.Environment.{WideEnvironment}
use Rattle.wide_meaning.specs.Outcome.{Outcome}
use Rattle.policy_glue.specs.Evaluation.{decision_of}
use Rattle.policy_glue.specs.Limits.{Compiles}
use Rattle.policy_glue.specs.Policy.{NamedExpression, Validation, Policy}
use Rattle.policy_glue.specs.Trees.{PolicyTree}
use Rattle.policy_glue.specs.declared.part_kind.PartKind.{PartKind}
use Rattle.wide_translation.specs.declared.translation_error.TranslationError.TheVariants.{NeedsIndices}
use Rattle.wide_policy.specs.Carrying.{EachPair, roots_for}
use Rattle.wide_policy.specs.NarrowTrees.{is_policy_tabled}
use Rattle.wide_policy.specs.Taking.{TakenParts, WidePartsEnd, source_of, profile_of, notes_from, wide_tree_of}
use Rattle.wide_policy.specs.WideDocuments.{wide_policy_in}
use Rattle.wide_policy.specs.WideEvaluation.{wide_decision_of}
use Rattle.wide_policy.specs.WideTrees.{WideVariableTree, WideValidationTree, WidePolicyTree}
use Rattle.wide_policy.specs.declared.expression_error.WideExpressionError.{TheVariants.Untranslated}
use Rattle.wide_policy.specs.declared.message_rule.MessageRule.{MessageRule}
use Rattle.wide_policy.specs.declared.policy.WidePolicy.{WidePolicy}
use Rattle.wide_policy.specs.declared.wide_policy_error.WidePolicyError.{WidePolicyError, TheVariants.InvalidExpression, TheVariants.Memory}

-- ---- what is read

-- The parts are taken with a table of indices beside the parameters: without one the first refusal is that an expression
-- needs it, with one all expressions are taken, and a table as long as the documents are wide, and at least 16, is long
-- enough for them.
pub record AreWrapped (rule : MessageRule) (p : Policy) (parts : TakenParts) : Type 0 where
  pub part : PartKind
  pub place : ℕ
  pub needed : WidePartsEnd false rule p (Err (InvalidExpression part place (Untranslated NeedsIndices)))
  pub end : WidePartsEnd true rule p (Ok parts)
  pub tabled : is_policy_tabled (wide_tree_of parts) ≡ true

-- the parts are taken, with or without the table
abbrev pub ArePartsTaken : Bool → MessageRule → Policy → TakenParts → Type 0
ArePartsTaken false rule p parts = WidePartsEnd false rule p (Ok parts)
ArePartsTaken true rule p parts = AreWrapped rule p parts

-- the policy in the document, its expressions as its author wrote them, and the policy with their translations
pub record IsWidePolicy (rule : MessageRule) (document : List ℕ) (p : WidePolicy) : Type 0 where
  pub parsed : Policy
  pub is_said : wide_policy_in document ≡ Ok parsed
  pub parts : TakenParts
  pub taken : ArePartsTaken p.wrapped rule parsed parts
  pub source : p.source ≡ source_of parsed parts
  pub profile : p.profile ≡ profile_of parsed parts
  pub left_out : p.left_out.items ≡ notes_from 0 parts.validations

-- an expression of the policy is refused, and a table of indices does not help
pub record IsRefusedReading (rule : MessageRule) (document : List ℕ) (e : WidePolicyError) : Type 0 where
  pub parsed : Policy
  pub is_said : wide_policy_in document ≡ Ok parsed
  pub end : WidePartsEnd false rule parsed (Err e)
  pub unmended : (parts : TakenParts) → AreWrapped rule parsed parts → ⊥

-- the policy, or the first refusal; or an allocation failed
abbrev pub WidePolicyReturns : MessageRule → List ℕ → Result WidePolicy WidePolicyError → Type 0
WidePolicyReturns rule document (Ok p) = IsWidePolicy rule document p
WidePolicyReturns rule document (Err (InvalidExpression part place e)) = IsRefusedReading rule document (InvalidExpression part place e)
WidePolicyReturns rule document (Err Memory) = Unit {0}
WidePolicyReturns rule document (Err e) = wide_policy_in document ≡ Err e

-- ---- what it decides

-- a variable's text is this expression, and its name this name
pub record IsWideVariable (n : NamedExpression) (v : WideVariableTree) : Type 0 where
  pub name : v.name ≡ n.name
  pub expression : IsWide n.expression v.expression

-- a condition's text is this expression
abbrev pub IsWideNamed : NamedExpression → Wide → Type 0
IsWideNamed n e = IsWide n.expression e

-- a message expression, if there is one
abbrev pub IsWideMessage : Option (List ℕ) → Option Wide → Type 0
IsWideMessage (Some text) (Some w) = IsWide text w
IsWideMessage None None = Unit {0}
IsWideMessage _ _ = ⊥

pub record IsWideValidation (n : Validation) (r : WideValidationTree) : Type 0 where
  pub expression : IsWide n.expression r.expression
  pub message : IsWideMessage n.message_expression r.message

-- the texts of the policy are these wide expressions
pub record IsWideTree (p : Policy) (w : WidePolicyTree) : Type 0 where
  pub variables : EachPair IsWideVariable p.variables w.variables
  pub conditions : EachPair IsWideNamed p.conditions w.conditions
  pub validations : EachPair IsWideValidation p.validations w.validations

-- the policy's texts are wide expressions
abbrev pub HasWideTree : Policy → Type 0
HasWideTree p = (w : WidePolicyTree) × IsWideTree p w

-- if the profile's policy compiles, it decides on any roots as the source decides by what its wide expressions mean,
-- for any meaning of the calls that `wide_meaning` leaves open; if it is wrapped, on the roots with the table of indices
abbrev pub DecidesAsWide : Bool → Policy → Policy → Type 0
DecidesAsWide wrapped source profile =
    (w : WidePolicyTree) (t : PolicyTree) (others : Wide → WideEnvironment → Outcome) (roots : Roots)
    → IsWideTree source w → Compiles profile (Ok t)
    → decision_of profile.failure_policy t (roots_for wrapped roots) ≡ wide_decision_of others source.failure_policy w roots
