-- Results of the code on single expressions, on lists of parts, and on policies.
use Rattle.std.specs.Prelude.{◌≡◌, ◌≢◌, ℕ, Bool, true, false, List, [], ◌∷◌, ◌++◌, map, Option, Some, None, option_map, Result, Ok, Err, String, string_bytes, Vec}
use Rattle.std.specs.Global.{Global}
use Rattle.cel_reader.specs.Tree.{view}
use Rattle.cel_writer.specs.Printed.{printed}
use Rattle.wide_kinds.specs.declared.kind.Kind.{Kind}
use Rattle.wide_translation.specs.Placed.{WideStep, kind_of}
use Rattle.wide_translation.specs.declared.translated.Translated.{Translated}
use Rattle.policy_glue.specs.Policy.{NamedExpression, Validation, Policy, named_view, validation_view}
use Rattle.policy_glue.specs.declared.named_expression.NamedExpression.{NamedExpression as CodeNamedExpression}
use Rattle.policy_glue.specs.declared.part_kind.PartKind.{PartKind, TheVariants.Message, TheVariants.Variable, TheVariants.Condition}
use Rattle.wide_policy.specs.Taking.{TakenExpression, Visible, visible, IsTranslated, IsTakenPart, IsRefusedPart, RefusesPart, TakesNamed, WideVariablesEnd, WideConditionsEnd, TakenValidation, TakesWideMessage, TakesWideValidation, RefusesWideValidation, WideValidationsEnd, TakenParts, WidePartsEnd, profile_named, profile_validation, source_of, profile_of, kept_text, with_note, notes_from}
use Rattle.wide_policy.specs.NarrowTrees.{is_policy_tabled}
use Rattle.wide_policy.specs.Reading.{IsWideTree}
use Rattle.wide_policy.specs.WideDocuments.{wide_policy_in}
use Rattle.wide_policy.specs.WideTrees.{WidePolicyTree}
use Rattle.wide_policy.specs.declared.message_rule.MessageRule.{MessageRule, TheVariants.Required, TheVariants.LeftOut as MayBeLeftOut}
use Rattle.wide_policy.specs.declared.expression_error.WideExpressionError.{WideExpressionError}
use Rattle.wide_policy.specs.declared.expression_error.WideExpressionError.TheVariants as expression_error
use Rattle.wide_policy.specs.declared.policy.WidePolicy.{WidePolicy}
use Rattle.wide_policy.specs.declared.taken_message.TakenMessage.{TakenMessage}
use Rattle.wide_policy.specs.declared.taken_pair.TakenPair.{TakenPair}
use Rattle.wide_policy.specs.declared.taken_lists.TakenLists.{TakenLists}
use Rattle.wide_policy.specs.declared.wide_policy_error.WidePolicyError.{WidePolicyError, TheVariants.InvalidExpression}
use Rattle.wide_policy.specs.declared.wide_policy_error.WidePolicyError.TheVariants as wide_error

-- ---- one expression

-- the expression of the text, and its translation; or why it has none
abbrev pub ReturnsTranslation : PartKind → Visible → List ℕ → Result Translated WideExpressionError → Type 0
ReturnsTranslation p s text (Ok t) =
    (x : TakenExpression) × IsTranslated p s text x × (x.kind ≡ t.kind) × (x.tree ≡ view t.expression)
ReturnsTranslation p s text (Err e) = e ≢ expression_error.Memory → IsRefusedPart p s text e

-- the kind and the text of a part's translation
pub record IsPartTakenAs (p : PartKind) (s : Visible) (source : List ℕ) (kind : Kind) (text : List ℕ) : Type 0 where
  pub expression : TakenExpression
  pub taken : IsTakenPart p s source expression
  pub kind_is : kind ≡ expression.kind
  pub text_is : text ≡ printed expression.tree

abbrev pub ReturnsExpression : PartKind → Visible → List ℕ → Result (Kind × String Global) WideExpressionError → Type 0
ReturnsExpression p s text (Ok x) = IsPartTakenAs p s text x.0 (string_bytes x.1)
ReturnsExpression p s text (Err e) = e ≢ expression_error.Memory → IsRefusedPart p s text e

abbrev pub ReturnsPart : PartKind → ℕ → Visible → List ℕ → Result (Kind × String Global) WidePolicyError → Type 0
ReturnsPart p place s text (Ok x) = IsPartTakenAs p s text x.0 (string_bytes x.1)
ReturnsPart p place s text (Err e) = e ≢ wide_error.Memory → RefusesPart p s place text e

-- ---- variables and conditions

-- with one more variable
abbrev pub with_variable : Visible → List ℕ × Kind → Visible
with_variable s v = record s { variables = s.variables ++ v ∷ [] }

-- a variable is added to the scope, and its translation to the end of the list
pub record IsAddedWide (n : NamedExpression) (old new : Visible) (before after : List NamedExpression) : Type 0 where
  pub variable : WideStep
  pub taken : TakesNamed Variable old n variable
  pub scope : new ≡ with_variable old (kind_of variable)
  pub list : after ≡ before ++ profile_named variable ∷ []

abbrev pub ReturnsVariable : NamedExpression → ℕ → Visible → Visible → List NamedExpression → List NamedExpression → Result (Unit {0}) WidePolicyError → Type 0
ReturnsVariable n place old new before after (Ok u) = IsAddedWide n old new before after
ReturnsVariable n place old new before after (Err e) = e ≢ wide_error.Memory → RefusesPart Variable old place n.expression e

abbrev pub ReturnsVariables : Bool → List NamedExpression → Result (Visible × Vec CodeNamedExpression Global) WidePolicyError → Type 0
ReturnsVariables wrapped ns (Ok x) =
    (vs : List WideStep) × WideVariablesEnd wrapped ns (Ok vs) × (x.0 ≡ visible wrapped (map kind_of vs))
    × (map named_view x.1.items ≡ map profile_named vs)
ReturnsVariables wrapped ns (Err e) = e ≢ wide_error.Memory → WideVariablesEnd wrapped ns (Err e)

abbrev pub ReturnsCondition : ℕ → Visible → NamedExpression → Result CodeNamedExpression WidePolicyError → Type 0
ReturnsCondition place s n (Ok m) = (v : WideStep) × TakesNamed Condition s n v × (named_view m ≡ profile_named v)
ReturnsCondition place s n (Err e) = e ≢ wide_error.Memory → RefusesPart Condition s place n.expression e

abbrev pub ReturnsConditions : Bool → List NamedExpression → Result (Vec CodeNamedExpression Global) WidePolicyError → Type 0
ReturnsConditions wrapped ns (Ok x) =
    (cs : List WideStep) × WideConditionsEnd wrapped ns (Ok cs) × (map named_view x.items ≡ map profile_named cs)
ReturnsConditions wrapped ns (Err e) = e ≢ wide_error.Memory → WideConditionsEnd wrapped ns (Err e)

-- ---- validations

-- the texts of a message expression: its author's, if it is not left out, and that of its translation
pub record IsMessageTaken (rule : MessageRule) (s : Visible) (text : Option (List ℕ)) (m : TakenMessage) : Type 0 where
  pub expression : Option TakenExpression
  pub taken : TakesWideMessage rule s text expression m.refusal
  pub source : option_map string_bytes m.source ≡ kept_text m.refusal text
  pub profile : option_map string_bytes m.profile ≡ option_map (λ (x : TakenExpression). printed x.tree) expression

-- the message expression of the validation at this place is refused
pub record IsMessageRefused (rule : MessageRule) (place : ℕ) (s : Visible) (text : Option (List ℕ))
    (e : WidePolicyError) : Type 0 where
  pub source : List ℕ
  pub is : text ≡ Some source
  pub required : rule ≡ Required
  pub because : RefusesPart Message s place source e

abbrev pub ReturnsMessage : MessageRule → ℕ → Visible → Option (List ℕ) → Result TakenMessage WidePolicyError → Type 0
ReturnsMessage rule place s text (Ok m) = IsMessageTaken rule s text m
ReturnsMessage rule place s text (Err e) = e ≢ wide_error.Memory → IsMessageRefused rule place s text e

-- a refusal of a message expression leaves it out, if the rule says so; out of memory stays `Memory`
abbrev pub leave_out : MessageRule → WidePolicyError → Option WideExpressionError
leave_out MayBeLeftOut (InvalidExpression p place e) = Some e
leave_out _ _ = None

pub record LeavesNothing (m : TakenMessage) (e : WideExpressionError) : Type 0 where
  pub source : m.source ≡ None
  pub profile : m.profile ≡ None
  pub refusal : m.refusal ≡ Some e

abbrev pub LeavesOut : MessageRule → WidePolicyError → Result TakenMessage WidePolicyError → Type 0
LeavesOut rule e (Ok m) = (cause : WideExpressionError) × (leave_out rule e ≡ Some cause) × LeavesNothing m cause
LeavesOut rule e (Err f) = (f ≡ e) × (leave_out rule e ≡ None)

-- a validation with its translation
pub record IsPairOf (r : TakenValidation) (pair : TakenPair) : Type 0 where
  pub source : validation_view pair.source ≡ r.source
  pub profile : validation_view pair.profile ≡ profile_validation r
  pub refusal : pair.refusal ≡ r.left_out

abbrev pub ReturnsValidation : MessageRule → ℕ → Visible → Validation → Result TakenPair WidePolicyError → Type 0
ReturnsValidation rule place s n (Ok pair) = (r : TakenValidation) × TakesWideValidation rule s n r × IsPairOf r pair
ReturnsValidation rule place s n (Err e) = e ≢ wide_error.Memory → RefusesWideValidation rule s place n e

-- the validation at this place is added to the lists
pub record HasAddedPair (old new : TakenLists) (place : ℕ) (pair : TakenPair) : Type 0 where
  pub source : new.source.items ≡ old.source.items ++ pair.source ∷ []
  pub profile : new.profile.items ≡ old.profile.items ++ pair.profile ∷ []
  pub left_out : new.left_out.items ≡ old.left_out.items ++ with_note place pair.refusal []

-- the lists have these validations
pub record IsListsOf (rs : List TakenValidation) (lists : TakenLists) : Type 0 where
  pub source : map validation_view lists.source.items ≡ map (λ (r : TakenValidation). r.source) rs
  pub profile : map validation_view lists.profile.items ≡ map profile_validation rs
  pub left_out : lists.left_out.items ≡ notes_from 0 rs

abbrev pub ReturnsValidations : MessageRule → Visible → List Validation → Result TakenLists WidePolicyError → Type 0
ReturnsValidations rule s ns (Ok lists) =
    (rs : List TakenValidation) × WideValidationsEnd rule s ns (Ok rs) × IsListsOf rs lists
ReturnsValidations rule s ns (Err e) = e ≢ wide_error.Memory → WideValidationsEnd rule s ns (Err e)

-- ---- policies

-- the policy and its translation
pub record IsPolicyOfParts (wrapped : Bool) (parsed : Policy) (parts : TakenParts) (p : WidePolicy) : Type 0 where
  pub wrapped_is : p.wrapped ≡ wrapped
  pub source : p.source ≡ source_of parsed parts
  pub profile : p.profile ≡ profile_of parsed parts
  pub left_out : p.left_out.items ≡ notes_from 0 parts.validations

abbrev pub ReturnsPolicy : Bool → MessageRule → Policy → Result WidePolicy WidePolicyError → Type 0
ReturnsPolicy wrapped rule parsed (Ok p) =
    (parts : TakenParts) × WidePartsEnd wrapped rule parsed (Ok parts) × IsPolicyOfParts wrapped parsed parts p
ReturnsPolicy wrapped rule parsed (Err e) = e ≢ wide_error.Memory → WidePartsEnd wrapped rule parsed (Err e)

-- the policy in a document is read, with or without a table of indices
pub record IsReadAs (wrapped : Bool) (rule : MessageRule) (document : List ℕ) (p : WidePolicy) : Type 0 where
  pub parsed : Policy
  pub is_said : wide_policy_in document ≡ Ok parsed
  pub parts : TakenParts
  pub end : WidePartsEnd wrapped rule parsed (Ok parts)
  pub is : IsPolicyOfParts wrapped parsed parts p

-- an expression of the policy in a document is refused
pub record IsRefusedAs (wrapped : Bool) (rule : MessageRule) (document : List ℕ) (e : WidePolicyError) : Type 0 where
  pub parsed : Policy
  pub is_said : wide_policy_in document ≡ Ok parsed
  pub end : WidePartsEnd wrapped rule parsed (Err e)

abbrev pub ReadsWide : Bool → MessageRule → List ℕ → Result WidePolicy WidePolicyError → Type 0
ReadsWide wrapped rule document (Ok p) = IsReadAs wrapped rule document p
ReadsWide wrapped rule document (Err (InvalidExpression part place e)) =
    IsRefusedAs wrapped rule document (InvalidExpression part place e)
ReadsWide wrapped rule document (Err wide_error.Memory) = Unit {0}
ReadsWide wrapped rule document (Err e) = wide_policy_in document ≡ Err e

-- the policy, if a table of indices is long enough for it
abbrev pub ReturnsTabled : WidePolicy → Option WidePolicy → Type 0
ReturnsTabled p (Some q) = (p ≡ q) × ((w : WidePolicyTree) → IsWideTree p.source w → is_policy_tabled w ≡ true)
ReturnsTabled p None = (w : WidePolicyTree) → IsWideTree p.source w → is_policy_tabled w ≡ false

-- the policy, if a table of indices is long enough for it; else this refusal; or an allocation failed
abbrev pub IsTabledOr : WidePolicy → WidePolicyError → Result WidePolicy WidePolicyError → Type 0
IsTabledOr p e (Ok q) = ReturnsTabled p (Some q)
IsTabledOr p e (Err wide_error.Memory) = Unit {0}
IsTabledOr p e (Err f) = (f ≡ e) × ReturnsTabled p None

-- the first of two refusals; out of memory stays `Memory`
abbrev pub first_refusal : WidePolicyError → WidePolicyError → WidePolicyError
first_refusal wide_error.Memory first = wide_error.Memory
first_refusal second first = first
