-- Which expressions a policy may have, and which one is refused first. Variables, conditions and validations are tested
-- in this order, each list in its own order. A message expression comes directly after its validation. Each expression
-- is tested completely before the next.
use Rattle.std.specs.Prelude.{◌≡◌, ℕ, ◌+◌, Bool, true, false, List, [], ◌∷◌, ◌++◌, length, map, Option, Some, None, option_map, Result, Ok, Err}
use Rattle.cel_tokens.specs.declared.read_error.ReadError.TheVariants as read_error
use Rattle.cel_reader.specs.Tree.{Tree}
use Rattle.cel_writer.specs.Printed.{printed}
use Rattle.cel_writer.specs.Writing.{IsReadBack}
use Rattle.wide_reader.specs.Answers.{IsWide, WideReadReturns}
use Rattle.wide_reader.specs.Tree.{Wide}
use Rattle.wide_reader.specs.declared.wide_error.WideReadError.{WideReadError, TheVariants.Text}
use Rattle.wide_kinds.specs.declared.kind.Kind.{Kind, TheVariants.Value, TheVariants.Optional}
use Rattle.wide_translation.specs.Carried as carried
use Rattle.wide_translation.specs.Declarations.{IsTranslatedTo, fault_of, is_memory}
use Rattle.wide_translation.specs.Placed.{WideStep, kind_of}
use Rattle.wide_translation.specs.Scope.{WideScope, scope_of, condition_scope}
use Rattle.wide_translation.specs.Translated.{translated}
use Rattle.wide_translation.specs.declared.translation_error.TranslationError.{TranslationError}
use Rattle.policy_glue.specs.Policy.{NamedExpression, Validation, Policy}
use Rattle.policy_glue.specs.Trees.{ValidationTree, PolicyTree}
use Rattle.policy_glue.specs.declared.part_kind.PartKind.{PartKind, TheVariants.Variable, TheVariants.Condition, TheVariants.Message}
use Rattle.policy_glue.specs.declared.part_kind.PartKind.TheVariants as part
use Rattle.wide_policy.specs.Carrying.{wide_variable, profile_variable}
use Rattle.wide_policy.specs.Depth.{is_too_deep}
use Rattle.wide_policy.specs.WideTrees.{WideValidationTree, WidePolicyTree}
use Rattle.wide_policy.specs.declared.left_out.LeftOut.{LeftOut}
use Rattle.wide_policy.specs.declared.message_rule.MessageRule.{MessageRule, TheVariants.Required, TheVariants.LeftOut as MayBeLeftOut}
use Rattle.wide_policy.specs.declared.expression_error.WideExpressionError.{WideExpressionError, TheVariants.Unread, TheVariants.TooDeep, TheVariants.Untranslated, TheVariants.OptionalResult, TheVariants.Unwritten, TheVariants.Memory}
use Rattle.wide_policy.specs.declared.wide_policy_error.WidePolicyError.{WidePolicyError, TheVariants.InvalidExpression}

-- ---- one expression

-- the tree of an expression, its translation, and the kind of both
pub record TakenExpression : Type 0 where
  pub wide : Wide
  pub kind : Kind
  pub tree : Tree

-- what an expression may use: these variables, and the root `params`, which has tables beside the parameters if it is
-- wrapped
pub record Visible : Type 0 where
  pub wrapped : Bool
  pub variables : List (List ℕ × Kind)

abbrev pub visible : Bool → List (List ℕ × Kind) → Visible
visible wrapped variables = record { wrapped = wrapped; variables = variables }

-- the scope of a part's expression; that of a match condition has no variables
abbrev pub scope_for : PartKind → Visible → WideScope
scope_for Condition s = condition_scope s.wrapped
scope_for p s = scope_of s.wrapped s.variables

-- the text is this expression, which is not too deep, and this is its translation, as a part that may use this
pub record IsTranslated (p : PartKind) (s : Visible) (text : List ℕ) (x : TakenExpression) : Type 0 where
  pub reads : IsWide text x.wide
  pub shallow : is_too_deep x.wide ≡ false
  pub translation : IsTranslatedTo (translated (scope_for p s) x.wide) x.kind x.tree

-- whether the expression of this part may be of this kind: that of a variable may be an optional value
abbrev pub fits : PartKind → Kind → Bool
fits Variable k = true
fits p (Value k) = true
fits p (Optional k) = false

-- the expression of the part is taken: its translation can be written
pub record IsTakenPart (p : PartKind) (s : Visible) (text : List ℕ) (x : TakenExpression) : Type 0 where
  pub is : IsTranslated p s text x
  pub fit : fits p x.kind ≡ true
  pub written : IsReadBack x.tree

-- the text is not an expression
abbrev pub IsUnreadWide : List ℕ → WideReadError → Type 0
IsUnreadWide text (Text read_error.Memory) = ⊥
IsUnreadWide text e = WideReadReturns text (Err e)

-- the text is an expression that is not too deep, and has no translation
abbrev pub IsUntranslated : PartKind → Visible → List ℕ → TranslationError → Type 0
IsUntranslated p s text e =
    (is_memory e ≡ false) × (w : Wide) × IsWide text w × (is_too_deep w ≡ false)
    × (translated (scope_for p s) w ≡ carried.refused (fault_of e))

-- Why the expression of a part is refused. The causes exclude each other: of a text that is no expression nothing else
-- is asked, an expression that is too deep is not translated, and so on.
abbrev pub IsRefusedPart : PartKind → Visible → List ℕ → WideExpressionError → Type 0
IsRefusedPart p s text (Unread e) = IsUnreadWide text e
IsRefusedPart p s text TooDeep = (w : Wide) × IsWide text w × (is_too_deep w ≡ true)
IsRefusedPart p s text (Untranslated e) = IsUntranslated p s text e
IsRefusedPart p s text OptionalResult = (x : TakenExpression) × IsTranslated p s text x × (fits p x.kind ≡ false)
IsRefusedPart p s text Unwritten =
    (x : TakenExpression) × IsTranslated p s text x × (fits p x.kind ≡ true) × (IsReadBack x.tree → ⊥)
IsRefusedPart p s text Memory = ⊥

-- the part at this place is refused
pub record RefusesPart (p : PartKind) (s : Visible) (place : ℕ) (text : List ℕ) (e : WidePolicyError) : Type 0 where
  pub cause : WideExpressionError
  pub because : IsRefusedPart p s text cause
  pub is : e ≡ InvalidExpression p place cause

-- ---- lists of parts

-- from here on: every remaining part is taken, or the first one that is not is refused. The first list has the parts
-- taken so far.
pub data EndsWith {A B : Type 0} (Takes : List B → A → B → Type 0) (Refuses : List B → A → WidePolicyError → Type 0)
    : List B → List A → Result (List B) WidePolicyError → Type 0 where
  over : {taken : List B} → EndsWith Takes Refuses taken [] (Ok taken)
  refused : {taken : List B} {n : A} {more : List A} (e : WidePolicyError) → Refuses taken n e
      → EndsWith Takes Refuses taken (n ∷ more) (Err e)
  next : {taken : List B} {n : A} {more : List A} {end : Result (List B) WidePolicyError} (b : B) → Takes taken n b
      → EndsWith Takes Refuses (taken ++ b ∷ []) more end → EndsWith Takes Refuses taken (n ∷ more) end

-- ---- variables and conditions

abbrev pub expression_of : WideStep → TakenExpression
expression_of v = record { wide = v.wide; kind = v.kind; tree = v.tree }

-- a variable or condition is taken with its name
pub record TakesNamed (p : PartKind) (s : Visible) (n : NamedExpression) (v : WideStep) : Type 0 where
  pub name : v.name ≡ n.name
  pub expression : IsTakenPart p s n.expression (expression_of v)

-- a variable may use the earlier ones; its place is their number
abbrev pub TakesWideVariable : Bool → List WideStep → NamedExpression → WideStep → Type 0
TakesWideVariable wrapped taken n v = TakesNamed Variable (visible wrapped (map kind_of taken)) n v

abbrev pub RefusesWideVariable : Bool → List WideStep → NamedExpression → WidePolicyError → Type 0
RefusesWideVariable wrapped taken n e =
    RefusesPart Variable (visible wrapped (map kind_of taken)) (length taken) n.expression e

-- a condition may use no variable
abbrev pub TakesWideCondition : Bool → List WideStep → NamedExpression → WideStep → Type 0
TakesWideCondition wrapped taken n v = TakesNamed Condition (visible wrapped []) n v

abbrev pub RefusesWideCondition : Bool → List WideStep → NamedExpression → WidePolicyError → Type 0
RefusesWideCondition wrapped taken n e = RefusesPart Condition (visible wrapped []) (length taken) n.expression e

abbrev pub WideVariablesEnd : Bool → List NamedExpression → Result (List WideStep) WidePolicyError → Type 0
WideVariablesEnd wrapped ns end = EndsWith (TakesWideVariable wrapped) (RefusesWideVariable wrapped) [] ns end

abbrev pub WideConditionsEnd : Bool → List NamedExpression → Result (List WideStep) WidePolicyError → Type 0
WideConditionsEnd wrapped ns end = EndsWith (TakesWideCondition wrapped) (RefusesWideCondition wrapped) [] ns end

-- ---- validations

-- a validation, without its message expression if that is left out; its expressions; and why its message expression is
-- left out
pub record TakenValidation : Type 0 where
  pub source : Validation
  pub expression : TakenExpression
  pub message : Option TakenExpression
  pub left_out : Option WideExpressionError

-- the message expression is taken, or there is none; or it is refused and left out
abbrev pub TakesWideMessage : MessageRule → Visible → Option (List ℕ) → Option TakenExpression
    → Option WideExpressionError → Type 0
TakesWideMessage rule s None None None = Unit {0}
TakesWideMessage rule s (Some text) (Some x) None = IsTakenPart Message s text x
TakesWideMessage rule s (Some text) None (Some e) = (rule ≡ MayBeLeftOut) × IsRefusedPart Message s text e
TakesWideMessage rule s _ _ _ = ⊥

-- the text of a message expression, unless it is left out
abbrev pub kept_text : Option WideExpressionError → Option (List ℕ) → Option (List ℕ)
kept_text None text = text
kept_text (Some e) text = None

-- a validation may use all variables
pub record TakesWideValidation (rule : MessageRule) (s : Visible) (n : Validation) (r : TakenValidation) : Type 0 where
  pub source : r.source ≡ record n { message_expression = kept_text r.left_out n.message_expression }
  pub expression : IsTakenPart part.Validation s n.expression r.expression
  pub message : TakesWideMessage rule s n.message_expression r.message r.left_out

-- the validation at this place is refused: for its expression, or else for its message expression, if that is required
pub data RefusesWideValidation (rule : MessageRule) (s : Visible) (place : ℕ) (n : Validation)
    : WidePolicyError → Type 0 where
  expression : (e : WidePolicyError) → RefusesPart part.Validation s place n.expression e
      → RefusesWideValidation rule s place n e
  message : (x : TakenExpression) (text : List ℕ) (e : WidePolicyError) → rule ≡ Required
      → IsTakenPart part.Validation s n.expression x
      → n.message_expression ≡ Some text → RefusesPart Message s place text e → RefusesWideValidation rule s place n e

abbrev pub WideValidationsEnd : MessageRule → Visible → List Validation
    → Result (List TakenValidation) WidePolicyError → Type 0
WideValidationsEnd rule s ns end = EndsWith (λ taken n r. TakesWideValidation rule s n r)
    (λ taken n e. RefusesWideValidation rule s (length taken) n e) [] ns end

-- ---- the policy

-- the parts of a policy whose expressions are taken
pub record TakenParts : Type 0 where
  pub variables : List WideStep
  pub conditions : List WideStep
  pub validations : List TakenValidation

-- the expressions of the policy are taken, or the first one is refused; as expressions for roots that are wrapped or not
pub data WidePartsEnd (wrapped : Bool) (rule : MessageRule) (p : Policy) : Result TakenParts WidePolicyError → Type 0 where
  in_variables : (e : WidePolicyError) → WideVariablesEnd wrapped p.variables (Err e) → WidePartsEnd wrapped rule p (Err e)
  in_conditions : (vs : List WideStep) (e : WidePolicyError) → WideVariablesEnd wrapped p.variables (Ok vs)
      → WideConditionsEnd wrapped p.conditions (Err e) → WidePartsEnd wrapped rule p (Err e)
  in_validations : (vs cs : List WideStep) (e : WidePolicyError) → WideVariablesEnd wrapped p.variables (Ok vs)
      → WideConditionsEnd wrapped p.conditions (Ok cs) → WideValidationsEnd rule (visible wrapped (map kind_of vs)) p.validations (Err e)
      → WidePartsEnd wrapped rule p (Err e)
  taken : (vs cs : List WideStep) (rs : List TakenValidation) → WideVariablesEnd wrapped p.variables (Ok vs)
      → WideConditionsEnd wrapped p.conditions (Ok cs)
      → WideValidationsEnd rule (visible wrapped (map kind_of vs)) p.validations (Ok rs)
      → WidePartsEnd wrapped rule p (Ok (record { variables = vs; conditions = cs; validations = rs }))

-- ---- the policies that follow

-- a variable or condition whose text is that of its translation
abbrev pub profile_named : WideStep → NamedExpression
profile_named v = record { name = v.name; expression = printed v.tree }

-- a validation whose texts are those of its translations
abbrev pub profile_validation : TakenValidation → Validation
profile_validation r = record {
  expression = printed r.expression.tree;
  message = r.source.message;
  reason = r.source.reason;
  message_expression = option_map (λ (x : TakenExpression). printed x.tree) r.message;
}

-- the policy with the texts of its author, without the message expressions that are left out
abbrev pub source_of : Policy → TakenParts → Policy
source_of p t = record p { validations = map (λ (r : TakenValidation). r.source) t.validations }

-- the policy with the texts of the translations
abbrev pub profile_of : Policy → TakenParts → Policy
profile_of p t = record {
  failure_policy = p.failure_policy;
  conditions = map profile_named t.conditions;
  variables = map profile_named t.variables;
  validations = map profile_validation t.validations;
}

-- the note for the validation at this place, if its message expression is left out
abbrev pub with_note : ℕ → Option WideExpressionError → List LeftOut → List LeftOut
with_note place None more = more
with_note place (Some e) more = record { validation = place; cause = e } ∷ more

-- the message expressions that are left out, in order
abbrev pub notes_from : ℕ → List TakenValidation → List LeftOut
notes_from place [] = []
notes_from place (r ∷ rs) = with_note place r.left_out (notes_from (place + 1) rs)

-- the trees of the texts of its author, and of their translations
abbrev pub wide_validation : TakenValidation → WideValidationTree
wide_validation r = record { expression = r.expression.wide; message = option_map (λ (x : TakenExpression). x.wide) r.message }

abbrev pub wide_tree_of : TakenParts → WidePolicyTree
wide_tree_of t = record {
  variables = map wide_variable t.variables;
  conditions = map (λ (v : WideStep). v.wide) t.conditions;
  validations = map wide_validation t.validations;
}

abbrev pub validation_tree : TakenValidation → ValidationTree
validation_tree r = record { expression = r.expression.tree; message = option_map (λ (x : TakenExpression). x.tree) r.message }

abbrev pub tree_of : TakenParts → PolicyTree
tree_of t = record {
  variables = map profile_variable t.variables;
  conditions = map (λ (v : WideStep). v.tree) t.conditions;
  validations = map validation_tree t.validations;
}
