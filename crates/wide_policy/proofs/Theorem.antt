-- What a policy that is read decides.
use Rattle.std.proofs.Common.{◌≡◌, ◌∙◌, List, [], ℕ, Bool, true, false, IfOk, Result, Ok, Err, length, map, sym, ap, subst}
use Rattle.std.proofs.lemmas.Bool.{false≢true}
use Rattle.cel_tokens.specs.Token.{Token}
use Rattle.cel_reader.specs.Answers.{IsExpression}
use Rattle.cel_reader.specs.Limits.{open_limit}
use Rattle.cel_reader.specs.Look.{words_only}
use Rattle.cel_reader.specs.Tree.{Tree}
use Rattle.cel_reader.proofs.Theorems.{whole_unique}
use Rattle.cel_reader.proofs.Told.{one_list}
use Rattle.wide_reader.specs.Laws.{HasOneWide}
use Rattle.policy_glue.specs.Checking.{ReadsTree}
use Rattle.policy_glue.specs.Evaluation.{decision_of}
use Rattle.policy_glue.specs.Policy.{Policy, Validation}
use Rattle.policy_glue.specs.declared.part_kind.PartKind.{PartKind}
use Rattle.policy_glue.specs.declared.part_kind.PartKind.TheVariants as part
use Rattle.wide_translation.specs.Placed.{kind_of}
use Rattle.policy_glue.specs.Trees.{PolicyTree}
use Rattle.wide_policy.proofs.Chains.{refusal_holds}
use Rattle.wide_policy.proofs.Trees.{parts_hold, wide_tree_is, one_wide_tree, compiled_trees, parts_carry}
use Rattle.wide_policy.specs.Carrying.{CarriedPolicyDecides, roots_for}
use Rattle.wide_policy.specs.Laws.{DecidesByTexts}
use Rattle.wide_policy.specs.NarrowTrees.{is_policy_tabled}
use Rattle.wide_policy.specs.Reading.{ArePartsTaken, DecidesAsWide, HasWideTree, IsWidePolicy, IsWideTree, WidePolicyReturns}
use Rattle.wide_policy.specs.Taking.{Visible, visible, RefusesPart, TakesWideVariable, RefusesWideVariable, TakesWideCondition, RefusesWideCondition, TakesWideValidation, RefusesWideValidation, TakenParts, WidePartsEnd, profile_of, source_of, tree_of, wide_tree_of}
use Rattle.wide_policy.specs.Taking as taking
use Rattle.wide_policy.specs.WideEvaluation.{wide_decision_of}
use Rattle.wide_policy.specs.WideTrees.{WidePolicyTree}
use Rattle.wide_policy.specs.declared.message_rule.MessageRule.{MessageRule}
use Rattle.wide_policy.specs.declared.policy.WidePolicy.{WidePolicy}
use Rattle.wide_policy.specs.declared.wide_policy_error.WidePolicyError.{WidePolicyError}
use Rattle.wide_policy.specs.declared.wide_policy_error.WidePolicyError.TheVariants as error

-- a text has one tree
reads_once : (text : List ℕ) (a b : Tree) → ReadsTree text a → ReadsTree text b → a ≡ b
reads_once text a b r s =
    whole_unique open_limit open_limit (words_only s.0) a b (subst (λ (ls : List Token). IsExpression open_limit (words_only ls) a) (one_list text r.0 s.0 r.1 s.1) r.2) s.2

-- the policies of the parts that are taken
module _ (wrapped : Bool) (r : MessageRule) (p : Policy) (parts : TakenParts) (ends : WidePartsEnd wrapped r p (Ok parts)) where
  -- the source has the trees of the parts
  pub has_tree : (source : Policy) → source ≡ source_of p parts → IsWideTree source (wide_tree_of parts)
  has_tree source is = subst (λ (q : Policy). IsWideTree q (wide_tree_of parts)) (sym is) (wide_tree_is wrapped r p parts (parts_hold wrapped r p parts ends))

  module _ (law : CarriedPolicyDecides) (one_wide : HasOneWide) (tabled : wrapped ≡ true → is_policy_tabled (wide_tree_of parts) ≡ true) where
    decides_by : DecidesAsWide wrapped (source_of p parts) (profile_of p parts)
    decides_by w t others roots wide compiles =
        let holds = parts_hold wrapped r p parts ends in
        let same : w ≡ wide_tree_of parts = one_wide_tree one_wide (source_of p parts) w (wide_tree_of parts) wide (wide_tree_is wrapped r p parts holds) in
        let trees : t ≡ tree_of parts = compiled_trees reads_once wrapped r p parts t holds compiles in
        ap (λ (u : PolicyTree). decision_of p.failure_policy u (roots_for wrapped roots)) trees
        ∙ law others wrapped p.failure_policy (wide_tree_of parts) (tree_of parts) roots (parts_carry wrapped r p parts holds) tabled
        ∙ ap (λ (v : WidePolicyTree). wide_decision_of others p.failure_policy v roots) (sym same)

    decides_as_wide : (source profile : Policy) → source ≡ source_of p parts → profile ≡ profile_of p parts → DecidesAsWide wrapped source profile
    decides_as_wide source profile is also =
        subst (λ (q : Policy). DecidesAsWide wrapped q profile) (sym is) (subst (λ (q : Policy). DecidesAsWide wrapped (source_of p parts) q) (sym also) decides_by)

-- the parts of a policy that is read
end_of : (wrapped : Bool) (r : MessageRule) (p : Policy) (parts : TakenParts) → ArePartsTaken wrapped r p parts → WidePartsEnd wrapped r p (Ok parts)
end_of false r p parts is = is
end_of true r p parts is = is.end

tabled_of : (wrapped : Bool) (r : MessageRule) (p : Policy) (parts : TakenParts) → ArePartsTaken wrapped r p parts → wrapped ≡ true → is_policy_tabled (wide_tree_of parts) ≡ true
tabled_of false r p parts is h = absurd (false≢true h)
tabled_of true r p parts is h = is.tabled

-- ---- the law

pub policies_decide : CarriedPolicyDecides → HasOneWide → (r : MessageRule) (document : List ℕ) (p : WidePolicy) → IsWidePolicy r document p → DecidesByTexts p
policies_decide law one_wide r document p is =
    let ends = end_of p.wrapped r is.parsed is.parts is.taken in
    record {
      wide = (wide_tree_of is.parts, has_tree p.wrapped r is.parsed is.parts ends p.source is.source);
      decides = decides_as_wide p.wrapped r is.parsed is.parts ends law one_wide (tabled_of p.wrapped r is.parsed is.parts is.taken) p.source p.profile is.source is.profile;
    }

module _ (r : MessageRule) (document : List ℕ) where
  pub wide_read : CarriedPolicyDecides → HasOneWide → (x : Result WidePolicy WidePolicyError) → WidePolicyReturns r document x → IfOk x (λ (p : WidePolicy). HasWideTree p.source)
  wide_read law one_wide (Ok p) said = (policies_decide law one_wide r document p said).wide
  wide_read law one_wide (Err e) said = tt

  pub decided_read : CarriedPolicyDecides → HasOneWide → (x : Result WidePolicy WidePolicyError) → WidePolicyReturns r document x
      → IfOk x (λ (p : WidePolicy). DecidesAsWide p.wrapped p.source p.profile)
  decided_read law one_wide (Ok p) said = (policies_decide law one_wide r document p said).decides
  decided_read law one_wide (Err e) said = tt

-- ---- refusals

-- the error is that of an expression
abbrev pub IsOfExpression : WidePolicyError → Type 0
IsOfExpression (error.InvalidExpression p n x) = Unit {0}
IsOfExpression _ = ⊥

part_fault : (p : PartKind) (seen : Visible) (place : ℕ) (text : List ℕ) (e : WidePolicyError) → RefusesPart p seen place text e → IsOfExpression e
part_fault p seen place text e because = subst IsOfExpression (sym because.is) tt

validation_fault : (r : MessageRule) (seen : Visible) (place : ℕ) (n : Validation) (e : WidePolicyError) → RefusesWideValidation r seen place n e → IsOfExpression e
validation_fault r seen place n e (taking.expression f because) = part_fault part.Validation seen place n.expression f because
validation_fault r seen place n e (taking.message x text f required is said because) = part_fault part.Message seen place text f because

pub parts_fault : (wrapped : Bool) (r : MessageRule) (p : Policy) (end : Result TakenParts WidePolicyError) (e : WidePolicyError) → WidePartsEnd wrapped r p end → end ≡ Err e → IsOfExpression e
parts_fault wrapped r p end e (taking.in_variables f ends) is =
    let same : f ≡ e = cc in
    subst IsOfExpression same (refusal_holds (TakesWideVariable wrapped) (RefusesWideVariable wrapped) IsOfExpression (λ taken n g. part_fault part.Variable (visible wrapped (map kind_of taken)) (length taken) n.expression g) p.variables f ends)
parts_fault wrapped r p end e (taking.in_conditions vs f before ends) is =
    let same : f ≡ e = cc in
    subst IsOfExpression same (refusal_holds (TakesWideCondition wrapped) (RefusesWideCondition wrapped) IsOfExpression (λ taken n g. part_fault part.Condition (visible wrapped []) (length taken) n.expression g) p.conditions f ends)
parts_fault wrapped r p end e (taking.in_validations vs cs f before between ends) is =
    let same : f ≡ e = cc in
    subst IsOfExpression same (refusal_holds (λ taken n b. TakesWideValidation r (visible wrapped (map kind_of vs)) n b) (λ taken n g. RefusesWideValidation r (visible wrapped (map kind_of vs)) (length taken) n g)
    IsOfExpression (λ taken n g. validation_fault r (visible wrapped (map kind_of vs)) (length taken) n g) p.validations f ends)
parts_fault wrapped r p end e (taking.taken vs cs rs v c s) is = absurd (cc)
