-- Results on whole policies.
use Rattle.std.proofs.Common.{◌≡◌, Bool, map, Ok, Err, Vec, sym, subst}
use Rattle.std.specs.Global.{Global}
use Rattle.wide_translation.specs.Placed.{kind_of}
use Rattle.policy_glue.specs.Policy.{Policy, named_view, validation_view, policy_view}
use Rattle.policy_glue.specs.Reading.{IsAcceptedPolicy}
use Rattle.policy_glue.specs.declared.named_expression.NamedExpression.{NamedExpression as CodeNamedExpression}
use Rattle.policy_glue.specs.declared.parts.Parts.{Parts}
use Rattle.wide_policy.proofs.Accepted.{source_accepted, profile_accepted}
use Rattle.wide_policy.proofs.Trees.{parts_hold}
use Rattle.wide_policy.specs.Returns.{ReturnsVariables, ReturnsConditions, ReturnsValidations, ReturnsPolicy}
use Rattle.wide_policy.specs.Taking.{Visible, visible, TakenValidation, TakenParts, WideVariablesEnd, WideConditionsEnd, WideValidationsEnd, WidePartsEnd, profile_named, profile_validation, profile_of, source_of}
use Rattle.wide_policy.specs.Taking as taking
use Rattle.wide_policy.specs.declared.message_rule.MessageRule.{MessageRule}
use Rattle.wide_policy.specs.declared.taken_lists.TakenLists.{TakenLists}
use Rattle.wide_policy.specs.declared.wide_policy_error.WidePolicyError.{WidePolicyError}

module _ (wrapped : Bool) (r : MessageRule) (p : Policy) (own : Parts) (is : policy_view own ≡ p) where
  pub variables_refused : (e : WidePolicyError) → ReturnsVariables wrapped (map named_view own.variables.items) (Err e) → ReturnsPolicy wrapped r p (Err e)
  variables_refused e said = λ some. taking.in_variables e (subst (λ (q : Policy). WideVariablesEnd wrapped q.variables (Err e)) is (said some))

  -- the variables are taken
  module _ (scope : Visible) (variables : Vec CodeNamedExpression Global) (v : ReturnsVariables wrapped (map named_view own.variables.items) (Ok (scope, variables))) where
    variables_end : WideVariablesEnd wrapped p.variables (Ok v.0)
    variables_end = subst (λ (q : Policy). WideVariablesEnd wrapped q.variables (Ok v.0)) is v.1

    pub conditions_refused : (e : WidePolicyError) → ReturnsConditions wrapped (map named_view own.conditions.items) (Err e) → ReturnsPolicy wrapped r p (Err e)
    conditions_refused e said = λ some. taking.in_conditions v.0 e variables_end (subst (λ (q : Policy). WideConditionsEnd wrapped q.conditions (Err e)) is (said some))

    -- and the conditions
    module _ (conditions : Vec CodeNamedExpression Global) (c : ReturnsConditions wrapped (map named_view own.conditions.items) (Ok conditions)) where
      conditions_end : WideConditionsEnd wrapped p.conditions (Ok c.0)
      conditions_end = subst (λ (q : Policy). WideConditionsEnd wrapped q.conditions (Ok c.0)) is c.1

      pub validations_refused : (e : WidePolicyError) → ReturnsValidations r scope (map validation_view own.validations.items) (Err e) → ReturnsPolicy wrapped r p (Err e)
      validations_refused e said = λ some. taking.in_validations v.0 c.0 e variables_end conditions_end
          (subst (λ (q : Policy). WideValidationsEnd r (visible wrapped (map kind_of v.0)) q.validations (Err e)) is
          (subst (λ (s : Visible). WideValidationsEnd r s (map validation_view own.validations.items) (Err e)) v.2 (said some)))

      -- and the validations
      module _ (lists : TakenLists) (s : ReturnsValidations r scope (map validation_view own.validations.items) (Ok lists)) where
        abbrev pub parts_of : TakenParts
        parts_of = record { variables = v.0; conditions = c.0; validations = s.0 }

        pub parts_end : WidePartsEnd wrapped r p (Ok parts_of)
        parts_end = taking.taken v.0 c.0 s.0 variables_end conditions_end
            (subst (λ (q : Policy). WideValidationsEnd r (visible wrapped (map kind_of v.0)) q.validations (Ok s.0)) is
            (subst (λ (k : Visible). WideValidationsEnd r k (map validation_view own.validations.items) (Ok s.0)) v.2 s.1))

        pub source_is : policy_view (record own { validations = lists.source }) ≡ source_of p parts_of
        source_is = λ i. record { failure_policy = (is i).failure_policy; conditions = (is i).conditions; variables = (is i).variables; validations = s.2.source i }

        pub profile_is : policy_view (record { failure_policy = own.failure_policy; conditions = conditions; variables = variables; validations = lists.profile }) ≡ profile_of p parts_of
        profile_is = λ i. record { failure_policy = (is i).failure_policy; conditions = c.2 i; variables = v.3 i; validations = s.2.profile i }

        module _ (accepted : IsAcceptedPolicy (policy_view own)) where
          here : IsAcceptedPolicy p
          here = subst IsAcceptedPolicy is accepted

          pub source_may : IsAcceptedPolicy (policy_view (record own { validations = lists.source }))
          source_may = subst IsAcceptedPolicy (sym source_is) (source_accepted wrapped r p parts_of (parts_hold wrapped r p parts_of parts_end) here)

          pub profile_may : IsAcceptedPolicy (policy_view (record { failure_policy = own.failure_policy; conditions = conditions; variables = variables; validations = lists.profile }))
          profile_may = subst IsAcceptedPolicy (sym profile_is) (profile_accepted wrapped r p parts_of (parts_hold wrapped r p parts_of parts_end) here)
