-- Results on validations and their message expressions.
use Rattle.std.proofs.Common.{◌≡◌, ℕ, List, Option, Some, None, option_map, Result, Ok, Err, refl, sym, ap, subst, ◌∙◌, String, Global, string_bytes}
use Rattle.wide_kinds.specs.declared.kind.Kind.{Kind}
use Rattle.policy_glue.specs.Policy.{Validation, validation_view}
use Rattle.policy_glue.specs.declared.part_kind.PartKind.{PartKind}
use Rattle.policy_glue.specs.declared.part_kind.PartKind.TheVariants as part
use Rattle.wide_policy.specs.Returns.{IsPartTakenAs, ReturnsPart, IsMessageTaken, ReturnsMessage, leave_out, LeavesNothing, LeavesOut, ReturnsValidation}
use Rattle.wide_policy.specs.Taking.{TakenExpression, Visible, IsRefusedPart, RefusesPart, TakenValidation, TakesWideMessage, TakesWideValidation, kept_text, profile_validation}
use Rattle.wide_policy.specs.Taking as taking
use Rattle.wide_policy.specs.declared.expression_error.WideExpressionError.{WideExpressionError}
use Rattle.wide_policy.specs.declared.message_rule.MessageRule.{MessageRule}
use Rattle.wide_policy.specs.declared.message_rule.MessageRule.TheVariants as rule
use Rattle.wide_policy.specs.declared.taken_message.TakenMessage.{TakenMessage}
use Rattle.wide_policy.specs.declared.taken_pair.TakenPair.{TakenPair}
use Rattle.wide_policy.specs.declared.wide_policy_error.WidePolicyError.{WidePolicyError}
use Rattle.wide_policy.specs.declared.wide_policy_error.WidePolicyError.TheVariants as error

module _ (seen : Visible) (place : ℕ) (text : List ℕ) where
  -- the message expression is taken
  pub message_is : (r : MessageRule) (kind : Kind) (s : String Global) (m : TakenMessage) → IsPartTakenAs part.Message seen text kind (string_bytes s)
      → option_map string_bytes m.source ≡ Some text → m.profile ≡ Some s → m.refusal ≡ None → ReturnsMessage r place seen (Some text) (Ok m)
  message_is r kind s m is source profile refusal = record {
    expression = Some is.expression;
    taken = subst (λ (o : Option WideExpressionError). TakesWideMessage r seen (Some text) (Some is.expression) o) (sym refusal) is.taken;
    source = source ∙ ap (λ (o : Option WideExpressionError). kept_text o (Some text)) (sym refusal);
    profile = ap (λ (o : Option (String Global)). option_map string_bytes o) profile ∙ ap Some is.text_is;
  }

  same_cause : (x cause : WideExpressionError) (p : PartKind) (n : ℕ) → RefusesPart part.Message seen place text (error.InvalidExpression p n x) → x ≡ cause
      → IsRefusedPart part.Message seen text cause
  same_cause x cause p n because is =
      let inner : because.cause ≡ x = let whole = because.is in cc in
      subst (λ (e : WideExpressionError). IsRefusedPart part.Message seen text e) (inner ∙ is) because.because

  refused_with : (r : MessageRule) (e : WidePolicyError) (cause : WideExpressionError) → ReturnsPart part.Message place seen text (Err e) → leave_out r e ≡ Some cause
      → TakesWideMessage r seen (Some text) None (Some cause)
  refused_with rule.LeftOut (error.InvalidExpression p n x) cause said is = (refl, same_cause x cause p n (said (λ e. cc)) (cc))
  refused_with rule.LeftOut (error.Unread e) cause said is = absurd (cc)
  refused_with rule.LeftOut error.HasAuditAnnotations cause said is = absurd (cc)
  refused_with rule.LeftOut error.Memory cause said is = absurd (cc)
  refused_with rule.Required e cause said is = absurd (cc)

  left_by : (r : MessageRule) (e : WidePolicyError) (cause : WideExpressionError) (m : TakenMessage) → ReturnsPart part.Message place seen text (Err e) → leave_out r e ≡ Some cause
      → LeavesNothing m cause → ReturnsMessage r place seen (Some text) (Ok m)
  left_by r e cause m said is left = record {
    expression = None;
    taken = subst (λ (o : Option WideExpressionError). TakesWideMessage r seen (Some text) None o) (sym left.refusal) (refused_with r e cause said is);
    source = ap (λ (o : Option (String Global)). option_map string_bytes o) left.source ∙ ap (λ (o : Option WideExpressionError). kept_text o (Some text)) (sym left.refusal);
    profile = ap (λ (o : Option (String Global)). option_map string_bytes o) left.profile;
  }

  is_required : (r : MessageRule) (e : WidePolicyError) → RefusesPart part.Message seen place text e → leave_out r e ≡ None → r ≡ rule.Required
  is_required rule.Required e because none = refl
  is_required rule.LeftOut e because none =
      let some : leave_out rule.LeftOut e ≡ Some because.cause = ap (leave_out rule.LeftOut) because.is in absurd (cc)

  -- the message expression is refused
  pub message_left : (r : MessageRule) (e : WidePolicyError) (x : Result TakenMessage WidePolicyError) → ReturnsPart part.Message place seen text (Err e) → LeavesOut r e x
      → ReturnsMessage r place seen (Some text) x
  message_left r e (Ok m) said left = left_by r e left.0 m said left.1 left.2
  message_left r e (Err f) said left = λ some.
      let because : RefusesPart part.Message seen place text e = said (λ e. some (left.0 ∙ e)) in
      record {
        source = text;
        is = refl;
        required = is_required r e because left.1;
        because = subst (λ (g : WidePolicyError). RefusesPart part.Message seen place text g) (sym left.0) because;
      }

-- ---- validations

module _ (r : MessageRule) (seen : Visible) (place : ℕ) (n : Validation) where
  pub pair_is : (kind : Kind) (own expression : String Global) (m : TakenMessage) (pair : TakenPair) → IsPartTakenAs part.Validation seen n.expression kind (string_bytes expression)
      → IsMessageTaken r seen n.message_expression m → string_bytes own ≡ n.expression
      → validation_view pair.source ≡ record n { expression = string_bytes own; message_expression = option_map string_bytes m.source }
      → validation_view pair.profile ≡ record n { expression = string_bytes expression; message_expression = option_map string_bytes m.profile }
      → pair.refusal ≡ m.refusal → ReturnsValidation r place seen n (Ok pair)
  pair_is kind own expression m pair is message own_is source profile refusal =
      let due : validation_view pair.source ≡ record n { message_expression = kept_text m.refusal n.message_expression } =
      source ∙ (λ i. record n { expression = own_is i; message_expression = message.source i }) in (
        record { source = validation_view pair.source; expression = is.expression; message = message.expression; left_out = m.refusal },
        record { source = due; expression = is.taken; message = message.taken },
        record {
          source = refl;
          profile = profile ∙ (λ i. record {
            expression = is.text_is i;
            message = (sym due i).message;
            reason = (sym due i).reason;
            message_expression = message.profile i;
          });
          refusal = refusal;
        },
      )

  pub unexpressed : (e : WidePolicyError) → ReturnsPart part.Validation place seen n.expression (Err e) → ReturnsValidation r place seen n (Err e)
  unexpressed e said = λ some. taking.expression e (said some)

  pub unsaid : (kind : Kind) (text : List ℕ) (e : WidePolicyError) → IsPartTakenAs part.Validation seen n.expression kind text → ReturnsMessage r place seen n.message_expression (Err e)
      → ReturnsValidation r place seen n (Err e)
  unsaid kind text e is said = λ some. let none = said some in taking.message is.expression none.source e none.required is.taken none.is none.because
