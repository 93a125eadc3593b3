-- Gates of policies in the wide language.
use Rattle.admission.proofs.Prelude.{◌≡◌, List, ℕ, Err, sym, subst, Policy}
use Rattle.policy_glue.specs.Compiled.{CompilesTo, IsCompiled}
use Rattle.policy_glue.specs.declared.compile_error.CompileError.{CompileError}
use Rattle.policy_glue.specs.declared.compile_error.CompileError.TheVariants as compile_error
use Rattle.wide_policy.specs.Reading.{IsWidePolicy, WidePolicyReturns}
use Rattle.wide_policy.specs.declared.message_rule.MessageRule.{MessageRule}
use Rattle.wide_policy.specs.declared.policy.WidePolicy.{WidePolicy}
use Rattle.wide_policy.specs.declared.wide_policy_error.WidePolicyError.{WidePolicyError}
use Rattle.wide_policy.specs.declared.wide_policy_error.WidePolicyError.TheVariants as wide_error
use Rattle.admission.specs.Deciding.{IsWideGateOn, OpensWideGate}
use Rattle.admission.specs.GatePolicies.{GatePolicy}
use Rattle.admission.specs.Refusals.{wide_compile_refusal, wide_document_refusal}

module _ (rule : MessageRule) (document : List ℕ) where
  -- the document is refused
  pub document_refused : (e : WidePolicyError) → WidePolicyReturns rule document (Err e) → OpensWideGate rule document (Err (wide_document_refusal e))
  document_refused (wide_error.Unread e) is = is
  document_refused wide_error.HasAuditAnnotations is = is
  document_refused (wide_error.InvalidExpression part place e) is = is
  document_refused wide_error.Memory is = tt

  -- the translation does not compile
  pub translation_refused : (p : WidePolicy) → IsWidePolicy rule document p → (e : CompileError) → CompilesTo p.profile (Err e) → OpensWideGate rule document (Err (wide_compile_refusal e))
  translation_refused p is (compile_error.InvalidExpression part place e) why = (p.source, p.profile, p.wrapped, (p.left_out, is), why)
  translation_refused p is compile_error.NotABool why = (p.source, p.profile, p.wrapped, (p.left_out, is), why)
  translation_refused p is compile_error.MessageNotAString why = (p.source, p.profile, p.wrapped, (p.left_out, is), why)
  translation_refused p is compile_error.TooManyNodes why = (p.source, p.profile, p.wrapped, (p.left_out, is), why)
  translation_refused p is compile_error.TooManyTextBytes why = (p.source, p.profile, p.wrapped, (p.left_out, is), why)
  translation_refused p is compile_error.Memory why = tt

  -- the gate of a policy that is read
  pub gate_is : (p : WidePolicy) → IsWidePolicy rule document p → (g : GatePolicy) → g.told ≡ p.source → g.policy ≡ p.profile → g.wrapped ≡ p.wrapped → IsCompiled p.profile g.image
      → IsWideGateOn rule document (record { gate = g; left_out = p.left_out })
  gate_is p is g told policy wrapped compiled = record {
    is_said = subst (λ (q : WidePolicy). IsWidePolicy rule document q) (λ i. record { source = sym told i; profile = sym policy i; left_out = p.left_out; wrapped = sym wrapped i }) is;
    compiled = subst (λ (q : Policy). IsCompiled q g.image) (sym policy) compiled;
  }
