-- Gates of policies in the wide language, and refusals of such policies.
use Rattle.std.proofs.Common.{ℕ, List, Err, Ok, ◌⊎◌, inl, inr}
use Rattle.policy_glue.specs.OneImage.{OneImage}
use Rattle.wide_policy.specs.declared.message_rule.MessageRule.TheVariants.{Required}
use Rattle.admission.specs.Deciding.{Documents, IsWideGateOn, OpensWideGate}
use Rattle.admission.specs.declared.limits.Limits.{Limits}
use Rattle.admission.specs.declared.wide_gate.WideGate.{WideGate}
use Rattle.admission.specs.declared.wide_refusal.WideRefusal.{WideRefusal, TheVariants.Memory}
use Rattle.celbpf_calls.specs.Output.{WritesWideRefusal}
use Rattle.celbpf_calls.specs.WideCalls.{AnswersWide, OpensStored, refused}

-- the gate that was opened is that of the policy
pub gate_of : (document : List ℕ) (g : WideGate) → IsWideGateOn Required document g → OneImage g.gate.policy g.gate.image → OpensStored document (Ok g.gate)
gate_of document g opens one = (((g.left_out, opens.is_said), opens.compiled), one)

-- a refusal is written, or that memory ran out
pub told_refusal : (before after : List ℕ) (status n : ℕ) (e : WideRefusal) → WritesWideRefusal e status before after n ⊎ WritesWideRefusal Memory status before after n
    → (d : Documents) (limits : Limits) → OpensWideGate Required d.policy (Err e) → AnswersWide d limits status before after n
told_refusal before after status n e wrote d limits why = elim wrote [
  | inl h ↦ refused e why h
  | inr h ↦ refused Memory tt h
]
