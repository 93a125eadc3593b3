-- Refusals of policies in the wide language.
use Rattle.std.proofs.Common.{ℕ, List, Option, Err, ◌⊎◌, inl, inr, refl}
use Rattle.wide_policy.specs.declared.message_rule.MessageRule.TheVariants.{Required}
use Rattle.admission.specs.Deciding.{OpensWideGate}
use Rattle.admission.specs.GatePolicies.{GatePolicy}
use Rattle.admission.specs.declared.wide_refusal.WideRefusal.{WideRefusal, TheVariants.Memory}
use Rattle.celbpf_calls.specs.Output.{WritesWideRefusal}
use Rattle.celbpf_c.specs.WideCalls.{MakesWideGate}

-- a refusal is written, or that memory ran out
pub left_refusal : (before after : List ℕ) (status n : ℕ) (e : WideRefusal) → WritesWideRefusal e status before after n ⊎ WritesWideRefusal Memory status before after n
    → (document : List ℕ) (old : Option GatePolicy) → OpensWideGate Required document (Err e) → MakesWideGate document old old status before after n
left_refusal before after status n e wrote document old why = elim wrote [
  | inl h ↦ (Err e, why, (refl, h))
  | inr h ↦ (Err Memory, tt, (refl, h))
]
