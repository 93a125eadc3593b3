-- Refusals of policies.
use Rattle.std.proofs.Common.{ℕ, List, Err, ◌⊎◌, inl, inr}
use Rattle.wide_policy.specs.declared.message_rule.MessageRule.TheVariants.{Required}
use Rattle.admission.specs.Deciding.{OpensWideGate}
use Rattle.admission.specs.declared.wide_refusal.WideRefusal.{WideRefusal, TheVariants.Memory}
use Rattle.celbpf_calls.specs.Output.{WritesWideRefusal}
use Rattle.celbpf_page.specs.Translations.{TranslatesToRoom}

-- a refusal is written, or that memory ran out
pub told : (before after : List ℕ) (status n : ℕ) (e : WideRefusal) → WritesWideRefusal e status before after n ⊎ WritesWideRefusal Memory status before after n
    → (document : List ℕ) → OpensWideGate Required document (Err e) → TranslatesToRoom document status before after n
told before after status n e wrote document why = elim wrote [
  | inl h ↦ (Err e, why, h)
  | inr h ↦ (Err Memory, tt, h)
]
