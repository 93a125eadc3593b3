-- The effects of the calls that read policies as clusters store them, as the program `gatekeeper` does.
use Rattle.std.specs.Prelude.{ℕ, List, Result, Ok, Err}
use Rattle.policy_glue.specs.OneImage.{OneImage}
use Rattle.wide_policy.specs.declared.message_rule.MessageRule.TheVariants.{Required}
use Rattle.admission.specs.Deciding.{Documents, IsGateOn, OpensWideGate}
use Rattle.admission.specs.GatePolicies.{GatePolicy}
use Rattle.admission.specs.declared.language.Language.{Language, TheVariants.Wide}
use Rattle.admission.specs.declared.limits.Limits.{Limits}
use Rattle.admission.specs.declared.wide_refusal.WideRefusal.{WideRefusal}
use Rattle.celbpf_calls.specs.Calls.{Answers}
use Rattle.celbpf_calls.specs.Output.{WritesWideRefusal}

-- the language of the policies: that of `gatekeeper --policy`
abbrev pub as_stored : Language
as_stored = Wide Required

-- the gate of the policy in a document, or why there is none; or an allocation failed
abbrev pub OpensStored : List ℕ → Result GatePolicy WideRefusal → Type 0
OpensStored document (Ok gate) = IsGateOn as_stored document gate × OneImage gate.policy gate.image
OpensStored document (Err e) = OpensWideGate Required document (Err e)

-- the policy of the documents is refused, or the result of the review is written, which is that of its image within the
-- limits
pub data AnswersWide (d : Documents) (limits : Limits) (status : ℕ) (before after : List ℕ) (n : ℕ) : Type 0 where
  refused : (e : WideRefusal) → OpensStored d.policy (Err e) → WritesWideRefusal e status before after n
      → AnswersWide d limits status before after n
  answered : Answers OneImage d limits status before after n → AnswersWide d limits status before after n
