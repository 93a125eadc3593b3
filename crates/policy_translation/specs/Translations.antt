-- Policies that are translated.
use Rattle.std.specs.Prelude.{ℕ, List, Result, Ok, Err}
use Rattle.policy_glue.specs.Limits.{Compiles}
use Rattle.policy_glue.specs.Trees.{PolicyTree}
use Rattle.wide_policy.specs.Reading.{IsWidePolicy}
use Rattle.wide_policy.specs.declared.message_rule.MessageRule.{MessageRule}
use Rattle.wide_policy.specs.declared.policy.WidePolicy.{WidePolicy}
use Rattle.admission.specs.Deciding.{OpensWideGate}
use Rattle.admission.specs.declared.wide_refusal.WideRefusal.{WideRefusal}

-- the document holds this policy, whose translation compiles
pub record HasTranslation (rule : MessageRule) (document : List ℕ) (p : WidePolicy) : Type 0 where
  pub is_said : IsWidePolicy rule document p
  pub trees : PolicyTree
  pub compiles : Compiles p.profile (Ok trees)

-- the policy in a document, whose translation compiles; or why there is none
abbrev pub ReadsTranslated : MessageRule → List ℕ → Result WidePolicy WideRefusal → Type 0
ReadsTranslated rule document (Ok p) = HasTranslation rule document p
ReadsTranslated rule document (Err e) = OpensWideGate rule document (Err e)
