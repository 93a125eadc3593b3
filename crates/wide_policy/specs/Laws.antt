-- Laws of the documents of policies.
use Rattle.std.specs.Prelude.{◌≡◌, ◌≢◌, ℕ, List, Err}
use Rattle.wide_policy.specs.Reading.{DecidesAsWide, HasWideTree, IsWidePolicy, WidePolicyReturns}
use Rattle.wide_policy.specs.declared.message_rule.MessageRule.{MessageRule}
use Rattle.wide_policy.specs.declared.policy.WidePolicy.{WidePolicy}
use Rattle.wide_policy.specs.declared.wide_policy_error.WidePolicyError.{WidePolicyError, TheVariants.Memory}

-- the same texts of the author, and the same translations, for roots that are wrapped or not
pub record HasSameTexts (p q : WidePolicy) : Type 0 where
  pub wrapped : p.wrapped ≡ q.wrapped
  pub source : p.source ≡ q.source
  pub profile : p.profile ≡ q.profile

-- a document holds one policy
abbrev pub HasOneWidePolicy : Type 0
HasOneWidePolicy = (rule : MessageRule) (document : List ℕ) (p q : WidePolicy) → IsWidePolicy rule document p
    → IsWidePolicy rule document q → HasSameTexts p q

-- a document that holds a policy is not refused
abbrev pub WidePoliciesAreTaken : Type 0
WidePoliciesAreTaken = (rule : MessageRule) (document : List ℕ) (p : WidePolicy) (e : WidePolicyError) → e ≢ Memory
    → IsWidePolicy rule document p → WidePolicyReturns rule document (Err e) → ⊥

-- a policy in a document decides as its wide expressions mean
pub record DecidesByTexts (p : WidePolicy) : Type 0 where
  pub wide : HasWideTree p.source
  pub decides : DecidesAsWide p.wrapped p.source p.profile

abbrev pub WidePoliciesDecide : Type 0
WidePoliciesDecide = (rule : MessageRule) (document : List ℕ) (p : WidePolicy) → IsWidePolicy rule document p → DecidesByTexts p
