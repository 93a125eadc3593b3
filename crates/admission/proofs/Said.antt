-- The policy in a document of a language.
use Rattle.admission.proofs.Prelude.{◌≡◌, ◌∙◌, ℕ, Bool, false, List, length, Ok, sym, ap, subst, length-map, policy_in, Policy, Documents, IsSaid, Language, Profile, Wide}
use Rattle.policy_glue.specs.declared.failure_policy.FailurePolicy.{FailurePolicy}
use Rattle.wide_policy.proofs.Once.{one_policy}
use Rattle.wide_policy.specs.Taking.{TakenValidation, profile_validation}
use Rattle.admission.proofs.Results.{ok_same}

-- the same failure policy, and as many validations
pub record HasSameForm (told parsed : Policy) : Type 0 where
  pub failure_policy : told.failure_policy ≡ parsed.failure_policy
  pub validations : length told.validations ≡ length parsed.validations

abbrev failure_of : Policy → FailurePolicy
failure_of p = p.failure_policy

abbrev many_in : Policy → ℕ
many_in p = length p.validations

pub same_form : (l : Language) (document : List ℕ) (told parsed : Policy) (wrapped : Bool) → IsSaid l document told parsed wrapped → HasSameForm told parsed
same_form Profile document told parsed wrapped is = record { failure_policy = ap failure_of is.1; validations = ap many_in is.1 }
same_form (Wide rule) document told parsed wrapped is =
    let by = is.1 in
    record {
      failure_policy = ap failure_of by.source ∙ sym (ap failure_of by.profile);
      validations = ap many_in by.source ∙ length-map by.parts.validations (λ (r : TakenValidation). r.source)
          ∙ sym (length-map by.parts.validations profile_validation) ∙ sym (ap many_in by.profile);
    }

-- a document holds one policy
pub record IsOnePolicy (told parsed other also : Policy) (wrapped as_well : Bool) : Type 0 where
  pub told_is : told ≡ other
  pub parsed_is : parsed ≡ also
  pub wrapped_is : wrapped ≡ as_well

pub said_once : (l : Language) (document : List ℕ) (t p u q : Policy) (w v : Bool) → IsSaid l document t p w → IsSaid l document u q v → IsOnePolicy t p u q w v
said_once Profile document t p u q w v is also =
    let same : p ≡ q = ok_same (policy_in document) p q is.0 also.0 in
    record { told_is = is.1 ∙ same ∙ sym also.1; parsed_is = same; wrapped_is = is.2 ∙ sym also.2 }
said_once (Wide rule) document t p u q w v is also =
    let same = one_policy rule document _ _ is.1 also.1 in
    record { told_is = same.source; parsed_is = same.profile; wrapped_is = same.wrapped }

-- the policy in a document of the language that is compiled
pub profile_said : (d : Documents) (told parsed : Policy) (wrapped : Bool) → d.language ≡ Profile → IsSaid d.language d.policy told parsed wrapped → policy_in d.policy ≡ Ok parsed
profile_said d told parsed wrapped is said = (subst (λ (l : Language). IsSaid l d.policy told parsed wrapped) is said).0

-- messages have the texts that are compiled
pub profile_told : (d : Documents) (told parsed : Policy) (wrapped : Bool) → d.language ≡ Profile → IsSaid d.language d.policy told parsed wrapped → told ≡ parsed
profile_told d told parsed wrapped is said = (subst (λ (l : Language). IsSaid l d.policy told parsed wrapped) is said).1

-- its program runs on the roots of the documents
pub profile_plain : (d : Documents) (told parsed : Policy) (wrapped : Bool) → d.language ≡ Profile → IsSaid d.language d.policy told parsed wrapped → wrapped ≡ false
profile_plain d told parsed wrapped is said = (subst (λ (l : Language). IsSaid l d.policy told parsed wrapped) is said).2
