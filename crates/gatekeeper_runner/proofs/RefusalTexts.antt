-- The text of a refusal consists of its tokens.
use Rattle.gatekeeper_runner.proofs.Prelude.{◌≡◌, ℕ, List, [], ◌++◌, Option, Some, None, ap, ◌∙◌, RefusingPolicy, Refused, refusal_text}
use Rattle.json.specs.Print.{print}
use Rattle.json.specs.Token.{Token}
use Rattle.json.specs.Written.{Written}
use Rattle.serde_json.proofs.Texts.{print-outline}
use Rattle.serde_json.specs.Written.{compact_text}
use Rattle.admission.specs.ErrorCodes.{run_error_code}
use Rattle.gatekeeper_runner.specs.Refusals.{refusal_tree, refusal_tokens}
use Rattle.policy_glue.specs.ResponseTokens.{AddsTokens}

refusal_is : (name : List ℕ) (uid : Option (List ℕ)) (label : Option RefusingPolicy) → print (refusal_tokens name uid label) ≡ compact_text (refusal_tree name uid label)
refusal_is name None None = print-outline (refusal_tree name None None)
refusal_is name None (Some label) = print-outline (refusal_tree name None (Some label))
refusal_is name (Some uid) None = print-outline (refusal_tree name (Some uid) None)
refusal_is name (Some uid) (Some label) = print-outline (refusal_tree name (Some uid) (Some label))

-- the text that is written to an empty buffer
pub text_written : (refused : Refused) (uid : Option (List ℕ)) (old new : Written) → old.before ≡ [] → old.tokens ≡ []
    → AddsTokens old new (refusal_tokens (run_error_code refused.error) uid refused.policy) → new.before ++ print new.tokens ≡ refusal_text refused uid
unfolding refusal_text
text_written refused uid old new empty none adds =
    (λ i. (adds.before ∙ empty) i ++ print ((adds.added ∙ ap (λ (ts : List Token). ts ++ refusal_tokens (run_error_code refused.error) uid refused.policy) none) i))
    ∙ refusal_is (run_error_code refused.error) uid refused.policy
