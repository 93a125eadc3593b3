-- Refusals of lines.
use Rattle.std.specs.Prelude.{ℕ, List, [], ◌∷◌, ◌++◌, codes, Option, Some, None, option_map, string_bytes}
use Rattle.json.specs.Token.{Token, begin_object, end_object}
use Rattle.serde_json.specs.Data as json
use Rattle.serde_json.specs.Written.{compact_text}
use Rattle.review_tables.specs.MemberText.{text_at}
use Rattle.policy_glue.specs.ResponseTokens.{text_tokens}
use Rattle.admission.specs.ErrorCodes.{run_error_code}
use Rattle.admission.specs.declared.run_error.RunError.{RunError, TheVariants.ReviewRefused}
use Rattle.gatekeeper_runner.specs.declared.policy_label.PolicyLabel.{PolicyLabel}
use Rattle.gatekeeper_runner.specs.declared.refused.Refused.{Refused as CodeRefused}

-- the label of a policy in a refusal
pub record RefusingPolicy : Type 0 where
  pub name : List ℕ
  pub failure_policy : List ℕ

-- why a review is refused, and by which policy; by none if it is refused before any policy is asked
pub record Refused : Type 0 where
  pub error : RunError
  pub policy : Option RefusingPolicy

-- the uid of the document's `request`, if it is a text; the document need not be a review
abbrev pub uid_shown : Option json.Data → Option (List ℕ)
uid_shown document = text_at (codes "request") (codes "uid") document

-- the name and the failure policy of the policy that refuses, if a policy refuses
abbrev pub label_members : Option RefusingPolicy → json.Members
label_members None = json.no_members
label_members (Some label) =
    json.member (codes "policy") (json.string label.name)
    (json.member (codes "failurePolicy") (json.string label.failure_policy) json.no_members)

-- the uid, if the document has one, followed by these members
abbrev pub uid_and : Option (List ℕ) → json.Members → json.Members
uid_and None members = members
uid_and (Some uid) members = json.member (codes "uid") (json.string uid) members

-- an object with the code of the refusal, the uid and the policy
abbrev pub refusal_tree : List ℕ → Option (List ℕ) → Option RefusingPolicy → json.Data
refusal_tree name uid label =
    json.object (json.member (codes "refused") (json.string name) (uid_and uid (label_members label)))

-- the refusal as compact JSON
unfoldable pub refusal_text : Refused → Option (List ℕ) → List ℕ
refusal_text refused uid = compact_text (refusal_tree (run_error_code refused.error) uid refused.policy)

-- the refusal of a line that is too long; the line is not parsed
abbrev pub too_long_text : List ℕ
too_long_text = refusal_text (record { error = ReviewRefused; policy = None }) None

-- ---- its tokens

abbrev pub uid_tokens : Option (List ℕ) → List Token
uid_tokens None = []
uid_tokens (Some uid) = text_tokens (codes "uid") uid

abbrev pub label_tokens : Option RefusingPolicy → List Token
label_tokens None = []
label_tokens (Some label) = text_tokens (codes "policy") label.name ++ text_tokens (codes "failurePolicy") label.failure_policy

abbrev pub refusal_tokens : List ℕ → Option (List ℕ) → Option RefusingPolicy → List Token
refusal_tokens name uid label =
    begin_object ∷ ((text_tokens (codes "refused") name ++ (uid_tokens uid ++ label_tokens label)) ++ end_object ∷ [])

-- ---- the code's

abbrev pub label_view : PolicyLabel → RefusingPolicy
label_view l = record { name = string_bytes l.name; failure_policy = string_bytes l.failure_policy }

abbrev pub refused_view : CodeRefused → Refused
refused_view r = record { error = r.error; policy = option_map label_view r.policy }
