-- The JSON tokens of a response.
use Rattle.std.specs.Prelude.{◌≡◌, ℕ, true, false, List, [], ◌∷◌, ◌++◌, codes, decimal, Option, Some, None}
use Rattle.json.specs.Token.{Token, begin_object, end_object, boolean, key, number, string}
use Rattle.json.specs.Written.{Written}
use Rattle.verdicts.specs.Policy.{reason_code, reason_name}
use Rattle.verdicts.specs.Rejections.{Rejection}

-- a member whose value is a text
abbrev pub text_tokens : List ℕ → List ℕ → List Token
text_tokens name text = key name ∷ string text ∷ []

-- an object with these members
abbrev pub object_tokens : List Token → List Token
object_tokens members = begin_object ∷ (members ++ end_object ∷ [])

abbrev pub status_tokens : Rejection → List Token
status_tokens o =
    object_tokens (key (codes "code") ∷ number (decimal (reason_code o.reason))
    ∷ (text_tokens (codes "message") o.message ++ text_tokens (codes "reason") (reason_name o.reason)))

abbrev pub allowed_tokens : List ℕ → List Token
allowed_tokens uid = object_tokens (key (codes "allowed") ∷ boolean true ∷ text_tokens (codes "uid") uid)

abbrev pub denied_tokens : List ℕ → Rejection → List Token
denied_tokens uid o =
    object_tokens (key (codes "allowed") ∷ boolean false ∷ key (codes "status") ∷ (status_tokens o ++ text_tokens (codes "uid") uid))

abbrev pub rejection_tokens : Option Rejection → List ℕ → List Token
rejection_tokens None uid = allowed_tokens uid
rejection_tokens (Some o) uid = denied_tokens uid o

-- the review that holds this response
abbrev pub review_tokens : List Token → List Token
review_tokens response =
    object_tokens (text_tokens (codes "apiVersion") (codes "admission.k8s.io/v1")
    ++ (text_tokens (codes "kind") (codes "AdmissionReview") ++ (key (codes "response") ∷ response)))

-- the start of a response, up to whether it allows the request
abbrev pub start_text : List ℕ
start_text = codes "{\"apiVersion\":\"admission.k8s.io/v1\",\"kind\":\"AdmissionReview\",\"response\":{\"allowed\":"

-- these tokens are written after the earlier ones
pub record AddsTokens (old new : Written) (tokens : List Token) : Type 0 where
  pub before : new.before ≡ old.before
  pub added : new.tokens ≡ old.tokens ++ tokens
