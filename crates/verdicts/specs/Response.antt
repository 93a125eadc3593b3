-- The response to a verdict (AdmissionReview, admission.k8s.io/v1), compact JSON with keys in byte order.
use Rattle.std.specs.Prelude.{ℕ, ◌&&◌, Bool, true, false, not, List, [], ◌∷◌, ◌++◌, length, map, nat_eq, Option, codes, if◌then◌else◌}
use Rattle.std.specs.List.{list_all}
use Rattle.std.specs.Option.{option_map_or}
use Rattle.serde_json.specs.Data as json
use Rattle.serde_json.specs.Written.{compact_text}
use Rattle.verdicts.specs.Policy.{Validation, Policy, reason_name, reason_code}
use Rattle.verdicts.specs.Reading.{has_line_break}
use Rattle.verdicts.specs.Verdict.{Finding, Verdict, is_denial}
use Rattle.verdicts.specs.declared.outcome.Outcome.{Outcome, TheVariants.Rejected, TheVariants.Denied}
use Rattle.verdicts.specs.declared.failure_policy.FailurePolicy.{FailurePolicy}
use Rattle.verdicts.specs.declared.reason.Reason.{Reason, TheVariants.Invalid}

-- ---- the message of a denial

-- a validation that denies, and the text of its message expression if it gave one
pub record Denial : Type 0 where
  pub validation : Validation
  pub message : Option (List ℕ)

-- the validations that deny, in order, with their findings
abbrev pub denials_of : FailurePolicy → List Validation → List Finding → List Denial
denials_of f [] xs = []
denials_of f (r ∷ rs) [] = []
denials_of f (r ∷ rs) (x ∷ xs) =
    if is_denial f x then record { validation = r; message = x.message } ∷ denials_of f rs xs else denials_of f rs xs

-- the message of a validation without its message expression: the one that is set, else that the expression failed
abbrev pub plain_message : Validation → List ℕ
plain_message r = if nat_eq (length r.message) 0 then codes "failed expression: " ++ r.expression else r.message

-- a text can be used as a message if it is not empty, not only spaces, and has no line break
abbrev pub is_space : ℕ → Bool
is_space b = nat_eq b 32

-- the text can be used as a message
abbrev pub serves : List ℕ → Bool
serves text = not (list_all is_space text) && not (has_line_break text)

-- the message of one denial: the text of the message expression if it can be used, else the plain message
abbrev pub denial_text : Denial → List ℕ
denial_text d =
    let plain = plain_message d.validation in option_map_or (λ text. if serves text then text else plain) d.message plain

-- the texts, joined with `; `
abbrev pub joined : List (List ℕ) → List ℕ
joined [] = []
joined (t ∷ []) = t
joined (t ∷ u ∷ ts) = t ++ (codes "; " ++ joined (u ∷ ts))

-- the reason of the first denial
abbrev pub first_reason : List Denial → Reason
first_reason [] = Invalid
first_reason (d ∷ ds) = d.validation.reason

-- ---- the response

-- a status (meta/v1, Status): its message, its reason and its code
abbrev pub status_tree : List ℕ → Reason → json.Data
status_tree message reason = json.object
    (json.member (codes "code") (json.number (json.unsigned (reason_code reason)))
    (json.member (codes "message") (json.string message)
    (json.member (codes "reason") (json.string (reason_name reason)) json.no_members)))

-- the response that allows the request with this uid
abbrev pub allowed_tree : List ℕ → json.Data
allowed_tree uid = json.object
    (json.member (codes "allowed") (json.boolean true)
    (json.member (codes "uid") (json.string uid) json.no_members))

-- the response that denies it, with its status
abbrev pub denied_tree : List ℕ → List ℕ → Reason → json.Data
denied_tree uid message reason = json.object
    (json.member (codes "allowed") (json.boolean false)
    (json.member (codes "status") (status_tree message reason)
    (json.member (codes "uid") (json.string uid) json.no_members)))

-- the review that holds this response
unfoldable pub review_tree : json.Data → json.Data
review_tree response = json.object
    (json.member (codes "apiVersion") (json.string (codes "admission.k8s.io/v1"))
    (json.member (codes "kind") (json.string (codes "AdmissionReview"))
    (json.member (codes "response") response json.no_members)))

-- the response for an outcome: `Rejected` if the conditions could not be decided; for denials their messages, and the reason of
-- the first; `Skipped` and `Admitted` allow the request
abbrev pub tree_of : Outcome → List Denial → List ℕ → json.Data
tree_of Rejected ds uid = denied_tree uid (codes "match conditions not decided") Invalid
tree_of Denied ds uid = denied_tree uid (joined (map denial_text ds)) (first_reason ds)
tree_of _ ds uid = allowed_tree uid

-- the text of the response to a verdict of the policy, for the request with this uid
unfoldable pub response_of : Policy → Verdict → List ℕ → List ℕ
response_of p verdict uid =
    compact_text (review_tree (tree_of verdict.outcome (denials_of p.failure_policy p.validations verdict.findings) uid))

abbrev pub separator_of : Bool → List ℕ
separator_of later = if later then codes "; " else []
