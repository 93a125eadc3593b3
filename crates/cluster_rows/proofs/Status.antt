-- Which answers pass.
use Rattle.std.proofs.Common.{◌≡◌, ◌==◌, ◌∙◌, ℕ, Bool, true, false, List, [], ◌∷◌, Option, Some, None, refl, ap, length, arith}
use Rattle.std.specs.Prelude.{is_none, ◌&&◌, ◌||◌, nat_eq}
use Rattle.std.specs.List.{starts_with}
use Rattle.json.specs.Print.{escape_byte}
use Rattle.serde_json.specs.Data as json
use Rattle.serde_json.specs.Written.{compact_text}
use Rattle.line_answers.specs.Lines.{allowing_text, line_of, passes}
use Rattle.policy_glue.specs.Response.{review_tree}
use Rattle.policy_glue.specs.Rejections.{Rejection, response_text}
use Rattle.cluster_response.specs.Events.{Undecided, EventSummary, summary_of}
use Rattle.cluster_response.specs.Response.{answer_by, cluster_response, status_of}
use Rattle.gatekeeper_runner.specs.Refusals.{refusal_text}
use Rattle.cluster_rows.specs.Status.{ResponsesPassIfAllowed, RefusalsDoNotPass, ClusterAnswersPassIfAllowed}

-- a text with a first byte passes if it begins as an answer that allows does
some_text : (x : ℕ) (xs : List ℕ) → passes (x ∷ xs) ≡ starts_with nat_eq (x ∷ xs) allowing_text
some_text x xs =
    let is : (length (x ∷ xs) == 0) ≡ false = grind arith in
    ap (λ b. b || starts_with nat_eq (x ∷ xs) allowing_text) is

begins : (x : ℕ) (xs : List ℕ) (b : Bool) → starts_with nat_eq (x ∷ xs) allowing_text ≡ b → passes (x ∷ xs) ≡ b
begins x xs b is = some_text x xs ∙ is

abbrev rest_of : List ℕ → List ℕ
rest_of [] = []
rest_of (x ∷ xs) = xs

pub responses : ResponsesPassIfAllowed
unfolding response_text review_tree allowing_text escape_byte
responses None uid = begins 123 (rest_of (line_of (response_text None uid))) true refl
responses (Some r) uid = begins 123 (rest_of (line_of (response_text (Some r) uid))) false refl

pub refusals : RefusalsDoNotPass
unfolding refusal_text allowing_text escape_byte
refusals refused uid = begins 123 (rest_of (line_of (refusal_text refused uid))) false refl

answered : (status : Option json.Data) (r : Option Undecided) (uid : List ℕ) (s : EventSummary)
    → passes (line_of (compact_text (answer_by status r uid s))) ≡ is_none status && is_none r
unfolding review_tree allowing_text escape_byte
answered (Some status) r uid s = begins 123 (rest_of (line_of (compact_text (answer_by (Some status) r uid s)))) false refl
answered None (Some r) uid s = begins 123 (rest_of (line_of (compact_text (answer_by None (Some r) uid s)))) false refl
answered None None uid s = begins 123 (rest_of (line_of (compact_text (answer_by None None uid s)))) true refl

pub cluster_answers : ClusterAnswersPassIfAllowed
unfolding cluster_response
cluster_answers q uid es = answered (status_of q (summary_of es)) (summary_of es).undecided uid (summary_of es)
