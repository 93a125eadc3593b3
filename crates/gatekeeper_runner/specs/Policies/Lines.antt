-- The answer to a line.
use Rattle.std.specs.Prelude.{ℕ, Bool, List, Result, Ok, Err}
use Rattle.line_answers.specs.AnsweredLines.{AnswersInput}
use Rattle.line_answers.specs.Lines.{AnswersInputLine, LineTexts}
use Rattle.streams.specs.Streams.{Stream}
use Rattle.streams.specs.declared.session_error.SessionError.{SessionError}
use Rattle.policy_glue.specs.Rejections.{response_text}
use Rattle.policy_glue.specs.Documents.{document_of}
use Rattle.admission.specs.Decisions.{Decision}
use Rattle.admission.specs.Standing.{Images}
use Rattle.gatekeeper_runner.specs.Policies.Together.{AreGates, DecideTogether, Gatekeeper, PolicyFile, gatekeeper_of}
use Rattle.gatekeeper_runner.specs.Refusals.{Refused, refusal_text, too_long_text, uid_shown}
use Rattle.gatekeeper_runner.specs.declared.policies.gatekeeper.Gatekeeper.{Gatekeeper as CodeGatekeeper}

-- the text by what the policies decide of the review in a line
abbrev pub answer_text : List ℕ → Result Decision Refused → List ℕ
answer_text line (Ok decision) = response_text decision.rejection decision.uid
answer_text line (Err refused) = refusal_text refused (uid_shown (document_of line))

-- a line that is read and is not blank, and its text by what the policies decide together
pub data DecidesLine (chosen : Images) (t : Gatekeeper) (line : List ℕ) : List ℕ → Type 0 where
  decides : {result : Result Decision Refused} → DecideTogether chosen t line result → DecidesLine chosen t line (answer_text line result)

-- a line, and what is written for it, which depends on no other line
abbrev pub AnswersReviewLine : Images → Gatekeeper → LineTexts
AnswersReviewLine chosen t = AnswersInputLine t.max_line too_long_text (DecidesLine chosen t)

-- ---- all lines

-- what answering does to a reader and a writer
abbrev pub AnswersLines : Images → Gatekeeper → Stream → Stream → Stream → Stream → Result Bool SessionError → Type 0
AnswersLines chosen t r r_after w w_after result = AnswersInput (AnswersReviewLine chosen t) r r_after w w_after result

-- Q holds for the policies by which the gates decide
abbrev pub UnderPolicies : CodeGatekeeper → (Gatekeeper → Type 0) → Type 0
UnderPolicies keeper Q = (policies : List PolicyFile) → AreGates policies keeper.gates.items → Q (gatekeeper_of policies keeper)
