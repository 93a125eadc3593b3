-- The output of a call: a text in the caller's buffer.
use Rattle.std.specs.Prelude.{◌≡◌, ◌++◌, ℕ, Bool, List, Result, Ok, Err, length, drop, if◌then◌else◌, nat_le}
use Rattle.admission.specs.Deciding.{Reply}
use Rattle.admission.specs.declared.run_error.RunError.{RunError}
use Rattle.admission.specs.declared.wide_refusal.WideRefusal.{WideRefusal}
use Rattle.cli.specs.Refusals.{refusal_line, run_refusal}
use Rattle.cli.specs.WideTexts.{wide_line}
use Rattle.celbpf_calls.specs.Statuses.{run_status, wide_status}

-- the text fits the buffer
abbrev pub fits : List ℕ → List ℕ → Bool
fits text room = nat_le (length text) (length room)

-- the buffer with the text at its beginning; a buffer that is too small is unchanged
abbrev pub with_text : List ℕ → List ℕ → List ℕ
with_text text room = if fits text room then text ++ drop (length text) room else room

-- a text is written to the buffer, and its length is returned
abbrev pub Writes : List ℕ → List ℕ → List ℕ → ℕ → Type 0
Writes text before after n = (after ≡ with_text text before) × (n ≡ length text)

-- the text of a call that is done is written: status 0, or 8 if the buffer is too small
abbrev pub WritesDone : List ℕ → ℕ → List ℕ → List ℕ → ℕ → Type 0
WritesDone text status before after n = (status ≡ (if fits text before then 0 else 8)) × Writes text before after n

-- a response is written: status 0 if it allows the request, 1 if it denies it, 8 if the buffer is too small
abbrev pub WritesReply : List ℕ → Bool → ℕ → List ℕ → List ℕ → ℕ → Type 0
WritesReply response allowed status before after n =
    (status ≡ (if fits response before then (if allowed then 0 else 1) else 8)) × Writes response before after n

-- the result of a review is written: its response, or the line of its refusal
abbrev pub WritesDecision : Result Reply RunError → ℕ → List ℕ → List ℕ → ℕ → Type 0
WritesDecision (Ok reply) status before after n = WritesReply reply.response reply.allowed status before after n
WritesDecision (Err e) status before after n = (status ≡ run_status e) × Writes (refusal_line (run_refusal e)) before after n

-- the refusal of a policy in the wide language is written, as the program `gatekeeper` prints it but for the
-- name of its file
abbrev pub WritesWideRefusal : WideRefusal → ℕ → List ℕ → List ℕ → ℕ → Type 0
WritesWideRefusal e status before after n = (status ≡ wide_status e) × Writes (wide_line e) before after n
