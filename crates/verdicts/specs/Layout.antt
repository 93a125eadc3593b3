-- The layout of a verdict (layout 2): words of the verdict region. Word i begins 8 * i bytes after the region's first
-- address.
use Rattle.std.specs.Prelude.{◌≡◌, ℕ, ◌+◌, ◌<◌, ◌≤◌, List, nat_eq, count_by, slice_get}
use Rattle.std.specs.Prelude.{Option, Some, None, if◌then◌else◌}
use Rattle.guest_memory.specs.RegionWords.{word_in}
use Rattle.value_store.specs.Value.{ValueOrError}
use Rattle.value_store.specs.Calls.{text_at}
use Rattle.verdicts.specs.Policy.{part_limit}
use Rattle.verdicts.specs.Verdict.{Verdict, Finding, CheckResult, Holds, Fails, Errs, is_denial}
use Rattle.verdicts.specs.declared.outcome.Outcome.{Outcome, TheVariants.Skipped, TheVariants.Rejected, TheVariants.Denied, TheVariants.Admitted}
use Rattle.verdicts.specs.declared.failure_policy.FailurePolicy.{FailurePolicy}

-- the outcome is word 0 and the number of denials is word 1. The results of the validations begin at this word; the
-- references of the message texts begin at `first_message`.
abbrev pub first_result : ℕ
first_result = 2

-- the first of the words that refer to messages
abbrev pub first_message : ℕ
first_message = first_result + part_limit

-- the word for an outcome
abbrev pub outcome_word : Outcome → ℕ
outcome_word Skipped = 1
outcome_word Rejected = 2
outcome_word Denied = 3
outcome_word Admitted = 4

-- the outcome for a word; a word that is not an outcome rejects the request
abbrev pub outcome_of : ℕ → Outcome
outcome_of word =
    if nat_eq word (outcome_word Skipped) then Skipped
    else (if nat_eq word (outcome_word Denied) then Denied
    else (if nat_eq word (outcome_word Admitted) then Admitted
    else Rejected))

-- the word for the result of a validation
abbrev pub truth_word : CheckResult → ℕ
truth_word Holds = 0
truth_word Fails = 1
truth_word Errs = 2

-- the word for a finding, and 0 if there is none
abbrev pub finding_word : Option Finding → ℕ
finding_word (Some x) = truth_word x.truth
finding_word None = 0

-- the message text of a finding, if there is one
abbrev pub message_in : Option Finding → Option (List ℕ)
message_in (Some x) = x.message
message_in None = None

-- the word is the reference of a value equal to this text, or 0 if there is no text
abbrev pub IsMessageWord : List ValueOrError → ℕ → Option (List ℕ) → Type 0
IsMessageWord values word (Some t) = (0 < word) × (text_at (slice_get values word) ≡ Some t)
IsMessageWord values word None = word ≡ 0

-- the bytes of a region are the layout of this verdict under a failure policy; all other words are 0
pub record IsLayout (f : FailurePolicy) (verdict : Verdict) (values : List ValueOrError) (region : List ℕ) : Type 0 where
  pub outcome : word_in region 0 ≡ outcome_word verdict.outcome
  pub denials : word_in region 1 ≡ count_by (is_denial f) verdict.findings
  pub results : (i : ℕ) → i < part_limit → word_in region (first_result + i) ≡ finding_word (slice_get verdict.findings i)
  pub messages : (i : ℕ) → i < part_limit
      → IsMessageWord values (word_in region (first_message + i)) (message_in (slice_get verdict.findings i))
  pub others : (i : ℕ) → first_message + part_limit ≤ i → i < 256 → word_in region i ≡ 0
