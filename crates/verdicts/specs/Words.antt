-- Verdicts that are read from the words of the verdict region.
use Rattle.std.specs.Prelude.{◌≡◌, ℕ, ◌+◌, ◌*◌, ◌<◌, List, map, nat_eq, nat_lt, count_by, slice_get, slice_index}
use Rattle.std.specs.Prelude.{Option, Some, None, option_map, Result, Ok, Err, if◌then◌else◌}
use Rattle.guest_memory.specs.Memory.{Memory, Verdict as VerdictRegion, base_of}
use Rattle.guest_memory.specs.Access.{read_of}
use Rattle.guest_memory.specs.declared.fault.Fault as fault
use Rattle.guest_memory.specs.declared.size.Size.TheVariants.{Dw}
use Rattle.value_store.specs.Value.{ValueOrError}
use Rattle.value_store.specs.Calls.{text_at}
use Rattle.verdicts.specs.Policy.{part_limit}
use Rattle.verdicts.specs.Verdict.{Verdict, is_denial}
use Rattle.verdicts.specs.declared.failure_policy.FailurePolicy.{FailurePolicy}
use Rattle.verdicts.specs.declared.verdict.Verdict.{Verdict as CodeVerdict}
pub use Rattle.verdicts.specs.Layout.{IsLayout, IsMessageWord, finding_word, first_message, first_result, message_in}
pub use Rattle.verdicts.specs.Layout.{outcome_of, outcome_word, truth_word}

-- the words of a verdict, and the texts that its message words refer to
pub record VerdictWords : Type 0 where
  pub outcome : ℕ
  pub denials : ℕ
  pub results : List ℕ
  pub messages : List (Option (List ℕ))

-- the word that was read, or 0 if the read failed
abbrev pub ok_or_zero : Result ℕ fault.Fault → ℕ
ok_or_zero (Ok word) = word
ok_or_zero (Err f) = 0

-- the words and texts in the code's verdict
abbrev pub words_view : CodeVerdict → VerdictWords
words_view v = record {
  outcome = v.outcome;
  denials = v.denials;
  results = v.results;
  messages = map (option_map (λ t. t.now)) v.messages;
}

-- word i of the verdict region, 0 if it has no such word
unfoldable pub verdict_word : Memory → ℕ → ℕ
verdict_word m i = ok_or_zero (read_of m (base_of VerdictRegion + 8 * i) Dw)

-- the text with this reference; none for 0
abbrev pub text_named : List ValueOrError → ℕ → Option (List ℕ)
text_named values word = if nat_eq word 0 then None else text_at (slice_get values word)

-- the result word of validation i, 0 unless i < count
abbrev pub result_at : Memory → ℕ → ℕ → ℕ
result_at m count i = if nat_lt i count then verdict_word m (first_result + i) else 0

-- the message text of validation i; none unless i < count
abbrev pub message_at : Memory → List ValueOrError → ℕ → ℕ → Option (List ℕ)
message_at m values count i = if nat_lt i count then text_named values (verdict_word m (first_message + i)) else None

-- the words and texts are read from the verdict region and the values
pub record AreRead (m : Memory) (values : List ValueOrError) (count : ℕ) (words : VerdictWords) : Type 0 where
  pub outcome : words.outcome ≡ verdict_word m 0
  pub denials : words.denials ≡ verdict_word m 1
  pub results : (i : ℕ) → i < part_limit → slice_index words.results i ≡ result_at m count i
  pub messages : (i : ℕ) → i < part_limit → slice_get words.messages i ≡ Some (message_at m values count i)

-- the words and texts represent this verdict
pub record Encodes (f : FailurePolicy) (verdict : Verdict) (words : VerdictWords) : Type 0 where
  pub outcome : words.outcome ≡ outcome_word verdict.outcome
  pub denials : words.denials ≡ count_by (is_denial f) verdict.findings
  pub results : (i : ℕ) → i < part_limit → slice_index words.results i ≡ finding_word (slice_get verdict.findings i)
  pub messages : (i : ℕ) → i < part_limit → slice_get words.messages i ≡ Some (message_in (slice_get verdict.findings i))
