-- The denials of a verdict, read from its words.
use Rattle.std.specs.Prelude.{ℕ, ◌+◌, ◌&&◌, ◌||◌, Bool, true, false, List, [], ◌∷◌, map, nat_eq, slice_get, slice_index}
use Rattle.std.specs.Prelude.{Option, Some, None, option_map, if◌then◌else◌}
use Rattle.guest_memory.specs.Memory.{Memory}
use Rattle.value_store.specs.Value.{ValueOrError}
use Rattle.verdicts.specs.Policy.{Validation, validation_view}
use Rattle.verdicts.specs.Words.{VerdictWords, text_named, verdict_word, words_view}
use Rattle.verdicts.specs.Layout.{first_message, first_result}
use Rattle.verdicts.specs.Response.{Denial}
use Rattle.verdicts.specs.declared.parts.Parts.{Parts}
use Rattle.verdicts.specs.declared.verdict.Verdict.{Verdict}
use Rattle.verdicts.specs.declared.denial.Denial.{Denial as CodeDenial}
use Rattle.verdicts.specs.declared.failure_policy.FailurePolicy.{FailurePolicy, TheVariants.Fail, TheVariants.Ignore}

abbrev pub denial_view : CodeDenial → Denial
denial_view d = record { validation = validation_view d.validation.now; message = option_map (λ t. t.now) d.message }

abbrev pub is_fail : FailurePolicy → Bool
is_fail Fail = true
is_fail Ignore = false

-- whether a validation with this result word denies
abbrev pub denies_word : FailurePolicy → ℕ → Bool
denies_word f word = nat_eq word 1 || (nat_eq word 2 && is_fail f)

abbrev pub lent : Option (Option (List ℕ)) → Option (List ℕ)
lent (Some message) = message
lent None = None

-- the denials of the validations from place i on
abbrev pub denials_told : FailurePolicy → List Validation → VerdictWords → ℕ → List Denial
denials_told f [] words i = []
denials_told f (r ∷ rs) words i =
    let more = denials_told f rs words (i + 1) in
    if denies_word f (slice_index words.results i)
    then record { validation = r; message = lent (slice_get words.messages i) } ∷ more else more

-- the denials of the validations from place i on, by the result word and the message text of each place
abbrev pub denials_by : FailurePolicy → List Validation → (ℕ → ℕ) → (ℕ → Option (List ℕ)) → ℕ → List Denial
denials_by f [] result message i = []
denials_by f (r ∷ rs) result message i =
    let more = denials_by f rs result message (i + 1) in
    if denies_word f (result i) then record { validation = r; message = message i } ∷ more else more

-- the denials by the words of the verdict region
abbrev pub denials_read : Memory → List ValueOrError → Parts → List Denial
denials_read m values p =
    denials_by p.failure_policy (map validation_view p.validations.items) (λ i. verdict_word m (first_result + i))
    (λ i. text_named values (verdict_word m (first_message + i))) 0

-- the denials of all validations
abbrev pub denials_in : Parts → Verdict → List Denial
denials_in p v = denials_told p.failure_policy (map validation_view p.validations.items) (words_view v) 0
