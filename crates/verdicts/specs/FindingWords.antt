-- What the words of a verdict find against a request.
use Rattle.std.specs.Prelude.{ℕ, ◌+◌, List, [], ◌∷◌, map, nat_eq, slice_get, slice_index, if◌then◌else◌}
use Rattle.verdicts.specs.Denials.{lent}
use Rattle.verdicts.specs.Findings.{PolicyFinding, before_others, finding_at}
use Rattle.verdicts.specs.Words.{VerdictWords, words_view}
use Rattle.verdicts.specs.Layout.{truth_word}
use Rattle.verdicts.specs.Policy.{Validation, validation_view}
use Rattle.verdicts.specs.Verdict.{CheckResult, Holds, Fails, Errs}
use Rattle.verdicts.specs.declared.failure_policy.FailurePolicy.{FailurePolicy}
use Rattle.verdicts.specs.declared.parts.Parts.{Parts}
use Rattle.verdicts.specs.declared.verdict.Verdict.{Verdict}

-- the result of a validation by its word
abbrev pub truth_in : ℕ → CheckResult
truth_in word =
    if nat_eq word (truth_word Fails) then Fails
    else (if nat_eq word (truth_word Errs) then Errs
    else Holds)

-- what the words find by the validations from place i on
abbrev pub findings_in_words : FailurePolicy → List Validation → VerdictWords → ℕ → List PolicyFinding
findings_in_words f [] words i = []
findings_in_words f (r ∷ rs) words i =
    before_others (finding_at f i r (truth_in (slice_index words.results i)) (lent (slice_get words.messages i)))
    (findings_in_words f rs words (i + 1))

-- what they find by all validations
abbrev pub findings_in : Parts → Verdict → List PolicyFinding
findings_in p v = findings_in_words p.failure_policy (map validation_view p.validations.items) (words_view v) 0
