-- What the words of a verdict find.
use Rattle.verdicts.proofs.Prelude.{◌≡◌, ◌<◌, ◌≤◌, ◌+◌, ◌∙◌, ℕ, zero, suc, List, [], ◌∷◌, ◌++◌, length, map, Option, Some, arith, refl, ap, slice_get, slice_index, Encodes, IsAcceptedPolicy, VerdictWords, part_limit, outcome_of, truth_word, Finding, Verdict, CheckResult, FailurePolicy, Parts, Validation, Policy, validation_view, policy_view, lent, subst, Outcome, Skipped, Admitted, Memory, IsMemory, IsLayout, ValueOrError, verdict_word}
use Rattle.std.proofs.Common.{◌⊎◌}
use Rattle.verdicts.proofs.Told.{TellFrom, few_parts, from_zero, outcome_is, outcome_told, past, rest_told}
use Rattle.verdicts.specs.Findings.{PolicyFinding, before_others, finding_at, findings_by, findings_from, findings_of}
use Rattle.verdicts.specs.FindingWords.{findings_in_words, truth_in}

-- ---- the walk

-- what is found so far, and by the validations that are left
pub record FindingsGo (f : FailurePolicy) (all rest : List Validation) (words : VerdictWords) (i : ℕ) (done : List PolicyFinding) : Type 0 where
  pub left : findings_in_words f all words 0 ≡ done ++ findings_in_words f rest words i

-- ---- what the words of a verdict find

-- the word of a result states it
truth_told : (t : CheckResult) → truth_in (truth_word t) ≡ t
truth_told t = grind arith

-- words that are 0 find nothing
none_found : (f : FailurePolicy) (rs : List Validation) (words : VerdictWords) (i : ℕ) → ((k : ℕ) → i ≤ k → k < i + length rs → slice_index words.results k ≡ 0)
    → findings_in_words f rs words i ≡ []
none_found f [] words i zeros = refl
none_found f (r ∷ rs) words i zeros =
    ap (λ w. before_others (finding_at f i r (truth_in w) (lent (slice_get words.messages i))) (findings_in_words f rs words (i + 1))) (zeros i (omega arith) (omega arith))
    ∙ none_found f rs words (i + 1) (λ k low high. zeros k (omega arith) (omega arith))

-- a validation's word and the text of its message find what its result does
one_found : (f : FailurePolicy) (i : ℕ) (r : Validation) (t : CheckResult) (m : Option (List ℕ)) (word : ℕ) (message : Option (Option (List ℕ)))
    (told more : List PolicyFinding) → word ≡ truth_word t → message ≡ Some m → told ≡ more
    → before_others (finding_at f i r (truth_in word) (lent message)) told ≡ before_others (finding_at f i r t m) more
one_found f i r t m word message told more is said same =
    ap (λ w. before_others (finding_at f i r (truth_in w) (lent message)) told) is
    ∙ ap (λ u. before_others (finding_at f i r u (lent message)) told) (truth_told t)
    ∙ ap (λ s. before_others (finding_at f i r t (lent s)) told) said
    ∙ ap (before_others (finding_at f i r t m)) same

found_from : (f : FailurePolicy) (rs : List Validation) (xs : List Finding) (words : VerdictWords) (i n : ℕ) → length rs ≤ n → TellFrom xs words i n
    → findings_in_words f rs words i ≡ findings_from f i rs xs
found_from f [] xs words i n short told = refl
found_from f (r ∷ rs) [] words i n short told = none_found f (r ∷ rs) words i (λ k low high. past words i n k low (omega arith) told)
found_from f (r ∷ rs) (x ∷ xs) words i zero short told = absurd (omega arith)
found_from f (r ∷ rs) (x ∷ xs) words i (suc n) short told =
    one_found f i r x.truth x.message _ _ _ _ (ap (slice_index words.results) (omega arith) ∙ told.results 0 (omega arith))
    (ap (slice_get words.messages) (omega arith) ∙ told.messages 0 (omega arith))
    (found_from f rs xs words (i + 1) n (omega arith) (rest_told x xs words i n told))

found_by : (f : FailurePolicy) (rs : List Validation) (v : Verdict) (words : VerdictWords) → length rs ≤ part_limit → Encodes f v words
    → findings_by (outcome_of words.outcome) (findings_in_words f rs words 0) ≡ findings_by v.outcome (findings_from f 0 rs v.findings)
found_by f rs v words short told =
    ap (λ w. findings_by (outcome_of w) (findings_in_words f rs words 0)) told.outcome
    ∙ ap (λ o. findings_by o (findings_in_words f rs words 0)) (outcome_told v.outcome)
    ∙ ap (findings_by v.outcome) (found_from f rs v.findings words 0 part_limit short (from_zero f v words told))

-- what is found is what the verdict that the words tell finds
pub found : (parts : Parts) (p : Policy) (v : Verdict) (words : VerdictWords) (xs : List PolicyFinding) → p ≡ policy_view parts → IsAcceptedPolicy (policy_view parts)
    → Encodes p.failure_policy v words
    → xs ≡ findings_by (outcome_of words.outcome) (findings_in_words parts.failure_policy (map validation_view parts.validations.items) words 0) → xs ≡ findings_of p v
found parts p v words xs is accepted told here = grind (arith, found_by, few_parts)

-- ---- an outcome that allows the request

nothing_by : (o : Outcome) (xs : List PolicyFinding) → (o ≡ Skipped) ⊎ (o ≡ Admitted) → [] ≡ findings_by o xs
nothing_by o xs allows = grind arith

-- it finds nothing
pub nothing_left : (p : Policy) (v : Verdict) (values : List ValueOrError) (m : Memory)
    → IsMemory m → IsLayout p.failure_policy v values m.verdict
    → (outcome_of (verdict_word m 0) ≡ Skipped) ⊎ (outcome_of (verdict_word m 0) ≡ Admitted) → [] ≡ findings_of p v
nothing_left p v values m is layout allows =
    let told = findings_from p.failure_policy 0 p.validations v.findings in
    subst (λ (o : Outcome). [] ≡ findings_by o told) (outcome_is p.failure_policy v values m is layout)
    (nothing_by (outcome_of (verdict_word m 0)) told allows)
