-- The denials of a verdict whose words are read one by one.
use Rattle.verdicts.proofs.Prelude.{◌≡◌, ◌<◌, ◌≤◌, ◌+◌, ◌∙◌, ◌∷◌, ◌++◌, ℕ, zero, suc, List, [], length, Option, Some, arith, refl, sym, ap, map, slice_get, if◌then◌else◌, Memory, IsMemory, ValueOrError, IsLayout, finding_word, first_message, first_result, message_in, part_limit, text_named, verdict_word, outcome_of, truth_word, Finding, Verdict, CheckResult, denies, FailurePolicy, IsAcceptedPolicy, Parts, denials_by, denials_read, denies_word, Validation, Policy, validation_view, policy_view, Rejection, Denial, denials_of, Outcome}
use Rattle.verdicts.specs.Rejections.{denied, rejection_by, rejection_of, undecided}
use Rattle.verdicts.specs.declared.outcome.Outcome.{TheVariants.Rejected, TheVariants.Denied}
use Rattle.verdicts.proofs.Told.{few_parts, finding_read, message_read, outcome_is}

-- ---- the loop over the validations

pub record DenialsLeft (f : FailurePolicy) (all rest : List Validation) (result : ℕ → ℕ) (message : ℕ → Option (List ℕ)) (i : ℕ) (done : List Denial) : Type 0 where
  pub left : denials_by f all result message 0 ≡ done ++ denials_by f rest result message i

-- ---- the denials of the verdict

none_left : (f : FailurePolicy) (rs : List Validation) (result : ℕ → ℕ) (message : ℕ → Option (List ℕ)) (i : ℕ)
    → ((k : ℕ) → k < length rs → result (i + k) ≡ 0) → denials_by f rs result message i ≡ []
none_left f [] result message i zeros = refl
none_left f (r ∷ rs) result message i zeros =
    let here : result i ≡ 0 = ap result (omega arith) ∙ zeros 0 (omega arith) in
    let more = none_left f rs result message (i + 1) (λ k below. ap result (omega arith) ∙ zeros (suc k) (omega (arith, below))) in
    grind (arith, here, more)

one_left : (f : FailurePolicy) (r : Validation) (t : CheckResult) (m message : Option (List ℕ)) (word : ℕ) (told more : List Denial)
    → word ≡ truth_word t → message ≡ m → told ≡ more
    → (if denies_word f word then record { validation = r; message = message } ∷ told else told)
    ≡ (if denies f t then record { validation = r; message = m } ∷ more else more)
one_left f r t m message word told more is said same = grind arith

-- the words and texts from place i on are those of these findings
pub record LeftFrom (xs : List Finding) (result : ℕ → ℕ) (message : ℕ → Option (List ℕ)) (i n : ℕ) : Type 0 where
  pub results : (k : ℕ) → k < n → result (i + k) ≡ finding_word (slice_get xs k)
  pub messages : (k : ℕ) → k < n → message (i + k) ≡ message_in (slice_get xs k)

rest_left : (x : Finding) (xs : List Finding) (result : ℕ → ℕ) (message : ℕ → Option (List ℕ)) (i n : ℕ)
    → LeftFrom (x ∷ xs) result message i (suc n) → LeftFrom xs result message (i + 1) n
rest_left x xs result message i n left = record {
  results = λ k below. ap result (omega arith) ∙ left.results (suc k) (omega (arith, below));
  messages = λ k below. ap message (omega arith) ∙ left.messages (suc k) (omega (arith, below));
}

left_from : (f : FailurePolicy) (rs : List Validation) (xs : List Finding) (result : ℕ → ℕ) (message : ℕ → Option (List ℕ)) (i n : ℕ)
    → length rs ≤ n → LeftFrom xs result message i n → denials_by f rs result message i ≡ denials_of f rs xs
left_from f [] xs result message i n short left = refl
left_from f (r ∷ rs) [] result message i n short left =
    none_left f (r ∷ rs) result message i (λ k below. left.results k (omega (arith, short, below)))
left_from f (r ∷ rs) (x ∷ xs) result message i zero short left = absurd (omega (arith, short))
left_from f (r ∷ rs) (x ∷ xs) result message i (suc n) short left =
    one_left f r x.truth x.message _ _ _ _ (ap result (omega arith) ∙ left.results 0 (omega arith))
    (ap message (omega arith) ∙ left.messages 0 (omega arith))
    (left_from f rs xs result message (i + 1) n (omega (arith, short)) (rest_left x xs result message i n left))

-- the denials that are read are those of the verdict that was left
pub denials_are : (parts : Parts) (p : Policy) (v : Verdict) (values : List ValueOrError) (m : Memory)
    → p ≡ policy_view parts → IsAcceptedPolicy (policy_view parts) → IsMemory m → IsLayout p.failure_policy v values m.verdict
    → denials_read m values parts ≡ denials_of p.failure_policy p.validations v.findings
denials_are parts p v values m is accepted memory layout =
    let left : LeftFrom v.findings (λ i. verdict_word m (first_result + i)) (λ i. text_named values (verdict_word m (first_message + i))) 0 part_limit = record {
      results = λ k below.
          let same : 0 + k ≡ k = omega arith in
          ap (λ (j : ℕ). verdict_word m (first_result + j)) same ∙ finding_read p.failure_policy v values m memory layout k below;
      messages = λ k below.
          let same : 0 + k ≡ k = omega arith in
          ap (λ (j : ℕ). text_named values (verdict_word m (first_message + j))) same ∙ message_read p.failure_policy v values m memory layout k below;
    } in
    left_from parts.failure_policy (map validation_view parts.validations.items) v.findings _ _ 0 part_limit (few_parts (policy_view parts) accepted).1 left
    ∙ ap (λ (q : Policy). denials_of q.failure_policy q.validations v.findings) (sym is)

-- ---- the rejection

-- a verdict whose conditions are not decided
pub undecided_left : (p : Policy) (v : Verdict) (values : List ValueOrError) (m : Memory) → IsMemory m → IsLayout p.failure_policy v values m.verdict
    → outcome_of (verdict_word m 0) ≡ Rejected → Some undecided ≡ rejection_of p v
undecided_left p v values m memory layout rejected =
    ap (λ (o : Outcome). rejection_by o (denials_of p.failure_policy p.validations v.findings)) (sym rejected ∙ outcome_is p.failure_policy v values m memory layout)

-- a verdict that denies
pub denied_left : (p : Policy) (v : Verdict) (values : List ValueOrError) (m : Memory) (said : Rejection) → IsMemory m → IsLayout p.failure_policy v values m.verdict
    → outcome_of (verdict_word m 0) ≡ Denied → said ≡ denied (denials_of p.failure_policy p.validations v.findings) → Some said ≡ rejection_of p v
denied_left p v values m said memory layout denies is =
    ap Some is ∙ ap (λ (o : Outcome). rejection_by o (denials_of p.failure_policy p.validations v.findings)) (sym denies ∙ outcome_is p.failure_policy v values m memory layout)
