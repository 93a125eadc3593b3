-- The verdict that its words represent.
use Rattle.verdicts.proofs.Prelude.{◌≡◌, ◌<◌, ◌≤◌, ◌+◌, ◌*◌, ℕ, Bool, true, false, List, [], length, Option, None, nat_lt, arith, refl, sym, ap, ◌∙◌, zero, suc, ◌∷◌, ◌++◌, Some, ◌-◌, map, subst, ltb-false, nat_tests, slice_get_past, slice_get, if◌then◌else◌, slice_index, Memory, IsMemory, base_of, word_in, read_word, ValueOrError, AreRead, IsLayout, Encodes, VerdictWords, finding_word, first_message, first_result, message_at, message_in, part_limit, ok_or_zero, result_at, text_named, verdict_word, outcome_of, outcome_word, truth_word, Finding, Verdict, CheckResult, Outcome, denies, FailurePolicy, IsAcceptedPolicy, Parts, denials_told, denies_word, lent, Validation, Policy, validation_view, policy_view, Rejection, rejection_tree, rejection_by, rejection_of, response_text, Denial, denials_of, response_of, tree_of, Admitted, Skipped}
use Rattle.std.proofs.Common.{◌⊎◌}
use Rattle.guest_memory.specs.Memory.{Verdict as VerdictRegion}

word_is : (m : Memory) (i : ℕ) → IsMemory m → i < 256 → verdict_word m i ≡ word_in m.verdict i
unfolding verdict_word
word_is m i is below = ap ok_or_zero (read_word m VerdictRegion i (base_of VerdictRegion + 8 * i) is (let size = is.verdict in omega arith) refl)

-- the finding at one place is read as it is; at other places there is none
read_by : {A : Type 0} (read : Option Finding → A) (here : A) (x : Option Finding) (b : Bool) → (b ≡ true → here ≡ read x) → (b ≡ false → x ≡ None)
    → (if b then here else read None) ≡ read x
read_by read here x true is beyond = is refl
read_by read here x false is beyond = sym (ap read (beyond refl))

module _ (f : FailurePolicy) (v : Verdict) (values : List ValueOrError) (m : Memory) (count : ℕ) (is : IsMemory m) (within : length v.findings ≤ count) (layout : IsLayout f v values m.verdict) where
  beyond : (i : ℕ) → nat_lt i count ≡ false → slice_get v.findings i ≡ None
  beyond i e = slice_get_past v.findings i (let past = ltb-false i count e in omega arith)

  result_is : (i : ℕ) → i < part_limit → result_at m count i ≡ finding_word (slice_get v.findings i)
  result_is i below = grind (arith, read_by, nat_lt, word_is, beyond)

  named_is : (i : ℕ) → i < part_limit → text_named values (verdict_word m (first_message + i)) ≡ message_in (slice_get v.findings i)
  named_is i below = ap (text_named values) (word_is m (first_message + i) is (omega arith)) ∙ (grind (arith, nat_tests))

  message_is : (i : ℕ) → i < part_limit → message_at m values count i ≡ message_in (slice_get v.findings i)
  message_is i below = read_by message_in _ (slice_get v.findings i) (nat_lt i count) (λ e. named_is i below) (beyond i)

  -- the words that are read from the layout of a verdict represent this verdict
  pub layout_told : (words : VerdictWords) → AreRead m values count words → Encodes f v words
  layout_told words read = grind (arith, word_is, result_is, message_is)

-- the result word and the message text of a validation in the layout of a verdict
module _ (f : FailurePolicy) (v : Verdict) (values : List ValueOrError) (m : Memory) (is : IsMemory m) (layout : IsLayout f v values m.verdict) where
  pub finding_read : (i : ℕ) → i < part_limit → verdict_word m (first_result + i) ≡ finding_word (slice_get v.findings i)
  finding_read i below = word_is m (first_result + i) is (omega arith) ∙ layout.results i below

  pub message_read : (i : ℕ) → i < part_limit → text_named values (verdict_word m (first_message + i)) ≡ message_in (slice_get v.findings i)
  message_read = named_is f v values m (length v.findings) is (omega arith) layout

-- ---- the loop over the validations

pub record DenialsGo (f : FailurePolicy) (all rest : List Validation) (words : VerdictWords) (i : ℕ) (done : List Denial) : Type 0 where
  pub left : denials_told f all words 0 ≡ done ++ denials_told f rest words i

-- ---- the verdict in the words

none_told : (f : FailurePolicy) (rs : List Validation) (words : VerdictWords) (i : ℕ) → ((k : ℕ) → i ≤ k → k < i + length rs → slice_index words.results k ≡ 0)
    → denials_told f rs words i ≡ []
none_told f [] words i zeros = refl
none_told f (r ∷ rs) words i zeros = grind (arith, none_told f rs words (i + 1) (λ k low high. zeros k (omega arith) (omega arith)))

one_told : (f : FailurePolicy) (r : Validation) (t : CheckResult) (m : Option (List ℕ)) (word : ℕ) (message : Option (Option (List ℕ))) (told more : List Denial)
    → word ≡ truth_word t → message ≡ Some m → told ≡ more
    → (if denies_word f word then record { validation = r; message = lent message } ∷ told else told)
    ≡ (if denies f t then record { validation = r; message = m } ∷ more else more)
one_told f r t m word message told more is said same = grind arith

-- the words from place i on represent these findings
pub record TellFrom (xs : List Finding) (words : VerdictWords) (i n : ℕ) : Type 0 where
  pub results : (k : ℕ) → k < n → slice_index words.results (i + k) ≡ finding_word (slice_get xs k)
  pub messages : (k : ℕ) → k < n → slice_get words.messages (i + k) ≡ Some (message_in (slice_get xs k))

pub past : (words : VerdictWords) (i n k : ℕ) → i ≤ k → k < i + n → TellFrom [] words i n → slice_index words.results k ≡ 0
past words i n k low high told = ap (slice_index words.results) (omega arith) ∙ told.results (k - i) (omega arith)

pub rest_told : (x : Finding) (xs : List Finding) (words : VerdictWords) (i n : ℕ) → TellFrom (x ∷ xs) words i (suc n) → TellFrom xs words (i + 1) n
rest_told x xs words i n told = record {
  results = λ k below. ap (slice_index words.results) (omega arith) ∙ told.results (suc k) (omega arith);
  messages = λ k below. ap (slice_get words.messages) (omega arith) ∙ told.messages (suc k) (omega arith);
}

pub denials_from : (f : FailurePolicy) (rs : List Validation) (xs : List Finding) (words : VerdictWords) (i n : ℕ) → length rs ≤ n → TellFrom xs words i n
    → denials_told f rs words i ≡ denials_of f rs xs
denials_from f [] xs words i n short told = refl
denials_from f (r ∷ rs) [] words i n short told = none_told f (r ∷ rs) words i (λ k low high. past words i n k low (omega arith) told)
denials_from f (r ∷ rs) (x ∷ xs) words i zero short told = absurd (omega arith)
denials_from f (r ∷ rs) (x ∷ xs) words i (suc n) short told =
    one_told f r x.truth x.message _ _ _ _ (ap (slice_index words.results) (omega arith) ∙ told.results 0 (omega arith))
    (ap (slice_get words.messages) (omega arith) ∙ told.messages 0 (omega arith))
    (denials_from f rs xs words (i + 1) n (omega arith) (rest_told x xs words i n told))

-- the word of an outcome gives back the outcome
pub outcome_told : (o : Outcome) → outcome_of (outcome_word o) ≡ o
outcome_told o = grind arith

-- the outcome of the verdict in the layout
pub outcome_is : (f : FailurePolicy) (v : Verdict) (values : List ValueOrError) (m : Memory) → IsMemory m → IsLayout f v values m.verdict
    → outcome_of (verdict_word m 0) ≡ v.outcome
outcome_is f v values m is layout = ap outcome_of (word_is m 0 is (omega arith) ∙ layout.outcome) ∙ outcome_told v.outcome

none_by : (o : Outcome) (ds : List Denial) → (o ≡ Skipped) ⊎ (o ≡ Admitted) → None ≡ rejection_by o ds
none_by o ds allows = grind arith

-- an outcome that allows the request leaves no rejection
pub allowed_left : (p : Policy) (v : Verdict) (values : List ValueOrError) (m : Memory)
    → IsMemory m → IsLayout p.failure_policy v values m.verdict
    → (outcome_of (verdict_word m 0) ≡ Skipped) ⊎ (outcome_of (verdict_word m 0) ≡ Admitted) → None ≡ rejection_of p v
allowed_left p v values m is layout allows =
    let denials = denials_of p.failure_policy p.validations v.findings in
    subst (λ (o : Outcome). None ≡ rejection_by o denials) (outcome_is p.failure_policy v values m is layout)
    (none_by (outcome_of (verdict_word m 0)) denials allows)

pub from_zero : (f : FailurePolicy) (v : Verdict) (words : VerdictWords) → Encodes f v words → TellFrom v.findings words 0 part_limit
from_zero f v words told = grind arith

rejection_is : (f : FailurePolicy) (rs : List Validation) (v : Verdict) (words : VerdictWords) → length rs ≤ part_limit → Encodes f v words
    → rejection_by (outcome_of words.outcome) (denials_told f rs words 0) ≡ rejection_by v.outcome (denials_of f rs v.findings)
rejection_is f rs v words short told = grind (arith, outcome_told, denials_from, from_zero)

pub few_parts : (p : Policy) → IsAcceptedPolicy p → (length p.variables ≤ 64) × (length p.validations ≤ 64)
few_parts p accepted = grind (arith, ltb-false)

-- the rejection that is returned is the one for the verdict in the words
pub objected : (parts : Parts) (p : Policy) (v : Verdict) (words : VerdictWords) (said : Option Rejection) → p ≡ policy_view parts → IsAcceptedPolicy (policy_view parts)
    → Encodes p.failure_policy v words
    → said ≡ rejection_by (outcome_of words.outcome) (denials_told parts.failure_policy (map validation_view parts.validations.items) words 0) → said ≡ rejection_of p v
objected parts p v words said is accepted told here = grind (arith, rejection_is, few_parts)

tree_by : (o : Outcome) (ds : List Denial) (uid : List ℕ) → rejection_tree (rejection_by o ds) uid ≡ tree_of o ds uid
tree_by o ds uid = grind arith

-- the response to the rejection is the response to the verdict
pub responded : (p : Policy) (v : Verdict) (uid bytes : List ℕ) (said : Option Rejection) → said ≡ rejection_of p v → bytes ≡ response_text said uid
    → bytes ≡ response_of p v uid
unfolding response_of response_text
responded p v uid bytes said here written = grind (arith, tree_by)
