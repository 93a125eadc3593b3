-- The lines of the words of the verdict region, stated for lists of words.
use Rattle.review_runner.proofs.Prelude.{◌≡◌, ℕ, zero, suc, ◌+◌, ◌*◌, ◌<◌, ◌≤◌, List, [], ◌∷◌, ◌++◌, length, refl, sym, ap, ◌∙◌, subst, append_assoc, append-nil, arith, codes, decimal, map, slice_get, slice_index, word_in, part, word_of, ValueOrError, IsLayout, IsMessageWord, finding_word, message_in, outcome_word, truth_word, Finding, Verdict, FailurePolicy, verdict_line, verdict_lines, verdict_word, word_line, word_lines, AreMessageReferences, numbered_lines, outcome_line, told_text}
use Rattle.guest_memory.specs.Memory.{Memory}

-- ---- numbered words

module _ (name : List ℕ) (words : ℕ → ℕ) where
  -- the lines of n words from number i on
  lines_from : ℕ → ℕ → List ℕ
  lines_from i zero = []
  lines_from i (suc n) = word_line name i (words i) ++ lines_from (suc i) n

  -- the lines of the first n words
  lines_before : ℕ → List ℕ
  lines_before zero = []
  lines_before (suc i) = lines_before i ++ word_line name i (words i)

  before_and_from : (n i m : ℕ) → m ≡ n + i → lines_before i ++ lines_from i n ≡ lines_before m
  unfolding lines_from lines_before
  before_and_from zero i m e = let same : i ≡ m = omega (arith, e) in append-nil (lines_before i) ∙ ap lines_before same
  before_and_from (suc n) i m e = sym (append_assoc (lines_before i) (word_line name i (words i)) (lines_from (suc i) n)) ∙ before_and_from n (suc i) m (omega (arith, e))

  from_start : (n : ℕ) → lines_from 0 n ≡ lines_before n
  unfolding lines_before
  from_start n = before_and_from n 0 n (omega arith)

  silent : (i w : ℕ) → w ≡ 0 → word_line name i w ≡ []
  unfolding word_line
  silent i w none = rw none refl

  -- the words are those of a list, followed by 0
  are_numbered : (ws : List ℕ) (n i : ℕ) → length ws ≤ n → ((j k : ℕ) → k ≡ i + j → j < n → words k ≡ slice_index ws j) → lines_from i n ≡ numbered_lines name i ws
  unfolding lines_from
  are_numbered [] zero i short is = refl
  are_numbered [] (suc n) i short is =
      ap (λ (text : List ℕ). text ++ lines_from (suc i) n) (silent i (words i) (is 0 i (omega arith) (omega arith)))
      ∙ are_numbered [] n (suc i) (omega arith) (λ j k e lt. is (suc j) k (omega (arith, e)) (omega (arith, lt)))
  are_numbered (w ∷ ws) zero i short is = absurd (omega (arith, short))
  are_numbered (w ∷ ws) (suc n) i short is =
      ap (λ (v : ℕ). word_line name i v ++ lines_from (suc i) n) (is 0 i (omega arith) (omega arith))
      ∙ ap (λ (text : List ℕ). word_line name i w ++ text) (are_numbered ws n (suc i) (omega (arith, short)) (λ j k e lt. is (suc j) k (omega (arith, e)) (omega (arith, lt))))

  in_region : (m : Memory) (from : ℕ) → ((i : ℕ) → verdict_word m (from + 8 * i) ≡ words i) → (n : ℕ) → word_lines name m from n ≡ lines_before n
  unfolding word_lines lines_before
  in_region m from is zero = refl
  in_region m from is (suc n) = ap (λ (text : List ℕ). text ++ word_line name n (verdict_word m (from + 8 * n))) (in_region m from is n) ∙ ap (λ (w : ℕ). lines_before n ++ word_line name n w) (is n)

  -- so the lines of the first words of a part of the region are those of the list
  pub lines_are : (m : Memory) (from n : ℕ) (ws : List ℕ) → ((i : ℕ) → verdict_word m (from + 8 * i) ≡ words i) → length ws ≤ n
      → ((i : ℕ) → i < n → words i ≡ slice_index ws i) → word_lines name m from n ≡ numbered_lines name 0 ws
  lines_are m from n ws here short is =
      in_region m from here n ∙ sym (from_start n) ∙ are_numbered ws n 0 short (λ j k e lt. let same : k ≡ j = omega (arith, e) in ap words same ∙ is j lt)

-- ---- results of validations

truth_at : (xs : List Finding) (i : ℕ) → finding_word (slice_get xs i) ≡ slice_index (map (λ x. truth_word x.truth) xs) i
truth_at [] i = refl
truth_at (x ∷ xs) zero = refl
truth_at (x ∷ xs) (suc i) = truth_at xs i

as_many : (xs : List Finding) → length (map (λ x. truth_word x.truth) xs) ≡ length xs
as_many [] = refl
as_many (x ∷ xs) = ap suc (as_many xs)

-- ---- references of messages

module _ (values : List ValueOrError) (words : ℕ → ℕ) where
  -- the words from number i on, one for each finding
  pub references_from : ℕ → List Finding → List ℕ
  references_from i [] = []
  references_from i (x ∷ xs) = words i ∷ references_from (suc i) xs

  pub as_many_references : (i : ℕ) (xs : List Finding) → length (references_from i xs) ≡ length xs
  unfolding references_from
  as_many_references i [] = refl
  as_many_references i (x ∷ xs) = ap suc (as_many_references (suc i) xs)

  -- the words from number i on are those of the findings' messages
  abbrev pub Name : ℕ → ℕ → List Finding → Type 0
  Name n i xs = (j k : ℕ) → k ≡ i + j → j < n → IsMessageWord values (words k) (message_in (slice_get xs j))

  name_next : (n i : ℕ) (x : Finding) (xs : List Finding) → Name (suc n) i (x ∷ xs) → Name n (suc i) xs
  name_next n i x xs is j k e lt = is (suc j) k (omega (arith, e)) (omega (arith, lt))

  pub are_references : (xs : List Finding) (n i : ℕ) → length xs ≤ n → Name n i xs → AreMessageReferences values xs (references_from i xs)
  unfolding references_from
  are_references [] n i short is = tt
  are_references (x ∷ xs) zero i short is = absurd (omega (arith, short))
  are_references (x ∷ xs) (suc n) i short is = (is 0 i (omega arith) (omega arith), are_references xs n (suc i) (omega (arith, short)) (name_next n i x xs is))

  pub reference_at : (xs : List Finding) (n i j k : ℕ) → Name n i xs → k ≡ i + j → j < n → words k ≡ slice_index (references_from i xs) j
  unfolding references_from
  reference_at [] n i j k is e lt = is j k e lt
  reference_at (x ∷ xs) n i zero k is e lt = let same : k ≡ i = omega (arith, e) in ap words same
  reference_at (x ∷ xs) zero i (suc j) k is e lt = absurd (omega (arith, lt))
  reference_at (x ∷ xs) (suc n) i (suc j) k is e lt = reference_at xs n (suc i) j k (name_next n i x xs is) (omega (arith, e)) (omega (arith, lt))

-- ---- a verdict

word_here : (m : Memory) (at i : ℕ) → at ≡ 8 * i → verdict_word m at ≡ word_in m.verdict i
unfolding word_in
word_here m at i e = ap (λ (k : ℕ). word_of (part m.verdict k 8)) e

module _ (f : FailurePolicy) (v : Verdict) (values : List ValueOrError) (m : Memory) (layout : IsLayout f v values m.verdict) (few : length v.findings ≤ 64) where
  abbrev validation_word : ℕ → ℕ
  validation_word i = word_in m.verdict (2 + i)

  abbrev message_word : ℕ → ℕ
  message_word i = word_in m.verdict (66 + i)

  pub references : List ℕ
  references = references_from values message_word 0 v.findings

  named : Name values message_word 64 0 v.findings
  named j k e lt = let same : k ≡ j = omega (arith, e) in subst (λ (i : ℕ). IsMessageWord values (message_word i) (message_in (slice_get v.findings j))) (sym same) (layout.messages j lt)

  pub are : AreMessageReferences values v.findings references
  unfolding references
  are = are_references values message_word v.findings 64 0 few named

  head : verdict_line m ≡ outcome_line f v
  unfolding verdict_line
  head =
      ap (λ (w : ℕ). codes "verdict " ++ (decimal w ++ (codes " " ++ (decimal (verdict_word m 8) ++ 10 ∷ [])))) (word_here m 0 0 (omega arith) ∙ layout.outcome)
      ∙ ap (λ (w : ℕ). codes "verdict " ++ (decimal (outcome_word v.outcome) ++ (codes " " ++ (decimal w ++ 10 ∷ [])))) (word_here m 8 1 (omega arith) ∙ layout.denials)

  validations : word_lines (codes "validation") m 16 64 ≡ numbered_lines (codes "validation") 0 (map (λ x. truth_word x.truth) v.findings)
  validations =
      lines_are (codes "validation") validation_word m 16 64 (map (λ x. truth_word x.truth) v.findings)
      (λ i. word_here m (16 + 8 * i) (2 + i) (omega arith)) (omega (arith, few, as_many v.findings)) (λ i lt. layout.results i lt ∙ truth_at v.findings i)

  messages : word_lines (codes "message") m 528 64 ≡ numbered_lines (codes "message") 0 references
  unfolding references
  messages =
      lines_are (codes "message") message_word m 528 64 (references_from values message_word 0 v.findings)
      (λ i. word_here m (528 + 8 * i) (66 + i) (omega arith)) (omega (arith, few, as_many_references values message_word 0 v.findings)) (λ i lt. reference_at values message_word v.findings 64 0 i i named (omega arith) lt)

  -- the printed words of its layout are the verdict's
  pub text_is : verdict_lines 2 m ≡ told_text f v references
  unfolding verdict_lines told_text
  text_is = grind (arith, head, validations, messages)
