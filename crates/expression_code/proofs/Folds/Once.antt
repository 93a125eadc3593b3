-- The fold that the code of `exists_one` computes: false if the predicate was never true, true if it was once, null
-- if it was more often, and the error if it was neither true nor false. It only has to count up to two.
use Rattle.expression_code.proofs.Prelude.{◌≡◌, ℕ, zero, suc, ◌+◌, List, [], ◌∷◌, Option, Some, None, Bool, true, false, refl, sym, ap, ◌∙◌, arith, pos, fold as fold_left, Value, ValueOrError, error, value, boolean, null, int, ExistsOne, end_of, folded, is_error, one_more, step_of, when_true, Truth, Yes, No, Other, truth, fold_of}

abbrev pub once_more : Truth → Bool → ValueOrError
once_more u true = error
once_more No false = value (boolean true)
once_more _ false = value null

-- the result after one more item, for which the predicate gives x
abbrev pub once_step : ValueOrError → ValueOrError → ValueOrError
once_step acc x = when_true (truth x) (once_more (truth acc) (is_error acc)) acc

abbrev pub once_by : Truth → Bool → ValueOrError
once_by u true = error
once_by Yes false = value (boolean true)
once_by _ false = value (boolean false)

-- more than once is not once
abbrev pub once_end : ValueOrError → ValueOrError
once_end acc = once_by (truth acc) (is_error acc)

-- the result after the predicate was true this number of times
abbrev once_count : ℕ → ValueOrError
once_count zero = value (boolean false)
once_count (suc zero) = value (boolean true)
once_count (suc (suc n)) = value null

module _ (f : Value → ValueOrError) where
  abbrev once_of : ValueOrError → Value → ValueOrError
  once_of acc v = once_step acc (f v)

  once_fails : (items : List Value) → fold_left once_of error items ≡ error
  once_fails [] = refl
  once_fails (v ∷ items) = ap (λ (a : ValueOrError). fold_left once_of a items) (grind arith) ∙ once_fails items

  count_fails : (items : List Value) → fold_left (step_of ExistsOne f) error items ≡ error
  count_fails [] = refl
  count_fails (v ∷ items) = ap (λ (a : ValueOrError). fold_left (step_of ExistsOne f) a items) (grind arith) ∙ count_fails items

  abbrev Counts : ℕ → List Value → Type 0
  Counts n items = once_end (fold_left once_of (once_count n) items) ≡ end_of ExistsOne (fold_left (step_of ExistsOne f) (value (int (pos n))) items)

  once_by_truth : (t : Truth) (n : ℕ) (items : List Value) → ((m : ℕ) → Counts m items) → once_end (fold_left once_of (when_true t (once_more (truth (once_count n)) (is_error (once_count n))) (once_count n)) items) ≡ end_of ExistsOne (fold_left (step_of ExistsOne f) (when_true t (one_more (Some (pos n))) (value (int (pos n)))) items)
  once_by_truth Yes n items counts =
      let next : n + 1 ≡ suc n = omega arith in
      ap (λ (a : ValueOrError). once_end (fold_left once_of a items)) (grind arith) ∙ counts (suc n) ∙ sym (ap (λ (m : ℕ). end_of ExistsOne (fold_left (step_of ExistsOne f) (value (int (pos m))) items)) next)
  once_by_truth No n items counts = counts n
  once_by_truth Other n items counts = ap once_end (once_fails items) ∙ sym (ap (end_of ExistsOne) (count_fails items))

  once_counts : (items : List Value) (n : ℕ) → Counts n items
  once_counts [] n = grind arith
  once_counts (v ∷ items) n = once_by_truth (truth (f v)) n items (λ m. once_counts items m)

  pub once_folds : (o : Option (List Value)) → once_end (fold_of once_of (value (boolean false)) o) ≡ folded ExistsOne f o
  once_folds (Some items) = once_counts items 0
  once_folds None = refl
