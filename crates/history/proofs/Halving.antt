-- Sorted slots, and binary search for one of them.
use Rattle.history.proofs.Prelude.{◌≡◌, ℕ, Bool, true, false, List, Result, Some, arith, IsTrue, nat_eq, is_ok, is_le, is_some_and, nat_cmp, IsAllAdjacentAnswer, list_any, IsBinarySearchResult, IsNonDecreasing, cases_lt, nat_tests, list_any_at, list_any_none, non_decreasing_from_is_sorted, searched}

-- what a positive result of `is_sorted` means
pub rises : (slots : List ℕ) (rise : Bool) → IsAllAdjacentAnswer (λ x y b. is_some_and is_le (Some (nat_cmp x y)) ≡ b) slots rise → IsTrue rise → IsNonDecreasing slots
rises slots true is told = non_decreasing_from_is_sorted slots true is
rises slots false is told = cc

-- the binary search finds a slot if it is one of these
pub found : (slots : List ℕ) (slot : ℕ) (r : Result ℕ ℕ) → IsNonDecreasing slots → IsBinarySearchResult (λ y. nat_cmp y slot) slots r → is_ok r ≡ list_any (nat_eq slot) slots
found slots slot r rise is = grind (arith, searched, nat_tests, list_any_at, cases_lt, list_any_none)
