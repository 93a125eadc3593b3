-- Digits of escapes.
use Rattle.cel_tokens.proofs.Prelude.{◌≡◌, ℕ, suc, zero, ◌-◌, ◌^◌, ◌<◌, List, [], ◌∷◌, length, refl, arith, Bool, true, false, Option, Some, None, min, if◌then◌else◌, ◌==◌, IsScalar, nat_tests, length-take, get_or, run, digits, code_point, is_code_point}
use Rattle.cel_tokens.proofs.Runs.{run_within}

not_so_many : (r count : ℕ) (x : Option ℕ) → r < count → (if r == count then x else None) ≡ None
not_so_many r count x h = let e : (r == count) ≡ false = grind (arith, nat_tests) in rw e refl

pub too_short : (base count : ℕ) (bytes : List ℕ) → length bytes < count → digits base count bytes ≡ None
too_short base count bytes h = grind (arith, run_within, length-take, not_so_many)

pub scalar_is : (n : ℕ) → IsScalar n → code_point n ≡ Some n
scalar_is n h = let e : is_code_point n ≡ true = (grind arith) in rw e refl

pub kept_code : (m : ℕ) → code_point (min m (2 ^ 64 - 1)) ≡ code_point m
kept_code m = grind arith

pub run_all : (p : ℕ → Bool) (xs : List ℕ) (i : ℕ) → run p xs ≡ length xs → i < length xs → p (get_or xs i 0) ≡ true
unfolding run
run_all p [] i e h = absurd (omega arith)
run_all p (x ∷ xs) zero e h = grind arith
run_all p (x ∷ xs) (suc i) e h = run_all p xs i (grind arith) (omega arith)
