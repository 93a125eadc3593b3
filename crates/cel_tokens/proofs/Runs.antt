-- Steps over bytes at the front.
use Rattle.cel_tokens.proofs.Prelude.{◌≡◌, ℕ, suc, zero, ◌+◌, ◌<◌, ◌≤◌, List, [], ◌∷◌, length, get_or, drop, refl, arith, Bool, true, false, drop-cons, lit≤, take_all, take, ◌-◌, run, between, is_between, stays_in_comment}
use Rattle.std.proofs.Common.{length-drop}

pub run_on : (p : ℕ → Bool) (b : ℕ) (bs : List ℕ) → p b ≡ true → run p (b ∷ bs) ≡ run p bs + 1
unfolding run
run_on p b bs e = rw e refl

run_off : (p : ℕ → Bool) (b : ℕ) (bs : List ℕ) → p b ≡ false → run p (b ∷ bs) ≡ 0
unfolding run
run_off p b bs e = rw e refl

pub run_empty : (p : ℕ → Bool) (xs : List ℕ) (n : ℕ) → length xs ≤ n → run p (drop n xs) ≡ 0
unfolding run
run_empty p [] zero h = refl
run_empty p [] (suc n) h = refl
run_empty p (x ∷ xs) zero h = absurd (omega arith)
run_empty p (x ∷ xs) (suc n) h = run_empty p xs n (omega arith)

pub run_more : (p : ℕ → Bool) (xs : List ℕ) (n : ℕ) → n < length xs → p (get_or xs n 0) ≡ true → run p (drop n xs) ≡ run p (drop (n + 1) xs) + 1
run_more p xs n h e = grind (arith, drop-cons, run_on)

pub run_stops : (p : ℕ → Bool) (xs : List ℕ) (n : ℕ) → n < length xs → p (get_or xs n 0) ≡ false → run p (drop n xs) ≡ 0
run_stops p xs n h e = rw (drop-cons xs n 0) (run_off p (get_or xs n 0) (drop (suc n) xs) e)

pub run_within : (p : ℕ → Bool) (xs : List ℕ) → run p xs ≤ length xs
unfolding run
run_within p [] = lit≤ tt
run_within p (x ∷ xs) = grind (arith, run_within p xs)

pub between_on : (c : Bool) (b : ℕ) (bs : List ℕ) → is_between c b (b ∷ bs) ≡ true → between c (b ∷ bs) ≡ between (stays_in_comment c b) bs + 1
unfolding between
between_on c b bs e = rw e refl

pub between_off : (c : Bool) (b : ℕ) (bs : List ℕ) → is_between c b (b ∷ bs) ≡ false → between c (b ∷ bs) ≡ 0
unfolding between
between_off c b bs e = rw e refl

pub between_empty : (c : Bool) (xs : List ℕ) (n : ℕ) → length xs ≤ n → between c (drop n xs) ≡ 0
unfolding between
between_empty c [] zero h = refl
between_empty c [] (suc n) h = refl
between_empty c (x ∷ xs) zero h = absurd (omega arith)
between_empty c (x ∷ xs) (suc n) h = between_empty c xs n (omega arith)

pub between_more : (c : Bool) (xs : List ℕ) (n : ℕ) → n < length xs → is_between c (get_or xs n 0) (drop n xs) ≡ true
    → between c (drop n xs) ≡ between (stays_in_comment c (get_or xs n 0)) (drop (n + 1) xs) + 1
between_more c xs n h = grind (arith, drop-cons, between_on)

pub between_stops : (c : Bool) (xs : List ℕ) (n : ℕ) → n < length xs → is_between c (get_or xs n 0) (drop n xs) ≡ false → between c (drop n xs) ≡ 0
between_stops c xs n h = grind (arith, drop-cons, between_off)

-- the slice from a position on
pub tail_is : (xs : List ℕ) (n : ℕ) → take (length xs - n) (drop n xs) ≡ drop n xs
tail_is xs n = take_all (length xs - n) (drop n xs) (omega (arith, length-drop n xs))

pub run_first : (p : ℕ → Bool) (xs : List ℕ) → 0 < length xs → p (get_or xs 0 0) ≡ true → 1 ≤ run p xs
unfolding run
run_first p [] h e = absurd (omega arith)
run_first p (x ∷ xs) h e = grind arith
