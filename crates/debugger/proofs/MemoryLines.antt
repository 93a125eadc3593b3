-- The lines of bytes of memory.
use Rattle.debugger.proofs.Prelude.{◌≡◌, ℕ, zero, suc, ◌+◌, ◌*◌, ◌/◌, ◌%◌, ◌^◌, ◌<◌, ◌≤◌, List, [], ◌∷◌, ◌++◌, length, take, drop, refl, sym, ap, ◌∙◌, append_assoc, append-nil, arith, length-drop, nat_tests, pow-suc, cases_lt, take_all, hex_digits, memory_line, memory_lines}

wrapped_digits : (k x : ℕ) → hex_digits k (x + 16 ^ k) ≡ hex_digits k x
unfolding hex_digits
wrapped_digits zero x = refl
wrapped_digits (suc k) x = grind (arith, pow-suc, wrapped_digits k (x / 16))

wrapped_line : (a b : ℕ) (bytes : List ℕ) → a ≡ b + 2 ^ 64 → memory_line a bytes ≡ memory_line b bytes
unfolding memory_line
wrapped_line a b bytes is = grind (arith, nat_tests, wrapped_digits)

-- an address is shown in 64 bits
wrapped_lines : (count a b : ℕ) (bytes : List ℕ) → a ≡ b + 2 ^ 64 → memory_lines count a bytes ≡ memory_lines count b bytes
unfolding memory_lines
wrapped_lines (suc count) a b (c ∷ cs) is =
    let next : a + 16 ≡ b + 16 + 2 ^ 64 = omega (arith, is) in
    let first = wrapped_line a b (take 16 (c ∷ cs)) is in
    let rest = wrapped_lines count (a + 16) (b + 16) (drop 16 (c ∷ cs)) next in
    λ i. first i ++ rest i
wrapped_lines _ a b _ is = refl

pub lines_none : (count a : ℕ) (old bytes : List ℕ) → length bytes ≡ 0 → old ≡ old ++ memory_lines count a bytes
unfolding memory_lines
lines_none count a old bytes none = grind (arith, nat_tests, append-nil)

pub some_bytes : (bytes : List ℕ) → (length bytes ≡ 0 → ⊥) → 0 < length bytes
some_bytes bytes some = grind arith

-- one line
pub lines_one : (count a : ℕ) (old new bytes : List ℕ) → 0 < length bytes → length bytes ≤ 16 → length bytes ≤ 16 * count
    → new ≡ old ++ memory_line a bytes → new ≡ old ++ memory_lines count a bytes
unfolding memory_lines
lines_one zero a old new bytes some few enough is = absurd (omega (arith, some, enough))
lines_one (suc count) a old new [] some few enough is = absurd (omega (arith, some))
lines_one (suc count) a old new (b ∷ bs) some few enough is =
    let whole : take 16 (b ∷ bs) ≡ b ∷ bs = take_all 16 (b ∷ bs) few in
    let none : length (drop 16 (b ∷ bs)) ≡ 0 = omega (arith, length-drop 16 (b ∷ bs), few) in
    is ∙ ap (λ (t : List ℕ). old ++ t) (lines_none count (a + 16) (memory_line a (b ∷ bs)) (drop 16 (b ∷ bs)) none ∙ ap (λ (t : List ℕ). memory_line a t ++ memory_lines count (a + 16) (drop 16 (b ∷ bs))) (sym whole))

-- the line of the first 16 bytes is written, and the others begin at `next`
pub record IsFirstLine (a next : ℕ) (old mid bytes rest : List ℕ) : Type 0 where
  pub front : List ℕ
  pub many : 16 < length bytes
  pub fits : a < 2 ^ 64
  pub wraps : next ≡ (a + 16) % 2 ^ 64
  pub front_is : front ≡ take 16 bytes
  pub rest_is : rest ≡ drop 16 bytes
  pub line : mid ≡ old ++ memory_line a front

-- a line, and those after it
pub lines_first : (count a next : ℕ) (old mid new bytes rest : List ℕ) → IsFirstLine a next old mid bytes rest → length bytes ≤ 16 * count
    → ((k : ℕ) → length rest ≤ 16 * k → new ≡ mid ++ memory_lines k next rest) → new ≡ old ++ memory_lines count a bytes
unfolding memory_lines
lines_first count a next old mid new bytes rest is_first enough more =
    let front = is_first.front in
    let many = is_first.many in
    let fits = is_first.fits in
    let wraps = is_first.wraps in
    let first = is_first.front_is in
    let left = is_first.rest_is in
    let one = is_first.line in
    grind (arith, nat_tests, append_assoc, length-drop, cases_lt, wrapped_lines)
