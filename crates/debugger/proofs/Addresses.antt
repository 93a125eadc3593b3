-- Addresses in hex digits.
use Rattle.debugger.proofs.Prelude.{◌≡◌, ℕ, zero, suc, ◌+◌, ◌*◌, ◌/◌, ◌%◌, ◌^◌, ◌<◌, ◌≤◌, true, false, List, [], ◌∷◌, ◌++◌, nat_eq, ap, ◌∙◌, append_assoc, arith, add-one, pow-le-pow_right, pow-suc, nat_tests, hex_digit, hex_digits, hex_value, is_hex_digit, numbered, number_of, read_address, MemoryAt}

-- one more digit
pub below_digit : (d a v : ℕ) → a < 16 ^ d → v < 16 → a * 16 + v < 16 ^ (d + 1)
below_digit d a v small digit =
    let next : 16 ^ (d + 1) ≡ 16 ^ d * 16 = ap (λ (j : ℕ). 16 ^ j) (add-one d) ∙ pow-suc 16 d in
    omega (arith, next, digit, small)

-- 15 digits have 60 bits
pub power_fits : (d : ℕ) → d < 16 → 16 ^ d ≤ 2 ^ 60
power_fits d few = grind (arith, nat_tests, pow-le-pow_right)

-- a digit, and its number
pub record IsDigit (c v : ℕ) : Type 0 where
  pub is_hex : is_hex_digit c ≡ true
  pub value : hex_value c ≡ v
  pub below : v < 16
  pub digit : hex_digit v ≡ c
  pub no_space : nat_eq c 32 ≡ false

pub digit_is : (c : ℕ) → is_hex_digit c ≡ true → IsDigit c (hex_value c)
digit_is c some = grind arith

-- the digit of a number below 16
pub digit_of : (v : ℕ) → v < 16 → IsDigit (hex_digit v) v
digit_of v below = grind arith

-- the digits of a number and one more
pub hex_digits-more : (d a c v : ℕ) → IsDigit c v → hex_digits (suc d) (a * 16 + v) ≡ hex_digits d a ++ c ∷ []
unfolding hex_digits
hex_digits-more d a c v i = grind arith

-- reading one digit
digit_read : (d a c v : ℕ) (rest : List ℕ) → IsDigit c v → d < 16 → read_address d a (c ∷ rest) ≡ read_address (suc d) (a * 16 + v) rest
digit_read d a c v rest i few = grind arith

-- the digits of an address are read as the address
pub address_read : (d a : ℕ) (rest : List ℕ) → d ≤ 16 → a < 16 ^ d → read_address 0 0 (hex_digits d a ++ rest) ≡ read_address d a rest
unfolding hex_digits
address_read zero a rest few small =
    let none : 0 ≡ a = omega (arith, small) in
    ap (λ (n : ℕ). read_address 0 n rest) none
address_read (suc d) a rest few small =
    let i = digit_of (a % 16) (omega arith) in
    let power : 16 ^ suc d ≡ 16 ^ d * 16 = pow-suc 16 d in
    let front : a / 16 < 16 ^ d = omega (arith, power, small) in
    let back : a / 16 * 16 + a % 16 ≡ a = omega arith in
    ap (read_address 0 0) (append_assoc (hex_digits d (a / 16)) (hex_digit (a % 16) ∷ []) rest)
    ∙ address_read d (a / 16) (hex_digit (a % 16) ∷ rest) (omega (arith, few)) front
    ∙ digit_read d (a / 16) (hex_digit (a % 16)) (a % 16) rest i (omega (arith, few))
    ∙ ap (λ (n : ℕ). read_address (suc d) n rest) back

-- a space ends the digits
pub address_ended : (d a : ℕ) (rest : List ℕ) → 0 < d → read_address d a (32 ∷ rest) ≡ numbered (MemoryAt a) (number_of rest)
address_ended d a rest some = grind arith
