-- The bytes of words.
use Rattle.guest_memory.proofs.Prelude.{◌≡◌, ℕ, zero, suc, ◌+◌, ◌*◌, ◌/◌, ◌%◌, ◌^◌, ◌<◌, List, [], ◌∷◌, length, get_or, sym, ap, ◌∙◌, arith, All, pow-succ', div-div-eq-div-mul, All-head, All-tail, word_of, low_bytes, byte_of}

byte_of-zero : (w : ℕ) → byte_of w 0 ≡ w % 256
byte_of-zero w = grind arith

byte_of-suc : (w i : ℕ) → byte_of w (suc i) ≡ byte_of (w / 256) i
byte_of-suc w i = grind (arith, pow-succ', div-div-eq-div-mul)

low_byte : (b w : ℕ) → b < 256 → (b + 256 * w) % 256 ≡ b
low_byte b w h = grind arith

high_bytes : (b w : ℕ) → b < 256 → (b + 256 * w) / 256 ≡ w
high_bytes b w h = grind arith

-- the i-th byte of the word of these bytes
pub byte_of-word_of : (bs : List ℕ) (i : ℕ) → All (λ b. b < 256) bs → i < length bs → byte_of (word_of bs) i ≡ get_or bs i 0
byte_of-word_of [] i bytes inside = absurd (omega arith)
byte_of-word_of (b ∷ bs) zero bytes inside = byte_of-zero (b + 256 * word_of bs) ∙ low_byte b (word_of bs) (All-head (λ b. b < 256) b bs bytes)
byte_of-word_of (b ∷ bs) (suc i) bytes inside =
    byte_of-suc (b + 256 * word_of bs) i
    ∙ ap (λ (w : ℕ). byte_of w i) (high_bytes b (word_of bs) (All-head (λ b. b < 256) b bs bytes))
    ∙ byte_of-word_of bs i (All-tail (λ b. b < 256) b bs bytes) (omega arith)

-- the i-th of the low bytes of a word
pub get_or-low_bytes : (n w i : ℕ) → i < n → get_or (low_bytes n w) i 0 ≡ byte_of w i
get_or-low_bytes zero w i inside = absurd (omega arith)
get_or-low_bytes (suc n) w zero inside = sym (byte_of-zero w)
get_or-low_bytes (suc n) w (suc i) inside = get_or-low_bytes n (w / 256) i (omega arith) ∙ sym (byte_of-suc w i)

more_bytes : (b w p : ℕ) → b < 256 → w < p → b + 256 * w < 256 * p
more_bytes b w p hb hw = grind arith

pub word_of-bound : (bs : List ℕ) → All (λ b. b < 256) bs → word_of bs < 256 ^ length bs
word_of-bound [] bytes = omega arith
word_of-bound (b ∷ bs) bytes =
    rw (pow-succ' 256 (length bs)) (more_bytes b (word_of bs) (256 ^ length bs) (All-head (λ b. b < 256) b bs bytes) (word_of-bound bs (All-tail (λ b. b < 256) b bs bytes)))
