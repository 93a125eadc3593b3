-- Ints with their sign as they are written (cel-spec, INT_LIT).
use Rattle.std.specs.Prelude.{◌≡◌, ◌≢◌, ◌≤◌, ◌<◌, ◌↔◌, ◌+◌, ◌^◌, ℕ, ℤ, pos, neg_ℤ, List, ◌∷◌, length, take, drop, true, false, codes}
use Rattle.cel_tokens.specs.declared.mark.Mark.TheVariants.{Minus, CloseParen, CloseBracket, CloseBrace}
use Rattle.cel_tokens.specs.Token.{Word, name, int, text, mark}
use Rattle.cel_tokens.specs.Bytes.{is_digit_of}
use Rattle.cel_tokens.specs.Ints.{number}
use Rattle.cel_tokens.specs.Lexed as front
use Rattle.cel_tokens.specs.Lexed.{front, sign_may_follow}
use Rattle.cel_tokens.specs.Longest.{AllPass, IsDecimal}
use Rattle.cel_tokens.specs.Gaps.{Skips}

-- the bytes of an int and its number: decimal digits, or hex digits after 0x (48, 120)
pub data Spells : List ℕ → ℕ → Type 0 where
  decimal : (ds : List ℕ) → IsDecimal ds → Spells ds (number 10 ds)
  hex : (d : ℕ) (ds : List ℕ) → AllPass (is_digit_of 16) (d ∷ ds) → Spells (48 ∷ 120 ∷ d ∷ ds) (number 16 (d ∷ ds))

-- the first n of these bytes are an int of this number, and no longer prefix is an int
abbrev pub IsInt : List ℕ → ℕ → ℕ → Type 0
IsInt bytes n value =
    (n ≤ length bytes) × Spells (take n bytes) value × ((m other : ℕ) → m ≤ length bytes → Spells (take m bytes) other → m ≤ n)

-- after a minus: a gap of blanks and comments, and an int of n bytes and this number
abbrev pub FollowsSign : List ℕ → ℕ → ℕ → ℕ → Type 0
FollowsSign bytes gap n value = (gap ≤ length bytes) × Skips bytes (drop gap bytes) × IsInt (drop gap bytes) n value

-- after this word a minus is an operator: an identifier but `in`, a literal, or a closing bracket
pub data EndsOperand : Word → Type 0 where
  identifier : (bytes : List ℕ) → bytes ≢ codes "in" → EndsOperand (name bytes)
  an_int : (z : ℤ) → EndsOperand (int z)
  a_text : (bytes : List ℕ) → EndsOperand (text bytes)
  paren : EndsOperand (mark CloseParen)
  bracket : EndsOperand (mark CloseBracket)
  brace : EndsOperand (mark CloseBrace)

-- a minus may be a sign exactly if it is not after such a word
abbrev pub HasPrefixPosition : Type 0
HasPrefixPosition = (w : Word) → (sign_may_follow w ≡ false) ↔ EndsOperand w

-- if it may not, a minus (45) is a token by itself
abbrev pub HasPlainMinus : Type 0
HasPlainMinus = (bytes : List ℕ) → front false (45 ∷ bytes) ≡ front.word 1 (mark Minus)

-- if it may, the token is an int exactly if an int follows the minus, and its value is that number negated
abbrev pub HasNegatedInt : Type 0
HasNegatedInt = (bytes : List ℕ) (len : ℕ) (z : ℤ)
    → (front true (45 ∷ bytes) ≡ front.word len (int z))
    ↔ ((gap n value : ℕ) × FollowsSign bytes gap n value × (len ≡ 1 + gap + n) × (z ≡ neg_ℤ (pos value)) × (value ≤ 2 ^ 63))

-- the int is refused at its digits exactly if the negated number does not fit 64 bits
abbrev pub HasWideInt : Type 0
HasWideInt = (bytes : List ℕ) (before : ℕ)
    → (front true (45 ∷ bytes) ≡ front.wide_int before)
    ↔ ((gap n value : ℕ) × FollowsSign bytes gap n value × (before ≡ 1 + gap) × (2 ^ 63 < value))
