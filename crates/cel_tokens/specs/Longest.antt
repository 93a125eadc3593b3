-- Bounds of the longest token at a position.
use Rattle.std.specs.Prelude.{◌≡◌, ◌≤◌, ◌⊎◌, ℕ, List, [], ◌∷◌, ◌++◌, length, Bool, true, None}
use Rattle.cel_tokens.specs.Token.{Word}
use Rattle.cel_tokens.specs.Bytes.{is_letter, is_name_byte, is_digit_of}
use Rattle.cel_tokens.specs.Texts.{opening}
use Rattle.cel_tokens.specs.Lexed as front
use Rattle.cel_tokens.specs.Lexed.{front}

-- each of the bytes passes
abbrev pub AllPass : (ℕ → Bool) → List ℕ → Type 0
AllPass p [] = Unit {0}
AllPass p (b ∷ bs) = (p b ≡ true) × AllPass p bs

-- these bytes are a name: a letter or _, then letters, digits and _
abbrev pub IsName : List ℕ → Type 0
IsName [] = ⊥
IsName (b ∷ bs) = (is_letter b ≡ true) × AllPass is_name_byte bs

-- these bytes are decimal digits
abbrev pub IsDecimal : List ℕ → Type 0
IsDecimal [] = ⊥
IsDecimal (b ∷ bs) = (is_digit_of 10 b ≡ true) × AllPass (is_digit_of 10) bs

-- the token at the front includes at least the first of these bytes
abbrev pub Takes : Bool → List ℕ → List ℕ → Type 0
Takes signed first rest = (n : ℕ) × (w : Word) × (front signed (first ++ rest) ≡ front.word n w) × (length first ≤ n)

-- unless a text literal begins here, the token is no shorter than any name at the front
abbrev pub NoLongerName : Type 0
NoLongerName = (signed : Bool) (first rest : List ℕ) → IsName first → opening (first ++ rest) ≡ None → Takes signed first rest

-- it is no shorter than any decimal digits, unless the int is outside 64 bits
abbrev pub NoLongerInt : Type 0
NoLongerInt = (signed : Bool) (first rest : List ℕ) → IsDecimal first
    → (front signed (first ++ rest) ≡ front.wide_int 0) ⊎ Takes signed first rest

-- it is no shorter than 0x (48, 120) and any hex digits, unless the int is outside 64 bits
abbrev pub NoLongerHex : Type 0
NoLongerHex = (signed : Bool) (d : ℕ) (ds rest : List ℕ) → AllPass (is_digit_of 16) (d ∷ ds)
    → (front signed (48 ∷ 120 ∷ d ∷ (ds ++ rest)) ≡ front.wide_int 0) ⊎ Takes signed (48 ∷ 120 ∷ d ∷ ds) rest
