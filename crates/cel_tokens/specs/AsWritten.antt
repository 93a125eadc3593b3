-- Tokens as they are written: the bytes of each, its word, and the longest token at the front of a
-- text (cel-spec, IDENT, INT_LIT and STRING_LIT)
use Rattle.std.specs.Prelude.{◌≡◌, ◌≢◌, ◌≤◌, ◌+◌, ℕ, ℤ, pos, neg_ℤ, List, [], ◌∷◌, length, take, drop, Bool, true, false, Some, FitsSigned}
use Rattle.std.specs.Int.{w64}
use Rattle.cel_tokens.specs.declared.mark.Mark.{Mark}
use Rattle.cel_tokens.specs.Token.{Word, name, int, text, mark}
use Rattle.cel_tokens.specs.Marks.{mark_of}
use Rattle.cel_tokens.specs.Texts.{is_quote, is_raw_prefix}
use Rattle.cel_tokens.specs.TextLiterals.{LiteralMeans}
use Rattle.cel_tokens.specs.Lexed as front
use Rattle.cel_tokens.specs.Lexed.{front}
use Rattle.cel_tokens.specs.Longest.{IsName}
use Rattle.cel_tokens.specs.Gaps.{Skips, IsGap}
use Rattle.cel_tokens.specs.SignedInts.{Spells, IsInt}
use Rattle.cel_tokens.specs.Laws.{IntFits}

-- these bytes are a token of this word: a name; an int of any size; if a minus (45) may be a sign, a
-- minus, blanks and comments if any, and an int, the number negated; an operator or a bracket; a quote,
-- pieces and the same quote again, also after r or R
pub data IsToken : (signed : Bool) → List ℕ → Word → Type 0 where
  a_name : {signed : Bool} {bytes : List ℕ} → IsName bytes → IsToken signed bytes (name bytes)
  an_int : {signed : Bool} {bytes : List ℕ} {value : ℕ} → Spells bytes value → IsToken signed bytes (int (pos value))
  a_signed_int : {bytes digits : List ℕ} {value : ℕ} → Skips bytes digits → Spells digits value
      → IsToken true (45 ∷ bytes) (int (neg_ℤ (pos value)))
  a_mark : {signed : Bool} {bytes : List ℕ} {m : Mark} → mark_of bytes ≡ Some m → IsToken signed bytes (mark m)
  a_text : {signed : Bool} {quote : ℕ} {bytes said : List ℕ} → is_quote quote ≡ true → LiteralMeans false quote bytes (length bytes) said
      → IsToken signed (quote ∷ bytes) (text said)
  a_raw_text : {signed : Bool} {prefix quote : ℕ} {bytes said : List ℕ} → is_raw_prefix prefix ≡ true → is_quote quote ≡ true
      → LiteralMeans true quote bytes (length bytes) said → IsToken signed (prefix ∷ quote ∷ bytes) (text said)

-- the first n of these bytes are a token of this word
abbrev pub HasToken : Bool → List ℕ → ℕ → Word → Type 0
HasToken signed bytes n w = (n ≤ length bytes) × IsToken signed (take n bytes) w

-- the first n of these bytes are a token of this word, and no longer prefix is a token
abbrev pub IsLongestToken : Bool → List ℕ → ℕ → Word → Type 0
IsLongestToken signed bytes n w = HasToken signed bytes n w × ((m : ℕ) (other : Word) → HasToken signed bytes m other → m ≤ n)

-- a text literal begins here: a quote, or r or R and a quote
pub data OpensText : List ℕ → Type 0 where
  by_quote : {quote : ℕ} {bytes : List ℕ} → is_quote quote ≡ true → OpensText (quote ∷ bytes)
  by_prefix : {prefix quote : ℕ} {bytes : List ℕ} → is_raw_prefix prefix ≡ true → is_quote quote ≡ true → OpensText (prefix ∷ quote ∷ bytes)

-- the word is a text literal
abbrev pub IsTextWord : Word → Type 0
IsTextWord (text said) = Unit {0}
IsTextWord (name bytes) = ⊥
IsTextWord (int z) = ⊥
IsTextWord (mark m) = ⊥

-- the digits of an int begin at this offset: at 0, or after a minus (45), blanks and comments
pub data DigitsAt : List ℕ → ℕ → Type 0 where
  here : {bytes : List ℕ} → DigitsAt bytes 0
  behind_sign : {bytes : List ℕ} {gap : ℕ} → gap ≤ length bytes → Skips bytes (drop gap bytes) → DigitsAt (45 ∷ bytes) (1 + gap)

-- what is at the front of the bytes: their end; the longest run of blanks and comments; else the word of the longest
-- token, which is a text literal if one begins here and otherwise a name, a mark or an int of 64 bits; an invalid
-- text literal; an int as the longest token that does not fit 64 bits, with its digits `before` bytes on; or no token
abbrev pub StandsAtFront : (signed : Bool) → List ℕ → front.Lexed → Type 0
StandsAtFront signed bytes front.over = bytes ≡ []
StandsAtFront signed bytes (front.space n) = (1 ≤ n) × IsGap bytes n
StandsAtFront signed bytes (front.word n w) = IsGap bytes 0 × IsLongestToken signed bytes n w × (OpensText bytes → IsTextWord w) × IntFits w
StandsAtFront signed bytes front.wrong_text =
    IsGap bytes 0 × OpensText bytes × ((n : ℕ) (said : List ℕ) → HasToken signed bytes n (text said) → ⊥)
StandsAtFront signed bytes (front.wide_int before) =
    (n value : ℕ) × (z : ℤ) × IsGap bytes 0 × DigitsAt bytes before × IsInt (drop before bytes) n value
    × IsLongestToken signed bytes (before + n) (int z) × (FitsSigned w64 z → ⊥)
StandsAtFront signed bytes front.nothing =
    IsGap bytes 0 × (bytes ≢ []) × (OpensText bytes → ⊥) × ((n : ℕ) (w : Word) → HasToken signed bytes n w → ⊥)

-- `front` returns what is at the front of the text
abbrev pub FindsWhatStands : Type 0
FindsWhatStands = (signed : Bool) (bytes : List ℕ) → StandsAtFront signed bytes (front signed bytes)

-- nothing else is at the front
abbrev pub NothingElseStands : Type 0
NothingElseStands = (signed : Bool) (bytes : List ℕ) (x : front.Lexed) → StandsAtFront signed bytes x → front signed bytes ≡ x
