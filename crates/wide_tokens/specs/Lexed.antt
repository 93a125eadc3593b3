-- The front of a text: its first token, or why there is none.
use Rattle.std.specs.Prelude.{ℕ, ◌+◌, ℤ, List, [], ◌∷◌, take, drop, get_or, Bool, true, false, if◌then◌else◌, ◌==◌, ◌&&◌, nat_lt, Option, Some, None, codes, bytes_eq}
use Rattle.cel_tokens.specs.declared.mark.Mark.{Mark, TheVariants.CloseParen, TheVariants.CloseBracket, TheVariants.CloseBrace}
use Rattle.cel_tokens.specs.Bytes.{is_letter, is_name_byte, run}
use Rattle.cel_tokens.specs.Marks.{mark_at}
use Rattle.cel_tokens.specs.Ints.{int_at, int_of}
use Rattle.wide_tokens.specs.declared.number.Number.{Number, TheVariants.Int, TheVariants.Uint, TheVariants.Double}
use Rattle.wide_tokens.specs.declared.opening.Opening.{Opening}
use Rattle.wide_tokens.specs.Token.{WideWord, name, quoted, int, uint, text, bytes, double, mark}
use Rattle.wide_tokens.specs.Gap.{between}
use Rattle.wide_tokens.specs.Quoted.{quoted_at}
use Rattle.wide_tokens.specs.Numbers.{number_at, uint_of}
use Rattle.wide_tokens.specs.Texts.{opening, opening_len, content}

-- the front of a text
pub data WideLexed : Type 0 where
  over : WideLexed  -- the end of the text
  space : ℕ → WideLexed  -- blanks and comments of this many bytes
  word : ℕ → WideWord → WideLexed  -- a token of this many bytes
  wrong_text : WideLexed  -- a text literal that does not end, or has an invalid escape
  wide_int : ℕ → WideLexed  -- an int outside 64 bits, with its digits at this offset
  nothing : WideLexed  -- no token

-- the int, `len` bytes of digits after the `before` bytes of its sign and the gap; if it does
-- not fit 64 bits, the offset of its digits
abbrev pub int_front : ℕ → ℕ → Option ℤ → WideLexed
int_front before len None = wide_int before
int_front before len (Some z) = word (before + len) (int z)

-- the unsigned int of this length, if it fits 64 bits
abbrev pub uint_front : ℕ → Option ℕ → WideLexed
uint_front len None = wide_int 0
uint_front len (Some n) = word len (uint n)

-- the number of this kind and length
abbrev pub number_front : Number → ℕ → List ℕ → WideLexed
number_front Int len bs = int_front 0 len (int_of false (int_at bs).1)
number_front Uint len bs = uint_front len (uint_of (int_at bs).1)
number_front Double len bs = word len double

-- the number of bytes before the digits of a signed int
abbrev pub before_digits : List ℕ → ℕ
before_digits bs = between false (drop 1 bs) + 1

-- the length of a number that is an int
abbrev pub int_only : Option (Number × ℕ) → Option ℕ
int_only None = None
int_only (Some x) = elim x.0 [ Int ↦ Some x.1 | Uint ↦ None | Double ↦ None ]

-- the length of the int after a minus (45) at the front, if it is followed by one
abbrev pub signed_len : List ℕ → Option ℕ
signed_len bs = if get_or bs 0 0 == 45 then int_only (number_at (drop (before_digits bs) bs)) else None

-- the operator or bracket at the front with its length in bytes; without one there is no token
abbrev pub front_mark : Option (Mark × ℕ) → WideLexed
front_mark None = nothing
front_mark (Some x) = word x.1 (mark x.0)

-- the name in back quotes, of this many bytes, else the mark
abbrev pub quoted_front : List ℕ → Option ℕ → WideLexed
quoted_front bs None = front_mark (mark_at bs)
quoted_front bs (Some n) = word (n + 2) (quoted (take n (drop 1 bs)))

abbrev pub front_other : List ℕ → WideLexed
front_other bs = quoted_front bs (quoted_at bs)

-- the int after a sign, of this length
abbrev pub signed_front : List ℕ → Option ℕ → WideLexed
signed_front bs None = front_other bs
signed_front bs (Some n) = int_front (before_digits bs) n (int_of true (int_at (drop (before_digits bs) bs)).1)

-- the number at the front, else an int with its sign, a name in back quotes or a mark
abbrev pub front_number : Bool → List ℕ → Option (Number × ℕ) → WideLexed
front_number signed bs (Some x) = number_front x.0 x.1 bs
front_number signed bs None = if signed then signed_front bs (signed_len bs) else front_other bs

-- a name, a number, a name in back quotes or a mark; `signed`: a minus here may be the sign of an int; b: the first
-- of the bytes
abbrev pub front_plain : Bool → ℕ → List ℕ → WideLexed
front_plain signed b bs =
    if is_letter b then word (run is_name_byte bs) (name (take (run is_name_byte bs) bs))
    else front_number signed bs (number_at bs)

-- the literal's word
abbrev pub literal_word : Opening → List ℕ → WideWord
literal_word o said = if o.bytes then bytes else text said

-- the text literal, if it is valid, with its length in bytes after its opening, and its value
abbrev pub front_text : Opening → Option (ℕ × List ℕ) → WideLexed
front_text o None = wrong_text
front_text o (Some x) = word (opening_len o + x.0) (literal_word o x.1)

-- a text literal if one begins here, else another token
abbrev pub front_word : Bool → ℕ → List ℕ → Option Opening → WideLexed
front_word signed b bs None = front_plain signed b bs
front_word signed b bs (Some o) = front_text o (content o 0 0 [] (drop (opening_len o) bs))

-- the front of the text; `signed`: a minus here may be the sign of an int
unfoldable pub front : Bool → List ℕ → WideLexed
front signed [] = over
front signed (b ∷ bs) =
    if nat_lt 0 (between false (b ∷ bs)) then space (between false (b ∷ bs)) else front_word signed b (b ∷ bs) (opening (b ∷ bs))

-- whether a minus after this token may be the sign of an int: the token is no identifier
-- but `in`, no name in back quotes, no literal and no closing bracket
abbrev pub sign_may_follow : WideWord → Bool
sign_may_follow (name bs) = bytes_eq bs (codes "in")
sign_may_follow (quoted bs) = false
sign_may_follow (int z) = false
sign_may_follow (uint n) = false
sign_may_follow (text bs) = false
sign_may_follow bytes = false
sign_may_follow double = false
sign_may_follow (mark CloseParen) = false
sign_may_follow (mark CloseBracket) = false
sign_may_follow (mark CloseBrace) = false
sign_may_follow (mark m) = true
