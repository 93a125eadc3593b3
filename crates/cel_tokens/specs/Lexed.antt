-- The front of a text: its first token, or why there is none.
use Rattle.std.specs.Prelude.{ℕ, ◌+◌, ℤ, List, [], ◌∷◌, take, drop, Bool, true, false, if◌then◌else◌, ◌==◌, ◌&&◌, nat_lt, Option, Some, None, codes, bytes_eq}
use Rattle.cel_tokens.specs.declared.mark.Mark.{Mark, TheVariants.CloseParen, TheVariants.CloseBracket, TheVariants.CloseBrace}
use Rattle.cel_tokens.specs.Token.{Word, name, int, text, mark}
use Rattle.cel_tokens.specs.Bytes.{is_letter, is_name_byte, is_digit_of, run, between}
use Rattle.cel_tokens.specs.Marks.{mark_at}
use Rattle.cel_tokens.specs.Ints.{digit_begins, int_at, int_of}
use Rattle.cel_tokens.specs.Texts.{opening, opening_len, content}

-- the front of a text
pub data Lexed : Type 0 where
  over : Lexed  -- the end of the text
  space : ℕ → Lexed  -- blanks and comments of this many bytes
  word : ℕ → Word → Lexed  -- a token of this many bytes
  wrong_text : Lexed  -- a text literal that does not end, or has an invalid escape
  wide_int : ℕ → Lexed  -- an int outside 64 bits, with its digits at this offset
  nothing : Lexed  -- no token

-- the int, `len` bytes of digits after the `before` bytes of its sign and the gap; if it does
-- not fit 64 bits, the offset of its digits
abbrev pub int_front : ℕ → ℕ → Option ℤ → Lexed
int_front before len None = wide_int before
int_front before len (Some z) = word (before + len) (int z)

-- the int whose digits are at the front, `before` bytes after the start; `minus`: it has a sign and is negated
abbrev pub front_int : Bool → ℕ → List ℕ → Lexed
front_int minus before digits = int_front before (int_at digits).0 (int_of minus (int_at digits).1)

-- the operator or bracket at the front with its length in bytes; without one there is no token
abbrev pub front_mark : Option (Mark × ℕ) → Lexed
front_mark None = nothing
front_mark (Some x) = word x.1 (mark x.0)

-- the number of bytes before the digits of a signed int
abbrev pub before_digits : List ℕ → ℕ
before_digits bytes = between false (drop 1 bytes) + 1

-- whether a sign and its int are at the front
abbrev pub signed_int_begins : ℕ → List ℕ → Bool
signed_int_begins b bytes = (b == 45) && digit_begins (drop (before_digits bytes) bytes)

-- a name, an int or a mark; `signed`: a minus here may be the sign of an int; b: the first of the bytes
abbrev pub front_plain : Bool → ℕ → List ℕ → Lexed
front_plain signed b bytes =
    if is_letter b then word (run is_name_byte bytes) (name (take (run is_name_byte bytes) bytes))
    else (if is_digit_of 10 b then front_int false 0 bytes
    else (if signed && signed_int_begins b bytes then front_int true (before_digits bytes) (drop (before_digits bytes) bytes)
    else front_mark (mark_at bytes)))

-- the text literal, if it is valid, with its length in bytes after the `before` bytes that open it, and its value
abbrev pub front_text : ℕ → Option (ℕ × List ℕ) → Lexed
front_text before None = wrong_text
front_text before (Some x) = word (before + x.0) (text x.1)

-- a text literal if one begins here, else a name, an int or a mark
abbrev pub front_word : Bool → ℕ → List ℕ → Option (Bool × ℕ) → Lexed
front_word signed b bytes None = front_plain signed b bytes
front_word signed b bytes (Some x) =
    front_text (opening_len x.0) (content x.0 x.1 0 0 [] (drop (opening_len x.0) bytes))

-- the front of the text; `signed`: a minus here may be the sign of an int
unfoldable pub front : Bool → List ℕ → Lexed
front signed [] = over
front signed (b ∷ bs) =
    if nat_lt 0 (between false (b ∷ bs)) then space (between false (b ∷ bs)) else front_word signed b (b ∷ bs) (opening (b ∷ bs))

-- whether a minus after this token may be the sign of an int: the token is no identifier
-- but `in`, no literal and no closing bracket
abbrev pub sign_may_follow : Word → Bool
sign_may_follow (name bytes) = bytes_eq bytes (codes "in")
sign_may_follow (int z) = false
sign_may_follow (text bytes) = false
sign_may_follow (mark CloseParen) = false
sign_may_follow (mark CloseBracket) = false
sign_may_follow (mark CloseBrace) = false
sign_may_follow (mark m) = true
