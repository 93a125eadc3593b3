-- Text literals and their escapes.
use Rattle.std.specs.Prelude.{ℕ, zero, suc, ◌+◌, ◌-◌, List, [], ◌∷◌, ◌++◌, take, Bool, true, false, not, if◌then◌else◌, ◌==◌, ◌&&◌, ◌||◌}
use Rattle.std.specs.Prelude.{nat_lt, Option, Some, None, option_and_then, option_map, encode_utf8}
use Rattle.cel_tokens.specs.Bytes.{is_digit_of, is_line_end, run}
use Rattle.cel_tokens.specs.Ints.{number}

-- the two quotes
abbrev pub is_quote : ℕ → Bool
is_quote b = (b == 34) || (b == 39)

-- r or R, the prefix of a raw text literal
abbrev pub is_raw_prefix : ℕ → Bool
is_raw_prefix b = (b == 114) || (b == 82)

-- whether the text literal at the front is raw, and its quote
abbrev pub opening : List ℕ → Option (Bool × ℕ)
opening [] = None
opening (a ∷ []) = if is_quote a then Some (false, a) else None
opening (a ∷ b ∷ bs) =
    if is_quote a then Some (false, a) else (if is_raw_prefix a && is_quote b then Some (true, b) else None)

-- the length of the opening of a text literal: its quote, and the r or R of a raw one
abbrev pub opening_len : Bool → ℕ
opening_len raw = if raw then 2 else 1

-- whether a number is a code point: at most 10FFFF and not a surrogate
abbrev pub is_code_point : ℕ → Bool
is_code_point n = nat_lt n 0xd800 || (nat_lt 0xdfff n && nat_lt n 0x110000)

-- the number that `count` digits at the front denote
abbrev pub digits : ℕ → ℕ → List ℕ → Option ℕ
digits base count bytes =
    if run (is_digit_of base) (take count bytes) == count then Some (number base (take count bytes)) else None

-- the number, if it is a code point
abbrev pub code_point : ℕ → Option ℕ
code_point n = if is_code_point n then Some n else None

-- the code point that `count` digits at the front denote in this base, if there are that many
-- digits; len: the length of the escape with them
abbrev pub numeric : ℕ → ℕ → ℕ → List ℕ → Option (ℕ × ℕ)
numeric base count len bytes = option_map (λ n. (n, len)) (option_and_then code_point (digits base count bytes))

-- a b f n r t v, and \ ? " ' and a backquote for themselves
abbrev pub simple : ℕ → Option (ℕ × ℕ)
simple b =
    if b == 97 then Some (7, 1)
    else (if b == 98 then Some (8, 1)
    else (if b == 102 then Some (12, 1)
    else (if b == 110 then Some (10, 1)
    else (if b == 114 then Some (13, 1)
    else (if b == 116 then Some (9, 1)
    else (if b == 118 then Some (11, 1)
    else (if (b == 92) || ((b == 63) || ((b == 34) || ((b == 39) || (b == 96)))) then Some (b, 1)
    else None)))))))

-- the escape after a backslash: its code point and its length. Two hex digits after x or X, four after
-- u, eight after U, three octal digits up to 377
unfoldable pub escape : List ℕ → Option (ℕ × ℕ)
escape [] = None
escape (b ∷ bs) =
    if (b == 120) || (b == 88) then numeric 16 2 3 bs
    else (if b == 117 then numeric 16 4 5 bs
    else (if b == 85 then numeric 16 8 9 bs
    else (if nat_lt 47 b && nat_lt b 52 then numeric 8 3 3 (b ∷ bs)
    else simple b)))

-- a valid escape: its length with the backslash, and its code point in UTF-8 (RFC 3629, section 3)
abbrev pub escaped : Option (ℕ × ℕ) → Option (ℕ × List ℕ)
escaped None = None
escaped (Some x) = Some (x.1 + 1, encode_utf8 x.0)

-- the piece at the front of a text: its length and its value
abbrev pub piece : Bool → List ℕ → Option (ℕ × List ℕ)
piece raw [] = None
piece raw (b ∷ bs) =
    if is_line_end b then None else (if not raw && (b == 92) then escaped (escape bs) else Some (1, b ∷ []))

-- a text up to its closing quote: its length with that quote, and its value. So far n bytes with this value have been
-- read; the next `skip` bytes belong to the last piece
unfoldable pub content : Bool → ℕ → ℕ → ℕ → List ℕ → List ℕ → Option (ℕ × List ℕ)
content raw quote skip n said [] = None
content raw quote (suc skip) n said (b ∷ bs) = content raw quote skip (n + 1) said bs
content raw quote zero n said (b ∷ bs) =
    if b == quote then Some (n + 1, said)
    else option_and_then (λ x. content raw quote (x.0 - 1) (n + 1) (said ++ x.1) bs) (piece raw (b ∷ bs))
