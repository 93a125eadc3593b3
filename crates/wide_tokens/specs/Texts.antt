-- Text literals, also bytes and those in triple quotes (cel-spec, STRING_LIT and BYTES_LIT).
use Rattle.std.specs.Prelude.{◌≡◌, ◌≤◌, ℕ, zero, suc, ◌+◌, ◌-◌, List, [], ◌∷◌, ◌++◌, length, get_or, Bool, true, false, if◌then◌else◌, ◌==◌, ◌&&◌, ◌||◌, Option, Some, None, option_and_then}
use Rattle.cel_tokens.specs.Bytes.{is_line_end}
use Rattle.cel_tokens.specs.Texts.{is_quote, is_raw_prefix}
use Rattle.cel_tokens.specs.Texts as one_line
use Rattle.wide_tokens.specs.declared.opening.Opening.{Opening}

-- b or B, the prefix of bytes
abbrev pub is_bytes_prefix : ℕ → Bool
is_bytes_prefix b = (b == 98) || (b == 66)

-- whether two more of this quote are at the front
abbrev pub two_more : ℕ → List ℕ → Bool
two_more quote [] = false
two_more quote (a ∷ []) = false
two_more quote (a ∷ b ∷ bs) = (a == quote) && (b == quote)

-- the opening whose quote is at the front, after prefixes for bytes and for a raw literal
abbrev pub quote_at : Bool → Bool → List ℕ → Option Opening
quote_at bytes raw [] = None
quote_at bytes raw (b ∷ bs) =
    if is_quote b then Some (record { bytes = bytes; raw = raw; long = two_more b bs; quote = b }) else None

-- the opening at the front, raw or not
abbrev pub raw_at : Bool → List ℕ → Option Opening
raw_at bytes [] = None
raw_at bytes (b ∷ bs) = if is_raw_prefix b then quote_at bytes true bs else quote_at bytes false (b ∷ bs)

-- the opening of the text literal at the front, if one begins there: b or B, r or R, and a quote or three
abbrev pub opening : List ℕ → Option Opening
opening [] = None
opening (b ∷ bs) = if is_bytes_prefix b then raw_at true bs else raw_at false (b ∷ bs)

-- the number of bytes of an opening
abbrev pub opening_len : Opening → ℕ
opening_len o = (if o.bytes then 1 else 0) + (if o.raw then 1 else 0) + (if o.long then 3 else 1)

-- whether the literal's end is at the front: its quote, or three of them
abbrev pub closes : Bool → ℕ → List ℕ → Bool
closes long quote [] = false
closes long quote (b ∷ bs) = if long then (b == quote) && two_more quote bs else b == quote

-- the number of bytes of the end
abbrev pub closing_len : Bool → ℕ
closing_len long = if long then 3 else 1

-- the piece at the front of a literal: its length and its value. Between three quotes a line end stands for itself
abbrev pub piece : Bool → Bool → List ℕ → Option (ℕ × List ℕ)
piece raw long [] = None
piece raw long (b ∷ bs) = if long && is_line_end b then Some (1, b ∷ []) else one_line.piece raw (b ∷ bs)

-- a literal up to its end: its length with the end, and its value. So far n bytes with this value have been read; the
-- next `skip` bytes belong to the last piece
unfoldable pub content : Opening → ℕ → ℕ → List ℕ → List ℕ → Option (ℕ × List ℕ)
content o skip n said [] = None
content o (suc skip) n said (b ∷ bs) = content o skip (n + 1) said bs
content o zero n said (b ∷ bs) =
    if closes o.long o.quote (b ∷ bs) then Some (n + closing_len o.long, said)
    else option_and_then (λ x. content o (x.0 - 1) (n + 1) (said ++ x.1) bs) (piece o.raw o.long (b ∷ bs))

-- the opening is at the front, and its last byte is its quote
abbrev pub IsOpened : List ℕ → Opening → Type 0
IsOpened bytes o =
    (is_quote o.quote ≡ true) × (opening_len o ≤ length bytes) × (get_or bytes (opening_len o - 1) 0 ≡ o.quote)
