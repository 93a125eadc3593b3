-- Identifiers of versions (SemVer 2.0.0, items 2, 9 and 10).
use Rattle.std.specs.Prelude.{ℕ, ◌^◌, List, [], ◌∷◌, length, take, drop, slice_index, Bool, true, not, ◌&&◌, ◌||◌}
use Rattle.std.specs.Prelude.{◌==◌, nat_lt, Option, Some, None, if◌then◌else◌}
use Rattle.std.specs.Char.{is_ascii_alphanumeric, is_ascii_digit}
use Rattle.std.specs.List.{list_all, position_or_len, slice_split}
use Rattle.text_numbers.specs.Numbers.{number}

-- the parts of a text between its dots (46)
abbrev pub identifiers : List ℕ → List (List ℕ)
identifiers text = slice_split (λ b. b == 46) text

-- the number of bytes before the first dot
abbrev pub first_len : List ℕ → ℕ
first_len text = position_or_len (λ b. b == 46) text

-- the text without its first byte, if it has one
abbrev pub tail : List ℕ → Option (List ℕ)
tail [] = None
tail (b ∷ text) = Some text

-- the first part, and the text after its dot, if there is one
abbrev pub first : List ℕ → List ℕ
first text = take (first_len text) text

abbrev pub after_first : List ℕ → Option (List ℕ)
after_first text = tail (drop (first_len text) text)

-- [0-9A-Za-z-]
abbrev pub is_identifier_byte : ℕ → Bool
is_identifier_byte b = is_ascii_alphanumeric b || b == 45

-- one of them or more
unfoldable pub is_identifier : List ℕ → Bool
is_identifier part = not (length part == 0) && list_all is_identifier_byte part

-- digits alone
abbrev pub is_numeric : List ℕ → Bool
is_numeric part = list_all is_ascii_digit part

-- whether a zero (48) is in front of other digits
abbrev pub has_zero : List ℕ → Bool
has_zero digits = nat_lt 1 (length digits) && slice_index digits 0 == 48

-- digits of a number of 64 bits
abbrev pub is_small : List ℕ → Bool
is_small digits = nat_lt (number digits) (2 ^ 64)

-- and without such a zero
unfoldable pub is_number : List ℕ → Bool
is_number digits = not (has_zero digits) && is_small digits

-- an identifier of a pre-release: if it is digits alone, it is a number
unfoldable pub is_pre_identifier : List ℕ → Bool
is_pre_identifier part = is_identifier part && (not (is_numeric part) || is_number part)

-- the identifiers of a pre-release, or of build metadata
unfoldable pub are_pre_identifiers : List ℕ → Bool
are_pre_identifiers text = list_all is_pre_identifier (identifiers text)

unfoldable pub are_identifiers : List ℕ → Bool
are_identifiers text = list_all is_identifier (identifiers text)

-- the pre-release after a hyphen (45), or nothing
abbrev pub pre_of : List ℕ → Option (List ℕ)
pre_of [] = Some []
pre_of (b ∷ text) = if b == 45 && are_pre_identifiers text then Some text else None

-- a plus (43) and build metadata, or nothing
abbrev pub is_build : List ℕ → Bool
is_build [] = true
is_build (b ∷ text) = b == 43 && are_identifiers text

-- the number of bytes before the first plus
abbrev pub plus_at : List ℕ → ℕ
plus_at text = position_or_len (λ b. b == 43) text

-- the pre-release of what follows the three numbers, which is empty if there is none
abbrev pub ending : List ℕ → Option (List ℕ)
ending text = if is_build (drop (plus_at text) text) then pre_of (take (plus_at text) text) else None
