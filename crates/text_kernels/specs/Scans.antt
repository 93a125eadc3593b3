-- The result of each scan of a text, defined byte by byte.
use Rattle.std.specs.Prelude.{ℕ, List, Bool, not, ◌&&◌, ◌||◌, ◌==◌, nat_le}
use Rattle.std.specs.List.{count_by, prefix_len, common_prefix_len}

-- a byte that continues a character of several bytes (RFC 3629, section 3: 10xxxxxx)
abbrev pub is_continuation : ℕ → Bool
is_continuation byte = nat_le 0x80 byte && nat_le byte 0xbf

-- every other byte begins a character
abbrev pub is_leading : ℕ → Bool
is_leading byte = not (is_continuation byte)

-- the number of bytes that begin a character, which is the number of code points in well-formed UTF-8
abbrev pub code_points_of : List ℕ → ℕ
code_points_of bytes = count_by is_leading bytes

-- the length of the common prefix: the first position at which they differ, or the shorter length
abbrev pub first_difference_of : List ℕ → List ℕ → ℕ
first_difference_of left right = common_prefix_len (λ x y. x == y) left right

-- a byte at which a scan of quoted text stops: " ' \ line feed, carriage return
abbrev pub is_special : ℕ → Bool
is_special byte = (byte == 34) || (byte == 39) || (byte == 92) || (byte == 10) || (byte == 13)

-- every other byte represents itself
abbrev pub is_plain : ℕ → Bool
is_plain byte = not (is_special byte)

-- the number of bytes before the first special one
abbrev pub skip_plain_of : List ℕ → ℕ
skip_plain_of bytes = prefix_len is_plain bytes
