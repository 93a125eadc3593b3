-- Names that Kubernetes takes (apiserver, pkg/cel/library/format.go; apimachinery, pkg/util/validation). They are of
-- ASCII, so that a text has one of these formats exactly if its code points do, and its bytes.
use Rattle.std.specs.Prelude.{ℕ, ◌-◌, Bool, not, ◌&&◌, ◌||◌, ◌==◌, nat_le, List, length, slice_index}
use Rattle.std.specs.List.{list_all, slice_split}

-- the character is in this range
abbrev pub is_between : ℕ → ℕ → ℕ → Bool
is_between low high c = nat_le low c && nat_le c high

-- [a-z]
abbrev pub is_lower_letter : ℕ → Bool
is_lower_letter c = is_between 97 122 c

-- [a-z0-9]
abbrev pub is_lower_alphanumeric : ℕ → Bool
is_lower_alphanumeric c = is_lower_letter c || is_between 48 57 c

-- [A-Za-z0-9]
abbrev pub is_alphanumeric : ℕ → Bool
is_alphanumeric c = is_between 65 90 c || is_lower_alphanumeric c

-- [-a-z0-9]
abbrev pub is_label_character : ℕ → Bool
is_label_character c = is_lower_alphanumeric c || c == 45

-- [-A-Za-z0-9_.]
abbrev pub is_value_character : ℕ → Bool
is_value_character c = is_alphanumeric c || c == 45 || c == 95 || c == 46

-- the first character passes one test, and the last another
abbrev pub has_ends : (ℕ → Bool) → (ℕ → Bool) → List ℕ → Bool
has_ends first last cs = not (length cs == 0) && first (slice_index cs 0) && last (slice_index cs (length cs - 1))

-- at least one character: all of them pass one test, the first and the last others
abbrev pub is_framed : (ℕ → Bool) → (ℕ → Bool) → (ℕ → Bool) → List ℕ → Bool
is_framed first inner last cs = has_ends first last cs && list_all inner cs

-- [a-z0-9]([-a-z0-9]*[a-z0-9])?
unfoldable pub is_label : List ℕ → Bool
is_label cs = is_framed is_lower_alphanumeric is_label_character is_lower_alphanumeric cs

-- `dns1123Label`: a label of at most 63 characters
unfoldable pub is_dns1123_label : List ℕ → Bool
is_dns1123_label cs = nat_le (length cs) 63 && is_label cs

-- `dns1123Subdomain`: labels of any length joined by dots, at most 253 characters
unfoldable pub is_dns1123_subdomain : List ℕ → Bool
is_dns1123_subdomain cs = nat_le (length cs) 253 && list_all is_label (slice_split (λ c. c == 46) cs)

-- `dns1035Label`: [a-z]([-a-z0-9]*[a-z0-9])? of at most 63 characters
unfoldable pub is_dns1035_label : List ℕ → Bool
is_dns1035_label cs = nat_le (length cs) 63 && is_framed is_lower_letter is_label_character is_lower_alphanumeric cs

-- `labelValue`: (([A-Za-z0-9][-A-Za-z0-9_.]*)?[A-Za-z0-9])? of at most 63 characters
unfoldable pub is_label_value : List ℕ → Bool
is_label_value cs = nat_le (length cs) 63 && (length cs == 0 || is_framed is_alphanumeric is_value_character is_alphanumeric cs)
