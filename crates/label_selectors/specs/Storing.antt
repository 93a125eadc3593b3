-- The selectors that the API server stores (Kubernetes, ValidateLabelSelector), and why it refuses others.
use Rattle.std.specs.Prelude.{ℕ, ◌+◌, ◌-◌, Bool, true, false, not, ◌&&◌, ◌||◌, ◌==◌, nat_le, List, [], ◌∷◌, Option, Some, None, Result, Ok, Err, bytes_eq, codes, length, slice_index, take, drop, position, if◌then◌else◌}
use Rattle.std.specs.List.{list_all, slice_split}
use Rattle.label_selectors.specs.declared.operator.Operator.{Operator}
use Rattle.label_selectors.specs.declared.operator.Operator.TheVariants.{In, NotIn, Exists, DoesNotExist}
use Rattle.label_selectors.specs.declared.selector_error.SelectorError.{SelectorError}
use Rattle.label_selectors.specs.declared.selector_error.SelectorError.TheVariants.{InvalidKey, InvalidOperator, InvalidValue}

-- the character is in this range
abbrev pub is_within : ℕ → ℕ → ℕ → Bool
is_within low high c = nat_le low c && nat_le c high

-- [a-z0-9]
abbrev pub is_lower_alphanumeric : ℕ → Bool
is_lower_alphanumeric c = is_within 97 122 c || is_within 48 57 c

-- [A-Za-z0-9]
abbrev pub is_alphanumeric : ℕ → Bool
is_alphanumeric c = is_within 65 90 c || is_lower_alphanumeric c

-- [-A-Za-z0-9_.]
abbrev pub is_name_character : ℕ → Bool
is_name_character c = is_alphanumeric c || c == 45 || c == 95 || c == 46

-- [-a-z0-9]
abbrev pub is_dns_character : ℕ → Bool
is_dns_character c = is_lower_alphanumeric c || c == 45

-- the first and the last character pass `end`
abbrev pub has_ends : (ℕ → Bool) → List ℕ → Bool
has_ends end t = not (length t == 0) && end (slice_index t 0) && end (slice_index t (length t - 1))

-- one character that passes `end`; or several that pass `inner`, the first and last of which pass `end`
abbrev pub is_framed : (ℕ → Bool) → (ℕ → Bool) → List ℕ → Bool
is_framed end inner t = has_ends end t && list_all inner t

-- 1 to 63 characters [A-Za-z0-9]([-A-Za-z0-9_.]*[A-Za-z0-9])?
unfoldable pub is_name : List ℕ → Bool
is_name t = nat_le (length t) 63 && is_framed is_alphanumeric is_name_character t

-- [a-z0-9]([-a-z0-9]*[a-z0-9])?
unfoldable pub is_dns_label : List ℕ → Bool
is_dns_label t = is_framed is_lower_alphanumeric is_dns_character t

-- 1 to 253 characters: DNS labels joined by dots
unfoldable pub is_prefix : List ℕ → Bool
is_prefix t = nat_le (length t) 253 && list_all is_dns_label (slice_split (λ c. c == 46) t)

-- the key is valid; this is the place of its first slash, if it has one
abbrev pub is_key_cut : Option ℕ → List ℕ → Bool
is_key_cut None k = is_name k
is_key_cut (Some at) k = is_prefix (take at k) && is_name (drop (at + 1) k)

-- a key: a name, or a prefix, a slash and a name
unfoldable pub is_label_key : List ℕ → Bool
is_label_key k = is_key_cut (position (λ c. c == 47) k) k

-- a value: empty or a name
unfoldable pub is_label_value : List ℕ → Bool
is_label_value v = length v == 0 || is_name v

-- the operator with this name
abbrev pub operator_named : List ℕ → Option Operator
operator_named t =
    if bytes_eq t (codes "In") then Some In
    else (if bytes_eq t (codes "NotIn") then Some NotIn
    else (if bytes_eq t (codes "Exists") then Some Exists
    else (if bytes_eq t (codes "DoesNotExist") then Some DoesNotExist else None)))

-- In and NotIn require values, the others allow none
abbrev pub takes : Operator → List (List ℕ) → Bool
takes In [] = false
takes In (v ∷ vs) = true
takes NotIn [] = false
takes NotIn (v ∷ vs) = true
takes Exists [] = true
takes Exists (v ∷ vs) = false
takes DoesNotExist [] = true
takes DoesNotExist (v ∷ vs) = false

-- the operator with these values, or why the API server refuses it
abbrev pub operator_with : Option Operator → List (List ℕ) → Result Operator SelectorError
operator_with None values = Err InvalidOperator
operator_with (Some o) values =
    if takes o values
    then (if list_all is_label_value values then Ok o else Err InvalidValue)
    else Err InvalidOperator

-- the operator of a requirement, or why the API server refuses it
unfoldable pub checked_requirement : List ℕ → List ℕ → List (List ℕ) → Result Operator SelectorError
checked_requirement key name values = if is_label_key key then operator_with (operator_named name) values else Err InvalidKey

-- an entry of matchLabels is stored, or why the API server refuses it
unfoldable pub checked_label : List ℕ → List ℕ → Result (Unit {0}) SelectorError
checked_label key value =
    if is_label_key key then (if is_label_value value then Ok tt else Err InvalidValue) else Err InvalidKey
