-- What a call reads: up to a small factor a bound of the bytes that it touches, which is known before the call. A row
-- is 0 for operands of other kinds, and for a reference or a range that is invalid, since the call is then stopped.
use Rattle.std.specs.Prelude.{ℕ, ◌+◌, ◌-◌, ◌*◌, ℤ, Bool, ◌&&◌, List, length, min, Option, Some, None, nat_eq, nat_le, option_map, slice_get, if◌then◌else◌}
use Rattle.std.specs.Int.{w64, leading_zeros}
use Rattle.value_store.specs.Json.{json_length}
use Rattle.value_store.specs.Seen.{Seen, sees_text, sees_list, sees_map, outcome_view}
use Rattle.value_store.specs.Value.{ValueOrError}
use Rattle.helper_table.specs.Calls.{bytes_at, r1, r2, r3}
use Rattle.helper_table.specs.Conversions.{kind_number}
use Rattle.helper_table.specs.Kinds.{is_value}
use Rattle.helper_table.specs.Numbers.{of_number}
use Rattle.helper_table.specs.declared.helper.Helper.{Helper}
use Rattle.helper_table.specs.declared.helper.Helper.TheVariants as helper

-- the outline of the value at a reference, if the reference is valid
abbrev pub seen_at : List ValueOrError → ℕ → Option Seen
seen_at vs h = option_map outcome_view (slice_get vs h)

-- the number of binary digits of a word; 0 has none
abbrev pub digits_of : ℕ → ℕ
digits_of n = 64 - leading_zeros w64 n

-- the search for a key among n ordered entries: a comparison with the key for each binary digit of n
abbrev pub search_reads : List ℕ → ℕ → ℕ
search_reads key n = length key * digits_of n

-- 4, a text of constants: each byte
unfoldable pub text_const_reads : Option (List ℕ) → ℕ
text_const_reads (Some bytes) = length bytes
text_const_reads None = 0

-- 5 and 6, a map's value at a key of the constants, and whether there is one: a search
unfoldable pub key_reads : Option Seen → Option (List ℕ) → ℕ
key_reads (Some (sees_map n)) (Some key) = search_reads key n
key_reads _ _ = 0

-- 7, a list's item or a map's value: a search in a map, nothing in a list
unfoldable pub index_reads : Option Seen → Option Seen → ℕ
index_reads (Some (sees_map n)) (Some (sees_text key)) = search_reads key n
index_reads _ _ = 0

-- 8, a size: each byte of a text, whose code points are counted
unfoldable pub size_reads : Option Seen → ℕ
size_reads (Some (sees_text s)) = length s
size_reads _ = 0

-- two values of one kind
abbrev pub are_alike : Seen → Seen → Bool
are_alike x y = is_value x && nat_eq (kind_number x) (kind_number y)

-- 9, equality: the JSON text of one value; nothing if the kinds or the lengths m and n of their JSON texts differ
unfoldable pub equal_reads : Seen → Seen → ℕ → ℕ → ℕ
equal_reads x y m n = if are_alike x y && nat_eq m n then m else 0

-- 10, the order of two texts: the bytes of the shorter one
unfoldable pub less_reads : Option Seen → Option Seen → ℕ
less_reads (Some (sees_text s)) (Some (sees_text t)) = min (length s) (length t)
less_reads _ _ = 0

-- 11, a concatenation: each byte or item of the result
unfoldable pub join_reads : Option Seen → Option Seen → ℕ
join_reads (Some (sees_text s)) (Some (sees_text t)) = length s + length t
join_reads (Some (sees_list m)) (Some (sees_list n)) = m + n
join_reads _ _ = 0

-- 12 and 13, the start and the end of a text: the bytes of the part; nothing if it is longer
unfoldable pub end_reads : Option Seen → Option Seen → ℕ
end_reads (Some (sees_text s)) (Some (sees_text part)) = if nat_le (length part) (length s) then length part else 0
end_reads _ _ = 0

-- 14, a part anywhere in a text: the bytes of both; nothing if the part is longer
unfoldable pub contains_reads : Option Seen → Option Seen → ℕ
contains_reads (Some (sees_text s)) (Some (sees_text part)) = if nat_le (length part) (length s) then length s + length part else 0
contains_reads _ _ = 0

-- among n items, with m bytes of JSON, one of k bytes is sought: both texts, or for each item these bytes and 8 more
abbrev pub items_reads : ℕ → ℕ → ℕ → ℕ
items_reads n m k = min (m + k) (n * (8 + k))

-- 15, membership: a search among the items of a list, or in a map; m and k are the lengths of the JSON texts
unfoldable pub member_reads : Seen → Seen → ℕ → ℕ → ℕ
member_reads x (sees_list n) k m = if is_value x then items_reads n m k else 0
member_reads (sees_text key) (sees_map n) k m = search_reads key n
member_reads _ _ k m = 0

-- 19, a map with one more entry: a search, and each entry, which is copied
unfoldable pub put_reads : Option Seen → Option Seen → Option Seen → ℕ
put_reads (Some (sees_map n)) (Some (sees_text key)) (Some x) = n + search_reads key n
put_reads _ _ _ = 0

-- a row on the outlines of two values and the lengths of their JSON texts
abbrev pub on_both : (Seen → Seen → ℕ → ℕ → ℕ) → Option ValueOrError → Option ValueOrError → ℕ
on_both row (Some a) (Some b) = row (outcome_view a) (outcome_view b) (json_length a) (json_length b)
on_both row _ _ = 0

-- what a call of each helper reads
unfoldable pub reads_by : Helper → List ℕ → List ValueOrError → List ℕ → ℕ
reads_by helper.Kind args vs constants = 0
reads_by helper.IntOf args vs constants = 0
reads_by helper.IntNew args vs constants = 0
reads_by helper.TextConst args vs constants = text_const_reads (bytes_at constants (r1 args) (r2 args))
reads_by helper.Field args vs constants = key_reads (seen_at vs (r1 args)) (bytes_at constants (r2 args) (r3 args))
reads_by helper.Has args vs constants = key_reads (seen_at vs (r1 args)) (bytes_at constants (r2 args) (r3 args))
reads_by helper.Index args vs constants = index_reads (seen_at vs (r1 args)) (seen_at vs (r2 args))
reads_by helper.Size args vs constants = size_reads (seen_at vs (r1 args))
reads_by helper.Equal args vs constants = on_both equal_reads (slice_get vs (r1 args)) (slice_get vs (r2 args))
reads_by helper.Less args vs constants = less_reads (seen_at vs (r1 args)) (seen_at vs (r2 args))
reads_by helper.Join args vs constants = join_reads (seen_at vs (r1 args)) (seen_at vs (r2 args))
reads_by helper.Starts args vs constants = end_reads (seen_at vs (r1 args)) (seen_at vs (r2 args))
reads_by helper.Ends args vs constants = end_reads (seen_at vs (r1 args)) (seen_at vs (r2 args))
reads_by helper.Contains args vs constants = contains_reads (seen_at vs (r1 args)) (seen_at vs (r2 args))
reads_by helper.Member args vs constants = on_both member_reads (slice_get vs (r1 args)) (slice_get vs (r2 args))
reads_by helper.ListNew args vs constants = 0
reads_by helper.Push args vs constants = 0
reads_by helper.MapNew args vs constants = 0
reads_by helper.Put args vs constants = put_reads (seen_at vs (r1 args)) (seen_at vs (r2 args)) (seen_at vs (r3 args))
reads_by helper.Item args vs constants = 0
reads_by helper.Count args vs constants = 0
reads_by helper.TextOfInt args vs constants = 0
reads_by helper.Not args vs constants = 0

-- what the call of a helper reads; nothing if its number is unknown
abbrev pub reads_numbered : Option Helper → List ℕ → List ValueOrError → List ℕ → ℕ
reads_numbered (Some h) args vs constants = reads_by h args vs constants
reads_numbered None args vs constants = 0

-- what the call of helper `id` reads
abbrev pub reads_of : ℤ → List ℕ → List ValueOrError → List ℕ → ℕ
reads_of id args vs constants = reads_numbered (of_number id) args vs constants
