-- The parts of an operand's outline that the rows use. Parts of lists and maps are
-- looked up with the calls of the store.
use Rattle.std.specs.Prelude.{ℕ, ℤ, pos, negsuc, Bool, List, Option, Some, None}
use Rattle.value_store.specs.Seen.{Seen, sees_bool, sees_int, sees_text, sees_list, sees_map}

-- the bool, if it is one
abbrev pub truth_part : Seen → Option Bool
truth_part (sees_bool b) = Some b
truth_part _ = None

-- the int, if it is one
abbrev pub int_part : Seen → Option ℤ
int_part (sees_int z) = Some z
int_part _ = None

-- the number of items or entries
abbrev pub count_part : Seen → Option ℕ
count_part (sees_list n) = Some n
count_part (sees_map n) = Some n
count_part _ = None

-- the position in a list; None if negative
abbrev pub place_of : ℤ → Option ℕ
place_of (pos i) = Some i
place_of (negsuc i) = None

-- the position that an int denotes
abbrev pub place_part : Seen → Option ℕ
place_part (sees_int z) = place_of z
place_part _ = None

-- the bytes, if it is a text
abbrev pub text_part : Seen → Option (List ℕ)
text_part (sees_text s) = Some s
text_part _ = None
