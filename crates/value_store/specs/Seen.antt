-- The outline of a value: its kind, the value of a simple one, and the number of parts of any other.
use Rattle.std.specs.Prelude.{ℕ, ℤ, Bool, List, length}
use Rattle.value_store.specs.Value.{null, boolean, int, text, list, map, ValueOrError, error, value, list_of, keys_of}
use Rattle.value_store.specs.declared.shape.Shape.{Shape}
use Rattle.value_store.specs.declared.shape.Shape.TheVariants as shape

-- a bool and an int by value, a text by its bytes, a list and a map by the number of their parts
pub data Seen : Type 0 where
  sees_error : Seen
  sees_null : Seen
  sees_bool : Bool → Seen
  sees_int : ℤ → Seen
  sees_text : List ℕ → Seen
  sees_list : ℕ → Seen
  sees_map : ℕ → Seen

-- the outline of a value or of the error
abbrev pub outcome_view : ValueOrError → Seen
outcome_view error = sees_error
outcome_view (value null) = sees_null
outcome_view (value (boolean b)) = sees_bool b
outcome_view (value (int n)) = sees_int n
outcome_view (value (text s)) = sees_text s
outcome_view (value (list is)) = sees_list (length (list_of is))
outcome_view (value (map es)) = sees_map (length (keys_of es))

-- the outline that a `Shape` of the code gives; a text in it is borrowed
abbrev pub shape_view : Shape → Seen
shape_view shape.Error = sees_error
shape_view shape.Null = sees_null
shape_view (shape.Bool b) = sees_bool b
shape_view (shape.Int n) = sees_int n
shape_view (shape.Text s) = sees_text s.now
shape_view (shape.List n) = sees_list n
shape_view (shape.Map n) = sees_map n

-- the number of bytes of a text, of items of a list or of entries of a map; 0 for anything else
abbrev pub seen_size : Seen → ℕ
seen_size sees_error = 0
seen_size sees_null = 0
seen_size (sees_bool b) = 0
seen_size (sees_int n) = 0
seen_size (sees_text s) = length s
seen_size (sees_list n) = n
seen_size (sees_map n) = n
