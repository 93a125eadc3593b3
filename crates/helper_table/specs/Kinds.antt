-- The operands that the calls of a store are defined for, by their outlines.
use Rattle.std.specs.Prelude.{ℕ, Bool, true, false, not, List, Option, Some, None}
use Rattle.value_store.specs.Lookup.{has_key}
use Rattle.value_store.specs.Seen.{Seen, sees_error, sees_bool, sees_int, sees_text, sees_list, sees_map}
use Rattle.value_store.specs.Value.{Entries}

-- a value, and not the error
abbrev pub is_value : Seen → Bool
is_value sees_error = false
is_value _ = true

-- two ints, two texts or two bools
abbrev pub have_order : Seen → Seen → Bool
have_order (sees_bool a) (sees_bool b) = true
have_order (sees_int y) (sees_int z) = true
have_order (sees_text s) (sees_text t) = true
have_order _ _ = false

-- a value and a list, or a text and a map
abbrev pub may_be_in : Seen → Seen → Bool
may_be_in x (sees_list n) = is_value x
may_be_in (sees_text s) (sees_map n) = true
may_be_in x c = false

-- two texts or two lists
abbrev pub can_join : Seen → Seen → Bool
can_join (sees_text s) (sees_text t) = true
can_join (sees_list m) (sees_list n) = true
can_join _ _ = false

-- a list
abbrev pub is_list : Seen → Bool
is_list (sees_list n) = true
is_list _ = false

-- the text is not yet a key of the map
abbrev pub is_new_key : Option Entries → Option (List ℕ) → Bool
is_new_key (Some es) (Some key) = not (has_key key es)
is_new_key (Some es) None = false
is_new_key None key = false
