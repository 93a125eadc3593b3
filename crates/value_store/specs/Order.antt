-- The order of two ints, of two texts by code points, and of two bools, false below true (cel-spec, Ordering).
use Rattle.std.specs.Prelude.{ℕ, int_lt, Bool, not, ◌&&◌, List, Option, Some, None}
use Rattle.std.specs.Ordering.{nat_cmp, is_lt}
use Rattle.std.specs.Cmp.Lexicographic.{slice_cmp}
use Rattle.value_store.specs.Value.{Value, boolean, int, text}

-- the order of two texts: in UTF-8 the order of bytes is the order of code points
abbrev pub text_less : List ℕ → List ℕ → Bool
text_less a b = is_lt (slice_cmp nat_cmp a b)

-- whether a is less than b; None if they are not two bools, two ints or two texts
abbrev pub less : Value → Value → Option Bool
less (boolean a) (boolean b) = Some (not a && b)
less (int a) (int b) = Some (int_lt a b)
less (text a) (text b) = Some (text_less a b)
less _ _ = None
