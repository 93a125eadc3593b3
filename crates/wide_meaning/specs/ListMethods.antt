-- Methods of lists that look at each item (cel-go, ext/lists.go; Kubernetes, library/lists.go).
use Rattle.std.specs.Prelude.{ℕ, suc, ◌-◌, pos, ◌-ℤ◌, nat_le, ◌&&◌, List, [], ◌∷◌, length, reverse, take, drop, if◌then◌else◌}
use Rattle.value_store.specs.Equality.{equal}
use Rattle.value_store.specs.Lookup.{has_item}
use Rattle.value_store.specs.Value.{Value, ValueOrError, error, value, int, list, Items, no_items, item, list_of, items_of, items_push}
use Rattle.cel_macros.specs.Arithmetic.{fits}
use Rattle.cel_macros.specs.Comparison.{less_equal_of}
use Rattle.cel_macros.specs.Logic.{Truth, truth}
use Rattle.cel_macros.specs.Macros.{all_of}

-- what follows from the items of a list; the error for all else
abbrev pub of_items : (Items → ValueOrError) → ValueOrError → ValueOrError
of_items f (value (list is)) = f is
of_items f _ = error

-- the result x, if the size of a list less 1 is an int of 64 bits; else the error. cel-go has no longer lists
abbrev pub if_counted : Items → ValueOrError → ValueOrError
if_counted is x = if fits (pos (length (list_of is)) -ℤ pos 1) then x else error

-- ---- isSorted

-- whether each item but the last is at most the next one
abbrev pub orders_of : Items → List Truth
orders_of no_items = []
orders_of (item v no_items) = []
orders_of (item v (item w more)) = truth (less_equal_of (value v) (value w)) ∷ orders_of (item w more)

-- whether the items are in ascending order: false if two neighbours are not, else the error if two have no order
abbrev pub is_sorted : Items → ValueOrError
is_sorted is = if_counted is (all_of (orders_of is))

-- ---- distinct

-- the items that are equal to none before them, if there are others in front of the list
abbrev pub new_items : Items → Items → Items
new_items before no_items = no_items
new_items before (item v more) =
    if has_item v before then new_items (items_push before v) more else item v (new_items (items_push before v) more)

-- each item that is equal to none before it
abbrev pub distinct : Items → ValueOrError
distinct is = value (list (new_items no_items is))

-- ---- reverse

-- the items, the last one first
abbrev pub reversed : Items → ValueOrError
reversed is = if_counted is (value (list (items_of (reverse (list_of is)))))

-- ---- slice

-- the items at the places from a up to b - 1; the error unless a is at most b, and b at most the number of items
abbrev pub items_between : ℕ → ℕ → Items → ValueOrError
items_between a b is =
    if nat_le a b && nat_le b (length (list_of is)) then value (list (items_of (take (b - a) (drop a (list_of is))))) else error

-- the items of a list from one int to another; the error for all else, and for an int below 0
abbrev pub slice_of : ValueOrError → ValueOrError → ValueOrError → ValueOrError
slice_of (value (list is)) (value (int (pos a))) (value (int (pos b))) = items_between a b is
slice_of _ _ _ = error

-- ---- indexOf and lastIndexOf

-- the places of the items that are equal to v, if the first item is at the place n
abbrev pub places_of : Value → ℕ → Items → Items
places_of v n no_items = no_items
places_of v n (item w more) = if equal w v then item (int (pos n)) (places_of v (suc n) more) else places_of v (suc n) more
