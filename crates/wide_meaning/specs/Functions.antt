-- Functions and methods that need no look-up.
use Rattle.std.specs.Prelude.{ℕ, zero, pos, negsuc, Bool, true, false, ◌&&◌, ◌||◌, List, [], ◌∷◌, Option, Some, None, find}
use Rattle.std.specs.Prelude.{bytes_eq, codes, if◌then◌else◌}
use Rattle.std.specs.Option.{option_or}
use Rattle.cel_reader.specs.Words.{is_one_of}
use Rattle.value_store.specs.Value.{Value, ValueOrError, error, value, null, boolean, int, text, list, map, Items}
use Rattle.value_store.specs.Value.{no_items, item, no_entries, list_of}
use Rattle.value_store.specs.Lookup.{has_item}
use Rattle.cel_macros.specs.Arithmetic.{difference_of}
use Rattle.cel_macros.specs.Comparison.{less_equal_of, greater_equal_of}
use Rattle.cel_macros.specs.Functions.{size_of, string_of, text_test_of}
use Rattle.cel_macros.specs.Macros.{macro_of}
use Rattle.cel_macros.specs.Selection.{index_of}
use Rattle.cel_macros.specs.declared.macros.Macro.{TheVariants.All, TheVariants.Filter}
use Rattle.cel_macros.specs.declared.text_test.TextTest.TheVariants as test
use Rattle.wide_meaning.specs.declared.function.Function.{Function}
use Rattle.wide_meaning.specs.declared.function.Function.TheVariants as function
use Rattle.wide_meaning.specs.declared.function.Method.{Method}
use Rattle.wide_meaning.specs.declared.function.Method.TheVariants as method
use Rattle.wide_meaning.specs.declared.function.Qualified.{Qualified}
use Rattle.wide_meaning.specs.declared.function.Qualified.TheVariants as qualified
use Rattle.wide_meaning.specs.ListMethods.{of_items, is_sorted, distinct, reversed, slice_of, places_of}
use Rattle.wide_meaning.specs.Outcome.{Outcome, failed, plain, absent, present, outcome_of, plain_part, some_of}
use Rattle.wide_meaning.specs.Outcome.{is_present, value_in, value_or, first_of}

-- ---- names

-- the name of a function
abbrev pub function_name : Function → List ℕ
function_name function.Size = codes "size"
function_name function.String = codes "string"
function_name function.Dyn = codes "dyn"
function_name function.Bool = codes "bool"

-- the function with this name, if any
unfoldable pub function_named : List ℕ → Option Function
function_named n = find (λ f. bytes_eq (function_name f) n) (function.Size ∷ function.String ∷ function.Dyn ∷ function.Bool ∷ [])

-- the name of a method
abbrev pub method_name : Method → List ℕ
method_name method.Size = codes "size"
method_name method.StartsWith = codes "startsWith"
method_name method.EndsWith = codes "endsWith"
method_name method.Contains = codes "contains"
method_name method.HasValue = codes "hasValue"
method_name method.Value = codes "value"
method_name method.OrValue = codes "orValue"
method_name method.Or = codes "or"
method_name method.First = codes "first"
method_name method.Last = codes "last"
method_name method.Min = codes "min"
method_name method.Max = codes "max"
method_name method.IsSorted = codes "isSorted"
method_name method.Distinct = codes "distinct"
method_name method.Reverse = codes "reverse"
method_name method.Slice = codes "slice"
method_name method.IndexOf = codes "indexOf"
method_name method.LastIndexOf = codes "lastIndexOf"

-- the method of a text with this name, if any
unfoldable pub text_method : List ℕ → Option Method
text_method n = find (λ m. bytes_eq (method_name m) n) (method.Size ∷ method.StartsWith ∷ method.EndsWith ∷ method.Contains ∷ [])

-- the method of an optional value with this name, if any
unfoldable pub optional_method : List ℕ → Option Method
optional_method n = find (λ m. bytes_eq (method_name m) n) (method.HasValue ∷ method.Value ∷ method.OrValue ∷ method.Or ∷ [])

-- the method of one item of a list with this name, if any, and that of all its items
unfoldable pub item_method : List ℕ → Option Method
item_method n = find (λ m. bytes_eq (method_name m) n) (method.First ∷ method.Last ∷ method.Min ∷ method.Max ∷ [])

unfoldable pub items_method : List ℕ → Option Method
items_method n =
    find (λ m. bytes_eq (method_name m) n)
    (method.IsSorted ∷ method.Distinct ∷ method.Reverse ∷ method.Slice ∷ method.IndexOf ∷ method.LastIndexOf ∷ [])

-- the method of a list with this name, if any
unfoldable pub list_method : List ℕ → Option Method
list_method n = option_or (item_method n) (items_method n)

-- the method with this name, if any
unfoldable pub method_named : List ℕ → Option Method
method_named n = option_or (text_method n) (option_or (optional_method n) (list_method n))

-- the name of a function in its namespace
abbrev pub qualified_name : Qualified → List ℕ
qualified_name qualified.OptionalOf = codes "of"
qualified_name qualified.OptionalNone = codes "none"
qualified_name qualified.OptionalOfNonZeroValue = codes "ofNonZeroValue"
qualified_name qualified.SetsContains = codes "contains"
qualified_name qualified.SetsIntersects = codes "intersects"
qualified_name qualified.SetsEquivalent = codes "equivalent"

-- the function of the namespace `optional` with this name, if any
unfoldable pub optional_named : List ℕ → Option Qualified
optional_named n = find (λ q. bytes_eq (qualified_name q) n) (qualified.OptionalOf ∷ qualified.OptionalNone ∷ qualified.OptionalOfNonZeroValue ∷ [])

-- the function of the namespace `sets` with this name, if any
unfoldable pub sets_named : List ℕ → Option Qualified
sets_named n = find (λ q. bytes_eq (qualified_name q) n) (qualified.SetsContains ∷ qualified.SetsIntersects ∷ qualified.SetsEquivalent ∷ [])

-- the function with this namespace and name, if any
unfoldable pub qualified_named : List ℕ → List ℕ → Option Qualified
qualified_named s n =
    if bytes_eq (codes "optional") s then optional_named n
    else (if bytes_eq (codes "sets") s then sets_named n
    else None)

-- ---- functions

-- the texts that denote true, and false (Go, strconv.ParseBool)
abbrev pub true_texts : List (List ℕ)
true_texts = codes "1" ∷ codes "t" ∷ codes "T" ∷ codes "true" ∷ codes "TRUE" ∷ codes "True" ∷ []

abbrev pub false_texts : List (List ℕ)
false_texts = codes "0" ∷ codes "f" ∷ codes "F" ∷ codes "false" ∷ codes "FALSE" ∷ codes "False" ∷ []

-- an int in decimal, a bool as `true` or `false`, a text unchanged; the error for all else
abbrev pub text_of : ValueOrError → ValueOrError
text_of (value (boolean true)) = value (text (codes "true"))
text_of (value (boolean false)) = value (text (codes "false"))
text_of x = string_of x

-- the bool that a text denotes; the error for any other text
abbrev pub parsed_bool : List ℕ → ValueOrError
parsed_bool s =
    if is_one_of true_texts s then value (boolean true)
    else (if is_one_of false_texts s then value (boolean false)
    else error)

-- a bool unchanged, or the bool that a text denotes; the error for all else
abbrev pub bool_of : ValueOrError → ValueOrError
bool_of (value (boolean b)) = value (boolean b)
bool_of (value (text s)) = parsed_bool s
bool_of _ = error

-- a function applied to its operand
abbrev pub function_in : Function → ValueOrError → ValueOrError
function_in function.Size x = size_of x
function_in function.String x = text_of x
function_in function.Dyn x = x
function_in function.Bool x = bool_of x

-- ---- optional values and sets

-- whether a value is null, false, 0, or empty
abbrev pub is_zero : Value → Bool
is_zero null = true
is_zero (boolean false) = true
is_zero (int (pos zero)) = true
is_zero (text []) = true
is_zero (list no_items) = true
is_zero (map no_entries) = true
is_zero _ = false

-- an optional value with this value, or without a value if it is null, false, 0 or empty
abbrev pub some_unless_zero : Outcome → Outcome
some_unless_zero (plain v) = if is_zero v then absent else present v
some_unless_zero _ = failed

-- whether each item of xs is equal to one of ys
abbrev pub contained : Items → Items → Bool
contained no_items ys = true
contained (item v more) ys = has_item v ys && contained more ys

-- whether an item of xs is equal to one of ys
abbrev pub meeting : Items → Items → Bool
meeting no_items ys = false
meeting (item v more) ys = has_item v ys || meeting more ys

-- a test of two lists; the error for all else
abbrev pub on_lists : (Items → Items → Bool) → ValueOrError → ValueOrError → ValueOrError
on_lists f (value (list xs)) (value (list ys)) = value (boolean (f xs ys))
on_lists f _ _ = error

abbrev pub sets_in : (Items → Items → Bool) → Outcome → Outcome → Outcome
sets_in f x y = outcome_of (on_lists f (plain_part x) (plain_part y))

-- a function with a namespace, applied to its operands; r for another number of them
abbrev pub qualified_in : Qualified → List Outcome → Outcome → Outcome
qualified_in qualified.OptionalOf (x ∷ []) r = some_of x
qualified_in qualified.OptionalNone [] r = absent
qualified_in qualified.OptionalOfNonZeroValue (x ∷ []) r = some_unless_zero x
qualified_in qualified.SetsContains (x ∷ y ∷ []) r = sets_in (λ xs ys. contained ys xs) x y
qualified_in qualified.SetsIntersects (x ∷ y ∷ []) r = sets_in meeting x y
qualified_in qualified.SetsEquivalent (x ∷ y ∷ []) r = sets_in (λ xs ys. contained xs ys && contained ys xs) x y
qualified_in _ xs r = r

-- ---- methods

-- the first item, if there is one (cel-go, ext/lists.go)
abbrev pub first_item : Items → Outcome
first_item no_items = absent
first_item (item v more) = present v

-- the item at the size - 1, if there is one; the error if that is no int of 64 bits (cel-go, ext/lists.go)
abbrev pub last_item : Items → Outcome
last_item no_items = absent
last_item (item v more) =
    let x : ValueOrError = value (list (item v more)) in some_of (outcome_of (index_of x (difference_of (size_of x) (value (int (pos 1))))))

-- an item of a list; the error for all else
abbrev pub item_of : (Items → Outcome) → ValueOrError → Outcome
item_of f (value (list is)) = f is
item_of f _ = failed

-- The first item of a list that is in this order with each item. The error if two items have no order, if there is no
-- item, and for all else (Kubernetes, library/lists.go)
abbrev pub extreme_of : (ValueOrError → ValueOrError → ValueOrError) → ValueOrError → ValueOrError
extreme_of order (value (list is)) =
    index_of (macro_of Filter (λ v. macro_of All (λ w. order (value v) (value w)) (list_of is)) (list_of is)) (value (int (pos 0)))
extreme_of order _ = error

-- The first or the last place of the items of a list that are equal to a value, or -1 if none is. What is r for a text,
-- which has a method of that name too; the error for all else
abbrev pub place_in : (Items → Outcome) → ValueOrError → ValueOrError → Outcome → Outcome
place_in f (value (list is)) (value v) r = value_or (f (places_of v 0 is)) (plain (int (negsuc 0)))
place_in f (value (text s)) y r = r
place_in f _ _ r = failed

-- a method applied to its operands; r for another number of them
abbrev pub method_in : Method → Outcome → List Outcome → Outcome → Outcome
method_in method.Size x [] r = outcome_of (size_of (plain_part x))
method_in method.StartsWith x (y ∷ []) r = outcome_of (text_test_of (Some test.StartsWith) (plain_part x) (plain_part y))
method_in method.EndsWith x (y ∷ []) r = outcome_of (text_test_of (Some test.EndsWith) (plain_part x) (plain_part y))
method_in method.Contains x (y ∷ []) r = outcome_of (text_test_of (Some test.Contains) (plain_part x) (plain_part y))
method_in method.HasValue x [] r = is_present x
method_in method.Value x [] r = value_in x
method_in method.OrValue x (y ∷ []) r = value_or x y
method_in method.Or x (y ∷ []) r = first_of x y
method_in method.First x [] r = item_of first_item (plain_part x)
method_in method.Last x [] r = item_of last_item (plain_part x)
method_in method.Min x [] r = outcome_of (extreme_of less_equal_of (plain_part x))
method_in method.Max x [] r = outcome_of (extreme_of greater_equal_of (plain_part x))
method_in method.IsSorted x [] r = outcome_of (of_items is_sorted (plain_part x))
method_in method.Distinct x [] r = outcome_of (of_items distinct (plain_part x))
method_in method.Reverse x [] r = outcome_of (of_items reversed (plain_part x))
method_in method.Slice x (y ∷ z ∷ []) r = outcome_of (slice_of (plain_part x) (plain_part y) (plain_part z))
method_in method.IndexOf x (y ∷ []) r = place_in first_item (plain_part x) (plain_part y) r
method_in method.LastIndexOf x (y ∷ []) r = place_in last_item (plain_part x) (plain_part y) r
method_in _ x ys r = r
