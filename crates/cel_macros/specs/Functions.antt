-- Functions and methods (cel-spec, List of Standard Definitions).
use Rattle.std.specs.Prelude.{ℕ, pos, Bool, ◌||◌, List, [], ◌∷◌, length, Option, Some, None, find, nat_eq, bytes_eq, codes}
use Rattle.std.specs.List.{starts_with, ends_with}
use Rattle.std.specs.Fmt.{signed_decimal}
use Rattle.text_kernels.specs.Scans.{code_points_of}
use Rattle.value_store.specs.Value.{ValueOrError, error, value, boolean, int, text, list, map, keys_of, list_of}
use Rattle.cel_macros.specs.declared.function.Function.{Function, TheVariants.Size, TheVariants.String, TheVariants.Dyn}
use Rattle.cel_macros.specs.declared.text_test.TextTest.{TextTest, TheVariants.StartsWith, TheVariants.EndsWith, TheVariants.Contains}

-- the name of a function
abbrev pub function_name : Function → List ℕ
function_name Size = codes "size"
function_name String = codes "string"
function_name Dyn = codes "dyn"

-- the function with this name, if any
unfoldable pub function_named : List ℕ → Option Function
function_named n = find (λ f. bytes_eq (function_name f) n) (Size ∷ String ∷ Dyn ∷ [])

-- the number of a text's code points, a list's items or a map's entries; the error for all else
abbrev pub size_of : ValueOrError → ValueOrError
size_of (value (text s)) = value (int (pos (code_points_of s)))
size_of (value (list is)) = value (int (pos (length (list_of is))))
size_of (value (map es)) = value (int (pos (length (keys_of es))))
size_of _ = error

-- an int in decimal digits, with `-` if it is negative; a text unchanged; the error for all else
abbrev pub string_of : ValueOrError → ValueOrError
string_of (value (int z)) = value (text (signed_decimal z))
string_of (value (text s)) = value (text s)
string_of _ = error

-- a function applied to its operand; `dyn` returns it unchanged; the error if there is no such function
abbrev pub function_of : Option Function → ValueOrError → ValueOrError
function_of (Some Size) x = size_of x
function_of (Some String) x = string_of x
function_of (Some Dyn) x = x
function_of None x = error

-- a function called as a method, which only `size` may be; the error otherwise
abbrev pub method_of : Option Function → ValueOrError → ValueOrError
method_of (Some Size) x = size_of x
method_of _ x = error

-- the name of a test of two texts
abbrev pub test_name : TextTest → List ℕ
test_name StartsWith = codes "startsWith"
test_name EndsWith = codes "endsWith"
test_name Contains = codes "contains"

-- the test with this name, if any
unfoldable pub test_named : List ℕ → Option TextTest
test_named n = find (λ t. bytes_eq (test_name t) n) (StartsWith ∷ EndsWith ∷ Contains ∷ [])

-- whether the part occurs in the text
abbrev pub contains : List ℕ → List ℕ → Bool
contains [] part = starts_with nat_eq [] part
contains (b ∷ bs) part = starts_with nat_eq (b ∷ bs) part || contains bs part

-- whether the text a starts with b, ends with b, or contains b
abbrev pub holds_of : TextTest → List ℕ → List ℕ → Bool
holds_of StartsWith a b = starts_with nat_eq a b
holds_of EndsWith a b = ends_with nat_eq a b
holds_of Contains a b = contains a b

-- a test of two texts: the operand before the dot, and the argument; the error if there is no such test, or one is no text
abbrev pub text_test_of : Option TextTest → ValueOrError → ValueOrError → ValueOrError
text_test_of (Some t) (value (text a)) (value (text b)) = value (boolean (holds_of t a b))
text_test_of _ _ _ = error
