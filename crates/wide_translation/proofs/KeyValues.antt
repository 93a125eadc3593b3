-- Whether values have items and entries, for any index.
use Rattle.std.proofs.Common.{◌≡◌, ℕ, pos, negsuc, Bool, true, false, not, length, is_some, codes, slice_get, int_lt}
use Rattle.std.proofs.Common.{refl, ap, sym, ◌∙◌, arith}
use lib.Pointwise.{bytes_decides}
use Rattle.std.specs.Fmt.{signed_decimal}
use Rattle.value_store.specs.Value.{Value, ValueOrError, error, value, null, boolean, int, text, list, map, Items, Entries}
use Rattle.value_store.specs.Value.{no_items, list_of}
use Rattle.value_store.specs.Lookup.{find, has_key}
use Rattle.cel_macros.specs.Arithmetic.{sum_of}
use Rattle.cel_macros.specs.Comparison.{equal_of, unequal_of, less_of, less_equal_of, member_of}
use Rattle.cel_macros.specs.Functions.{size_of, string_of}
use Rattle.cel_macros.specs.Logic.{ternary_of}
use Rattle.cel_macros.specs.Selection.{has_of, index_of}
use Rattle.wide_meaning.specs.Access.{at}
use Rattle.wide_meaning.specs.Outcome.{Outcome, failed}
use Rattle.wide_kinds.specs.declared.kind.ValueKind.{ValueKind}
use Rattle.wide_kinds.specs.declared.kind.ValueKind.TheVariants as kind
use Rattle.wide_kinds.specs.Fitting.{FitsKind, IsOptionalOf}
use Rattle.wide_translation.specs.Holds.{guard_part, value_part}
use Rattle.wide_translation.proofs.ItemsHold.{join_nothing, not_below, inside, guard_of_option, value_of_option, option_kind}
use Rattle.wide_translation.proofs.PairForms.{is_list}
use Rattle.wide_translation.proofs.PairLists.{list_is_list, map_is_no_list}

-- the item or entry y of x as an optional value; the error for the error
abbrev pub key_outcome : ValueOrError → ValueOrError → Outcome
key_outcome error y = failed
key_outcome (value v) error = failed
key_outcome (value v) (value w) = at v w

-- ---- an index of a list

-- whether the list x has an item y
abbrev pub inside_of : ValueOrError → ValueOrError → ValueOrError
inside_of x y = ternary_of (less_of y (size_of x)) (less_equal_of (value (int (pos 0))) y) (value (boolean false))

same_branches : (b : Bool) (x : ValueOrError) → ternary_of (value (boolean b)) x x ≡ x
same_branches true x = refl
same_branches false x = refl

itself : (b : Bool) → ternary_of (value (boolean b)) (value (boolean true)) (value (boolean false)) ≡ value (boolean b)
itself true = refl
itself false = refl

before_zero : (n : ℕ) → int_lt (negsuc n) (pos 0) ≡ true
before_zero n = grind arith

inside_list : (is : Items) (y : ValueOrError) → inside_of (value (list is)) y ≡ guard_part (key_outcome (value (list is)) y)
inside_list is error = refl
inside_list is (value null) = refl
inside_list is (value (boolean b)) = refl
inside_list is (value (text s)) = refl
inside_list is (value (list js)) = refl
inside_list is (value (map es)) = refl
inside_list is (value (int (pos n))) =
    (λ j. ternary_of (value (boolean (inside (list_of is) n j))) (value (boolean (not (not_below n 0 (omega arith) j)))) (value (boolean false)))
    ∙ itself (is_some (slice_get (list_of is) n)) ∙ sym (guard_of_option (slice_get (list_of is) n))
inside_list is (value (int (negsuc n))) =
    (λ j. ternary_of (value (boolean (int_lt (negsuc n) (pos (length (list_of is)))))) (value (boolean (not (before_zero n j)))) (value (boolean false)))
    ∙ same_branches (int_lt (negsuc n) (pos (length (list_of is)))) (value (boolean false))

inside_error : (y : ValueOrError) → inside_of error y ≡ error
inside_error error = refl
inside_error (value w) = refl

-- ---- a key of a map

member_map : (es : Entries) (y : ValueOrError) → member_of y (value (map es)) ≡ guard_part (key_outcome (value (map es)) y)
member_map es error = refl
member_map es (value null) = refl
member_map es (value (boolean b)) = refl
member_map es (value (int z)) = refl
member_map es (value (list is)) = refl
member_map es (value (map fs)) = refl
member_map es (value (text s)) = sym (guard_of_option (find s es))

member_error : (y : ValueOrError) → member_of y error ≡ error
member_error error = refl
member_error (value w) = refl

-- ---- values that are known to be maps or lists

pub map_has : (x y : ValueOrError) → FitsKind kind.Map x → member_of y x ≡ guard_part (key_outcome x y)
map_has error y h = member_error y
map_has (value (map es)) y h = member_map es y
map_has (value null) y h = absurd (cc)
map_has (value (boolean b)) y h = absurd (cc)
map_has (value (int z)) y h = absurd (cc)
map_has (value (text s)) y h = absurd (cc)
map_has (value (list is)) y h = absurd (cc)

pub list_has : (x y : ValueOrError) → FitsKind kind.List x → inside_of x y ≡ guard_part (key_outcome x y)
list_has error y h = inside_error y
list_has (value (list is)) y h = inside_list is y
list_has (value null) y h = absurd (cc)
list_has (value (boolean b)) y h = absurd (cc)
list_has (value (int z)) y h = absurd (cc)
list_has (value (text s)) y h = absurd (cc)
list_has (value (map es)) y h = absurd (cc)

-- ---- any value

-- whether x, which is no null, has an item or entry y of this kind
abbrev pub found_of : ValueKind → ValueOrError → ValueOrError → ValueOrError
found_of kind.String x y = ternary_of (has_of x (codes "a")) (member_of y x) (member_of y x)
found_of kind.Int x y = inside_of (sum_of x (value (list no_items))) y
found_of j x y = ternary_of (is_list x) (inside_of x y) (member_of y x)

-- what is neither a list nor a map has none
found_wrong : (j : ValueKind) (x y : ValueOrError) → has_of x (codes "a") ≡ error → sum_of x (value (list no_items)) ≡ error → is_list x ≡ error → found_of j x y ≡ error
found_wrong kind.String x y a b c = ap (λ z. ternary_of z (member_of y x) (member_of y x)) a
found_wrong kind.Int x y a b c = ap (λ z. inside_of z y) b ∙ inside_error y
found_wrong kind.Null x y a b c = ap (λ z. ternary_of z (inside_of x y) (member_of y x)) c
found_wrong kind.Bool x y a b c = ap (λ z. ternary_of z (inside_of x y) (member_of y x)) c
found_wrong kind.List x y a b c = ap (λ z. ternary_of z (inside_of x y) (member_of y x)) c
found_wrong kind.Map x y a b c = ap (λ z. ternary_of z (inside_of x y) (member_of y x)) c
found_wrong kind.Dyn x y a b c = ap (λ z. ternary_of z (inside_of x y) (member_of y x)) c

no_item : (v : Value) (y : ValueOrError) → ((w : Value) → at v w ≡ failed) → error ≡ guard_part (key_outcome (value v) y)
no_item v error h = refl
no_item v (value w) h = sym (ap guard_part (h w))

-- a map, by the kind of the index
map_and_int : (es : Entries) (y : ValueOrError) → FitsKind kind.Int y → error ≡ guard_part (key_outcome (value (map es)) y)
map_and_int es error h = refl
map_and_int es (value (int z)) h = refl
map_and_int es (value null) h = absurd (cc)
map_and_int es (value (boolean b)) h = absurd (cc)
map_and_int es (value (text s)) h = absurd (cc)
map_and_int es (value (list is)) h = absurd (cc)
map_and_int es (value (map fs)) h = absurd (cc)

any_map : (es : Entries) (y : ValueOrError)
    → ternary_of (is_list (value (map es))) (inside_of (value (map es)) y) (member_of y (value (map es))) ≡ guard_part (key_outcome (value (map es)) y)
any_map es y = ap (λ z. ternary_of z (inside_of (value (map es)) y) (member_of y (value (map es)))) (map_is_no_list es) ∙ member_map es y

found_map : (j : ValueKind) (es : Entries) (y : ValueOrError) → FitsKind j y → found_of j (value (map es)) y ≡ guard_part (key_outcome (value (map es)) y)
found_map kind.String es y h = same_branches (has_key (codes "a") es) (member_of y (value (map es))) ∙ member_map es y
found_map kind.Int es y h = inside_error y ∙ map_and_int es y h
found_map kind.Null es y h = any_map es y
found_map kind.Bool es y h = any_map es y
found_map kind.List es y h = any_map es y
found_map kind.Map es y h = any_map es y
found_map kind.Dyn es y h = any_map es y

-- a list, by the kind of the index
list_and_text : (is : Items) (y : ValueOrError) → FitsKind kind.String y → error ≡ guard_part (key_outcome (value (list is)) y)
list_and_text is error h = refl
list_and_text is (value (text s)) h = refl
list_and_text is (value null) h = absurd (cc)
list_and_text is (value (boolean b)) h = absurd (cc)
list_and_text is (value (int z)) h = absurd (cc)
list_and_text is (value (list js)) h = absurd (cc)
list_and_text is (value (map es)) h = absurd (cc)

any_list : (is : Items) (y : ValueOrError)
    → ternary_of (is_list (value (list is))) (inside_of (value (list is)) y) (member_of y (value (list is))) ≡ guard_part (key_outcome (value (list is)) y)
any_list is y = ap (λ z. ternary_of z (inside_of (value (list is)) y) (member_of y (value (list is)))) (list_is_list is) ∙ inside_list is y

found_list : (j : ValueKind) (is : Items) (y : ValueOrError) → FitsKind j y → found_of j (value (list is)) y ≡ guard_part (key_outcome (value (list is)) y)
found_list kind.String is y h = list_and_text is y h
found_list kind.Int is y h = ap (λ js. inside_of (value (list js)) y) (join_nothing is) ∙ inside_list is y
found_list kind.Null is y h = any_list is y
found_list kind.Bool is y h = any_list is y
found_list kind.List is y h = any_list is y
found_list kind.Map is y h = any_list is y
found_list kind.Dyn is y h = any_list is y

-- null, and all others
pub any_has : (j : ValueKind) (x y none : ValueOrError) → FitsKind j y → none ≡ guard_part (key_outcome (value null) y)
    → ternary_of (equal_of x (value null)) none (found_of j x y) ≡ guard_part (key_outcome x y)
any_has j error y none h g = refl
any_has j (value null) y none h g = g
any_has j (value (boolean b)) y none h g = found_wrong j (value (boolean b)) y refl refl refl ∙ no_item (boolean b) y (λ w. refl)
any_has j (value (int z)) y none h g = found_wrong j (value (int z)) y refl refl refl ∙ no_item (int z) y (λ w. refl)
any_has j (value (text s)) y none h g = found_wrong j (value (text s)) y refl refl refl ∙ no_item (text s) y (λ w. refl)
any_has j (value (list is)) y none h g = found_list j is y h
any_has j (value (map es)) y none h g = found_map j es y h

-- an int or a text is not unequal to itself as a text
pub null_has : (y : ValueOrError) → unequal_of (string_of y) (string_of y) ≡ guard_part (key_outcome (value null) y)
null_has error = refl
null_has (value null) = refl
null_has (value (boolean b)) = refl
null_has (value (int z)) = ap (λ b. value (boolean (not b))) ((bytes_decides (signed_decimal z) (signed_decimal z)).1 refl)
null_has (value (text s)) = ap (λ b. value (boolean (not b))) ((bytes_decides s s).1 refl)
null_has (value (list is)) = refl
null_has (value (map es)) = refl

-- ---- the item or entry

pub its_value : (x y : ValueOrError) → index_of x y ≡ value_part (key_outcome x y)
its_value error y = refl
its_value (value null) error = refl
its_value (value (boolean b)) error = refl
its_value (value (int z)) error = refl
its_value (value (text s)) error = refl
its_value (value (list is)) error = refl
its_value (value (map es)) error = refl
its_value (value null) (value null) = refl
its_value (value null) (value (boolean b)) = refl
its_value (value null) (value (int z)) = refl
its_value (value null) (value (text s)) = refl
its_value (value null) (value (list is)) = refl
its_value (value null) (value (map es)) = refl
its_value (value (boolean b)) (value w) = refl
its_value (value (int z)) (value w) = refl
its_value (value (text s)) (value w) = refl
its_value (value (list is)) (value (int (pos n))) = value_of_option (slice_get (list_of is) n)
its_value (value (list is)) (value (int (negsuc n))) = refl
its_value (value (list is)) (value null) = refl
its_value (value (list is)) (value (boolean b)) = refl
its_value (value (list is)) (value (text s)) = refl
its_value (value (list is)) (value (list js)) = refl
its_value (value (list is)) (value (map es)) = refl
its_value (value (map es)) (value (text s)) = value_of_option (find s es)
its_value (value (map es)) (value null) = refl
its_value (value (map es)) (value (boolean b)) = refl
its_value (value (map es)) (value (int z)) = refl
its_value (value (map es)) (value (list is)) = refl
its_value (value (map es)) (value (map fs)) = refl

at_kind : (v w : Value) → IsOptionalOf kind.Dyn (at v w)
at_kind (boolean b) w = tt
at_kind (int z) w = tt
at_kind (text s) w = tt
at_kind null (int z) = tt
at_kind null (text s) = tt
at_kind null null = tt
at_kind null (boolean b) = tt
at_kind null (list is) = tt
at_kind null (map es) = tt
at_kind (list is) (int (pos n)) = option_kind (slice_get (list_of is) n)
at_kind (list is) (int (negsuc n)) = tt
at_kind (list is) null = tt
at_kind (list is) (boolean b) = tt
at_kind (list is) (text s) = tt
at_kind (list is) (list js) = tt
at_kind (list is) (map es) = tt
at_kind (map es) (text s) = option_kind (find s es)
at_kind (map es) null = tt
at_kind (map es) (boolean b) = tt
at_kind (map es) (int z) = tt
at_kind (map es) (list is) = tt
at_kind (map es) (map fs) = tt

pub key_kind : (x y : ValueOrError) → IsOptionalOf kind.Dyn (key_outcome x y)
key_kind error y = tt
key_kind (value v) error = tt
key_kind (value v) (value w) = at_kind v w
