-- Putting the entries of a map in order gives the same map as putting them from last to first.
-- For the laws in `specs/Gives/Aggregates`.
use Rattle.expression_code.proofs.Prelude.{◌≡◌, ℕ, List, [], ◌∷◌, Option, Some, None, Bool, not, Ordering, Less, Equal, Greater, nat_cmp, refl, sym, ap, ◌∙◌, arith, IfSome, is_some, option_and_then, option_map, if◌then◌else◌, fold as fold_left, nat_list_cmp_total, slice_cmp, ordering_reverse, is_key, value_at, Ascend, inserted, Value, ValueOrError, error, value, map, Entries, no_entries, entry, keys_of, inserted_in_order, inserted_once, value_or_error, entries_in, map_literal, map_or_error, with_entry, with_pair}
use Rattle.std.specs.List.Sorted.{IsStrictlySortedBy}
use Rattle.value_store.specs.Calls.{put_of}
use Rattle.cel_macros.specs.Literals.{text_part}
use Rattle.expression_code.specs.Helpers as helper

abbrev compared : List ℕ → List ℕ → Ordering
compared j k = slice_cmp nat_cmp j k

-- ---- two entries, put in either order

turned : (j k : List ℕ) → compared k j ≡ ordering_reverse (compared j k)
turned j k = nat_list_cmp_total.antisymm k j

-- j is less than the key equal to k, or than the key that k follows
at_first : (j k h : List ℕ) → compared j h ≡ Less → compared k h ≡ Equal → compared j k ≡ Less
at_first j k h e f = turned k j ∙ ap ordering_reverse (nat_list_cmp_total.congr k h j f ∙ turned j h ∙ ap ordering_reverse e)

behind_first : (j k h : List ℕ) → compared j h ≡ Less → compared k h ≡ Greater → compared j k ≡ Less
behind_first j k h e f = nat_list_cmp_total.trans j h k e (turned k h ∙ ap ordering_reverse f)

-- either of the two may be put first
abbrev Swaps : (j k : List ℕ) (v w : Value) → Entries → Type 0
Swaps j k v w es = option_and_then (inserted j v) (inserted k w es) ≡ option_and_then (inserted k w) (inserted j v es)

alone : (j k : List ℕ) (v w : Value) → compared k j ≡ ordering_reverse (compared j k) → Swaps j k v w no_entries
alone j k v w e = grind arith

-- if j is less than the first key, and k equals that key or follows it, and the other way round
both : (j k : List ℕ) (v w : Value) (h : List ℕ) (x : Value) (more : Entries) → compared k j ≡ ordering_reverse (compared j k)
    → (compared j h ≡ Less → compared k h ≡ Equal → compared j k ≡ Less)
    → (compared j h ≡ Less → compared k h ≡ Greater → compared j k ≡ Less)
    → (compared k h ≡ Less → compared j h ≡ Equal → compared k j ≡ Less)
    → (compared k h ≡ Less → compared j h ≡ Greater → compared k j ≡ Less)
    → Swaps j k v w more → Swaps j k v w (entry h x more)
both j k v w h x more e f g f1 g1 rest = grind arith

swapped : (j k : List ℕ) (v w : Value) (es : Entries) → Swaps j k v w es
swapped j k v w no_entries = alone j k v w (turned j k)
swapped j k v w (entry h x more) =
    both j k v w h x more (turned j k) (λ e f. at_first j k h e f) (λ e f. behind_first j k h e f) (λ e f. at_first k j h e f) (λ e f. behind_first k j h e f) (swapped j k v w more)

-- ---- the same for keys and values that may be missing

in_none : (a : Option (List ℕ)) (x : ValueOrError) → with_entry a x None ≡ None
in_none a x = grind arith

-- ---- all entries

abbrev enter : (ValueOrError × ValueOrError) → Option Entries → Option Entries
enter e o = with_entry (text_part e.0) e.1 o

-- the entries put from last to first
abbrev backwards : Option Entries → List (ValueOrError × ValueOrError) → Option Entries
backwards o [] = o
backwards o (e ∷ es) = enter e (backwards o es)

backwards_is : (es : List (ValueOrError × ValueOrError)) → backwards (Some no_entries) es ≡ entries_in es
backwards_is [] = refl
backwards_is (e ∷ es) = ap (enter e) (backwards_is es)

first_last : (e : ValueOrError × ValueOrError) (o : Option Entries) (es : List (ValueOrError × ValueOrError))
    → backwards (enter e o) es ≡ enter e (backwards o es)
first_last e o [] = refl
first_last e o (f ∷ es) = ap (enter f) (first_last e o es) ∙ (grind (arith, swapped, in_none))

-- ---- a map with one more entry, as the helper builds it

-- the keys of entries are in order
abbrev InOrder : Option Entries → Type 0
InOrder o = IfSome o (λ es. Ascend (keys_of es))

enter_in_order : (a : Option (List ℕ)) (x : ValueOrError) (o : Option Entries) → InOrder o → InOrder (with_entry a x o)
enter_in_order a x o up = grind (arith, inserted_in_order)

-- the result for a key that is missing
absent : (b : Bool) (o : Option Entries) → is_some o ≡ not b → value_or_error (if b then None else option_map map o) ≡ map_or_error o
absent b o e = grind arith

never : (b : Bool) → value_or_error (if b then None else None) ≡ error
never b = grind arith

-- the helper's result for these entries and this key
abbrev put_at : Entries → Option (List ℕ) → ValueOrError → ValueOrError
put_at es t x = value_or_error (if is_key (Some es) t then None else option_and_then (λ key. option_and_then (put_of es key) (value_at (Some x))) t)

put_at_is : (es : Entries) (t : Option (List ℕ)) (x : ValueOrError) → Ascend (keys_of es) → put_at es t x ≡ map_or_error (with_entry t x (Some es))
put_at_is es t x up = grind (arith, never, absent, inserted_once)

put_is : (o : Option Entries) (k x : ValueOrError) → InOrder o → helper.put_of (map_or_error o) k x ≡ map_or_error (with_entry (text_part k) x o)
put_is None k x up = sym (ap map_or_error (in_none (text_part k) x))
put_is (Some es) k x up = ap (λ (t : Option (List ℕ)). put_at es t x) (grind arith) ∙ put_at_is es (text_part k) x up

puts_are : (es : List (ValueOrError × ValueOrError)) (o : Option Entries) → InOrder o → fold_left with_pair (map_or_error o) es ≡ map_or_error (backwards o es)
puts_are [] o up = refl
puts_are (e ∷ es) o up = grind (arith, put_is, enter_in_order, first_last, puts_are es (enter e o) (enter_in_order (text_part e.0) e.1 o up))

pub map_is : (es : List (ValueOrError × ValueOrError)) → fold_left with_pair (value (map no_entries)) es ≡ map_literal es
unfolding IsStrictlySortedBy
map_is es = puts_are es (Some no_entries) tt ∙ ap map_or_error (backwards_is es)
