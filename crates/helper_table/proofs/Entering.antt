-- A map with one more entry.
use Rattle.helper_table.proofs.Prelude.{◌≡◌, ◌+◌, ℕ, max, List, Option, Some, None, Bool, true, false, not, ◌&&◌, refl, sym, ap, ◌∙◌, arith, and-true, and-false, is_eq-slice_cmp, Equal, slice_cmp, nat_cmp, is_eq, IfSome, option_map, option_and_then, is_some, bytes_eq, if◌then◌else◌, entries_at, text_at, value_at, put_in, put_of, has_key, inserted, Seen, outcome_view, depth_of, entries_depth, Value, map, Entries, no_entries, entry, ValueOrError, depth_at, is_key, entered, is_value, is_new_key, text_part}
use lib.Pointwise.{bytes_decides}
use Rattle.helper_table.proofs.Depths.{Grows}

equal_is_same : (a b : List ℕ) → slice_cmp nat_cmp a b ≡ Equal → bytes_eq b a ≡ true
equal_is_same a b e =
    let same : a ≡ b = (bytes_decides a b).0 (sym (is_eq-slice_cmp a b) ∙ ap is_eq e) in
    (bytes_decides b a).1 (sym same)

free_enters : (key : List ℕ) (x : Value) (es : Entries) → has_key key es ≡ false → is_some (inserted key x es) ≡ true
free_enters key x no_entries e = refl
free_enters key x (entry k v more) e = grind (arith, equal_is_same, free_enters key x more)

inserted_depth : (key : List ℕ) (x : Value) (es : Entries) → IfSome (inserted key x es) (λ fs. entries_depth fs ≡ max (entries_depth es) (depth_of x))
inserted_depth key x no_entries = omega arith
inserted_depth key x (entry k v more) = grind (arith, inserted_depth key x more)

-- the parts of a map, a key and a value
abbrev put_among : Option Entries → Option (List ℕ) → Option Value → Option Value
put_among es key x = option_and_then (λ m. option_and_then (λ k. option_and_then (put_of m k) x) key) es

mapped : (o : Option Entries) → is_some o ≡ is_some (option_map map o)
mapped o = grind arith

free : (b : Bool) (o : Option Value) → (b ≡ false → is_some o ≡ true) → not b ≡ is_some (if b then None else o)
free b o e = grind arith

not_free : (b : Bool) → false ≡ is_some {T = Value} (if b then None else None)
not_free b = grind arith

enters_among : (es : Option Entries) (key : Option (List ℕ)) (x : Option Value) → (is_new_key es key && is_some x) ≡ is_some (if is_key es key then None else put_among es key x)
enters_among (Some es) (Some key) None = and-false (not (has_key key es)) ∙ not_free (has_key key es)
enters_among (Some es) (Some key) (Some v) =
    and-true (not (has_key key es)) ∙ free (has_key key es) (put_of es key v) (λ e. sym (mapped (inserted key v es)) ∙ free_enters key v es e)
enters_among _ _ x = refl

value_seen : (x : ValueOrError) → is_value (outcome_view x) ≡ is_some (value_at (Some x))
value_seen x = grind arith

-- when an entry can be added to a map
pub enters : (m k x : Option ValueOrError) (s t : Seen) → option_map outcome_view k ≡ Some s → option_map outcome_view x ≡ Some t
    → (is_new_key (entries_at m) (text_part s) && is_value t) ≡ is_some (entered m k x)
enters m k x s t e f = grind (arith, value_seen, enters_among)

pub unless : (b : Bool) (o : Option Value) (w : Value) → (if b then None else o) ≡ Some w → o ≡ Some w
unless b o w e = grind arith

put_depth : (es : Entries) (v w : Value) (o : Option Entries) → IfSome o (λ fs. entries_depth fs ≡ max (entries_depth es) (depth_of v))
    → option_map map o ≡ Some w → depth_of w ≡ max (depth_of (map es)) (1 + depth_of v)
put_depth es v w o d f = grind arith

entries_are : (m : Option ValueOrError) (es : Entries) → entries_at m ≡ Some es → depth_at m ≡ depth_of (map es)
entries_are m es e = grind arith

value_is : (x : Option ValueOrError) (v : Value) → value_at x ≡ Some v → depth_at x ≡ depth_of v
value_is x v e = grind arith

put_among_depth : (m x : Option ValueOrError) (es : Option Entries) (key : Option (List ℕ)) (y : Option Value) (w : Value) → entries_at m ≡ es
    → value_at x ≡ y → put_among es key y ≡ Some w → depth_of w ≡ max (depth_at m) (1 + depth_at x)
put_among_depth m x (Some es) (Some key) (Some v) w e f g =
    put_depth es v w (inserted key v es) (inserted_depth key v es) g
    ∙ (let a = sym (entries_are m es e) in let b = sym (value_is x v f) in λ i. max (a i) (1 + b i))
put_among_depth m x _ _ _ w e f g = absurd (cc)

pub is_put : (m k x : Option ValueOrError) (w : Value) → entered m k x ≡ Some w → put_in m k x ≡ Some w
is_put m k x w h = grind arith

pub enters_by : (m k x : Option ValueOrError) → is_some (entered m k x) ≡ true → Grows (entered m k x) (max (depth_at m) (1 + depth_at x))
enters_by m k x there = record { is = λ w e. put_among_depth m x (entries_at m) (text_at k) (value_at x) w refl refl (is_put m k x w e) }

pub put_there : (m k x : Option ValueOrError) → is_some (entered m k x) ≡ true → is_some (put_in m k x) ≡ true
put_there m k x e = grind arith
