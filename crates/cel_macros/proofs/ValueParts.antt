-- Parts of values are values, and so are the results of literals, macros and names.
use Rattle.cel_macros.proofs.Prelude.{ℕ, suc, Bool, true, false, cond, List, [], ◌∷◌, map as each, filter, Option, Some, IfSome, arith, rules, ℤ, slice_get, AllByRecursion, list_any, list_all, IsUtf8, Value, boolean, text, Items, no_items, item, entry, ValueOrError, error, value, list_of, items_of, keys_of, items_join, Ascend, find, inserted, inserted_in_order, Macro, All, Exists, ExistsOne, Filter, Map, Environment, bind, lookup, value_or_error, name_value, variable_value, Truth, truth, field_of, index_of, with_value, values_in, list_or_error, list_literal, text_part, entries_in, map_or_error, is_yes, is_no, is_other, where_true, map_of, macro_of, over_range, map_over_range, range_of, selected, IsValue, AreValues, AreEntryValues, IsValueOrError, NamesValues}
use Rattle.std.specs.List.Sorted.{IsStrictlySortedBy}
use Rattle.std.specs.Option.{option_or, unwrap_or}
use Rattle.value_store.specs.Value.{Entries, no_entries}

no_keys : Ascend []
unfolding IsStrictlySortedBy
no_keys = tt

-- values whose ints satisfy P
module _ (P : ℤ → Type 0) where
  abbrev pub Is : ValueOrError → Type 0
  Is x = IsValueOrError P x

  abbrev pub Part : Option Value → Type 0
  Part o = IfSome o (IsValue P)

  -- ---- parts of values

  pub a_value : (o : Option Value) → Part o → Is (value_or_error o)
  a_value o h = grind arith

  pub found : (key : List ℕ) (es : Entries) → AreEntryValues P es → Part (find key es)
  found key no_entries h = tt
  found key (entry k v more) h = grind (arith, found key more h.2)

  pub listed : (is : Items) → AreValues P is → AllByRecursion (IsValue P) (list_of is)
  listed no_items h = tt
  listed (item v more) h = (h.0, listed more h.1)

  pub keyed : (es : Entries) → AreEntryValues P es → AllByRecursion (IsValue P) (each text (keys_of es))
  keyed no_entries h = tt
  keyed (entry k v more) h = (h.0, keyed more h.2)

  pub as_list : (vs : List Value) → AllByRecursion (IsValue P) vs → AreValues P (items_of vs)
  as_list [] h = tt
  as_list (v ∷ vs) h = (h.0, as_list vs h.1)

  pub at : (vs : List Value) (i : ℕ) → AllByRecursion (IsValue P) vs → Part (slice_get vs i)
  at (v ∷ vs) (suc i) h = at vs i h.1
  at vs i h = grind arith

  pub joined : (is js : Items) → AreValues P is → AreValues P js → AreValues P (items_join is js)
  joined no_items js h k = k
  joined (item v more) js h k = (h.0, joined more js h.1 k)

  pub put : (key : List ℕ) (x : Value) (es : Entries) → IsUtf8 key → IsValue P x → AreEntryValues P es → IfSome (inserted key x es) (AreEntryValues P)
  put key x no_entries u a h = (u, a, tt)
  put key x (entry k v more) u a h = grind (arith, put key x more u a h.2)

  -- ---- fields, keys and indices

  pub a_field : (f : List ℕ) (x : ValueOrError) → Is x → Is (field_of x f)
  a_field f x h = grind (arith, a_value, found)

  pub an_item : (x k : ValueOrError) → Is x → Is (index_of x k)
  an_item x k h = grind (arith, a_value, at, listed, found)

  -- ---- literals of lists and maps

  pub one_more : (x : ValueOrError) (o : Option (List Value)) → Is x → IfSome o (AllByRecursion (IsValue P))
      → IfSome (with_value x o) (AllByRecursion (IsValue P))
  one_more x o h k = grind arith

  pub all_values : (xs : List ValueOrError) → AllByRecursion Is xs → IfSome (values_in xs) (AllByRecursion (IsValue P))
  all_values [] h = tt
  all_values (x ∷ xs) h = grind (arith, all_values xs h.1)

  pub a_list_literal : (xs : List ValueOrError) → AllByRecursion Is xs → Is (list_literal xs)
  a_list_literal xs h = grind (arith, as_list, all_values)

  abbrev pub InOrder : Entries → Type 0
  InOrder es = Ascend (keys_of es) × AreEntryValues P es

  pub both : (o : Option Entries) → IfSome o (λ es. Ascend (keys_of es)) → IfSome o (AreEntryValues P) → IfSome o InOrder
  both o a b = grind arith

  pub key_in : (x : ValueOrError) → Is x → IfSome (text_part x) IsUtf8
  key_in x h = grind arith

  pub all_entries : (es : List (ValueOrError × ValueOrError)) → AllByRecursion (λ e. Is e.0 × Is e.1) es → IfSome (entries_in es) InOrder
  all_entries [] h = (no_keys, tt)
  all_entries (e ∷ es) h = grind (arith, both, inserted_in_order, put, key_in, all_entries es h.1)

  pub a_map : (o : Option Entries) → IfSome o InOrder → Is (map_or_error o)
  a_map o h = grind arith

  -- ---- macros

  abbrev pub Step : (Value → ValueOrError) → Type 0
  Step f = (v : Value) → IsValue P v → Is (f v)

  pub kept : (p : Value → Bool) (vs : List Value) → AllByRecursion (IsValue P) vs → AllByRecursion (IsValue P) (filter p vs)
  kept p [] h = tt
  kept p (v ∷ vs) h = grind (arith, kept p vs h.1)

  pub each_is : (f : Value → ValueOrError) (vs : List Value) → Step f → AllByRecursion (IsValue P) vs → AllByRecursion Is (each f vs)
  each_is f [] s h = tt
  each_is f (v ∷ vs) s h = grind (arith, each_is f vs s h.1)

  pub a_truth : (b c : Bool) (x y : Bool) → Is (cond b (value (boolean x)) (cond c (value (boolean y)) error))
  a_truth b c x y = grind arith

  pub one_truth : (b : Bool) (x : Bool) → Is (cond b error (value (boolean x)))
  one_truth b x = grind arith

  pub among : (p : Value → Truth) (result : List Value → ValueOrError) (vs : List Value) → ((ws : List Value) → AllByRecursion (IsValue P) ws → Is (result ws))
      → AllByRecursion (IsValue P) vs → Is (where_true p result vs)
  among p result vs r h = grind (arith, kept)

  pub by_macro : (m : Macro) (f : Value → ValueOrError) (vs : List Value) → Step f → AllByRecursion (IsValue P) vs → Is (macro_of m f vs)
  by_macro All f vs s h = a_truth (list_any is_no (each (λ x. truth (f x)) vs)) (list_all is_yes (each (λ x. truth (f x)) vs)) false true
  by_macro Exists f vs s h = a_truth (list_any is_yes (each (λ x. truth (f x)) vs)) (list_all is_no (each (λ x. truth (f x)) vs)) true false
  by_macro ExistsOne f vs s h = one_truth (list_any is_other (each (λ x. truth (f x)) vs)) _
  by_macro Filter f vs s h = among (λ x. truth (f x)) (λ ws. list_or_error (Some ws)) vs (λ ws k. as_list ws k) h
  by_macro Map f vs s h = a_list_literal (each f vs) (each_is f vs s h)

  pub range_in : (x : ValueOrError) → Is x → IfSome (range_of x) (AllByRecursion (IsValue P))
  range_in x h = grind (arith, listed, keyed)

  pub over : (m : Option Macro) (n : Option (List ℕ)) (f : List ℕ → Value → ValueOrError) (r : Option (List Value)) → ((i : List ℕ) → Step (f i))
      → IfSome r (AllByRecursion (IsValue P)) → Is (over_range m n f r)
  over m n f r s h = grind (arith, by_macro)

  pub map_over : (b : Bool) (n : Option (List ℕ)) (p f : List ℕ → Value → ValueOrError) (r : Option (List Value)) → ((i : List ℕ) → Step (f i))
      → IfSome r (AllByRecursion (IsValue P)) → Is (map_over_range b n p f r)
  map_over true (Some n) p f (Some vs) s h = among (λ x. truth (p n x)) (map_of (f n)) vs (λ ws k. a_list_literal (each (f n) ws) (each_is (f n) ws (s n) k)) h
  map_over _ _ p f _ s h = tt

  -- ---- names

  pub bound : (n : List ℕ) (bs : List (List ℕ × Value)) → AllByRecursion (λ b. IsValue P b.1) bs → Part (lookup n bs)
  bound n [] h = tt
  bound n (b ∷ bs) h = grind (arith, bound n bs h.1)

  pub results : (n : List ℕ) (bs : List (List ℕ × ValueOrError)) → AllByRecursion (λ b. Is b.1) bs → IfSome (lookup n bs) Is
  results n [] h = tt
  results n (b ∷ bs) h = grind (arith, results n bs h.1)

  pub a_result : (o : Option ValueOrError) → IfSome o Is → Is (unwrap_or o error)
  a_result o h = grind arith

  pub a_name : (o r : Option Value) → Part o → Part r → Is (value_or_error (option_or o r))
  a_name o r h k = grind arith

  pub named : (n : List ℕ) (env : Environment) → NamesValues P env → Is (name_value n env)
  unfolding name_value
  named n env h = search (rules, a_name, bound)

  pub a_variable : (n : List ℕ) (env : Environment) → NamesValues P env → Is (variable_value n env.variables)
  unfolding variable_value
  a_variable n env h = grind (arith, a_result, results)

  pub within : (n : List ℕ) (v : Value) (env : Environment) → IsValue P v → NamesValues P env → NamesValues P (bind n v env)
  within n v env a h = grind arith

  pub a_selection : (b : Bool) (f : List ℕ) (x : ValueOrError) (env : Environment) → Is x → NamesValues P env → Is (selected b f x env)
  a_selection b f x env h k = grind (arith, a_variable, a_field)
