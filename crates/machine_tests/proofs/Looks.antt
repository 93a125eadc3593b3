-- The outline of the value at a reference determines which calls are allowed there.
use Rattle.machine_tests.proofs.Prelude.{◌≡◌, ◌<◌, ℕ, zero, suc, List, [], ◌∷◌, length, Option, Some, None, slice_get, option_map, refl, sym, ap, ◌∙◌, arith, ℤ, Bool, IsSome, Items, Entries, ValueOrError, value, list_of, keys_of, pushed, part_at, key_at, joined, put_in, text_at, find_at, equal_at, member_at, place_of_key, inserted, outcome_view, sees_bool, sees_int, sees_text, sees_list, sees_map, absent_fits}
use Rattle.value_store.specs.Value as kind

-- ---- the value for each outline

pub record ListHere (o : Option ValueOrError) (n : ℕ) : Type 0 where
  pub items : Items
  pub is : o ≡ Some (value (kind.list items))
  pub count : n ≡ length (list_of items)

list_here : (o : Option ValueOrError) (n : ℕ) → Some (sees_list n) ≡ option_map outcome_view o → ListHere o n
list_here (Some (value (kind.list is))) n e = record { items = is; is = refl; count = cc }
list_here _ n e = absurd (cc)

pub record MapHere (o : Option ValueOrError) (n : ℕ) : Type 0 where
  pub entries : Entries
  pub is : o ≡ Some (value (kind.map entries))
  pub count : n ≡ length (keys_of entries)

map_here : (o : Option ValueOrError) (n : ℕ) → Some (sees_map n) ≡ option_map outcome_view o → MapHere o n
map_here (Some (value (kind.map es))) n e = record { entries = es; is = refl; count = cc }
map_here _ n e = absurd (cc)

pub record IntHere (o : Option ValueOrError) : Type 0 where
  pub number : ℤ
  pub is : o ≡ Some (value (kind.int number))

int_here : (o : Option ValueOrError) (z : ℤ) → Some (sees_int z) ≡ option_map outcome_view o → IntHere o
int_here (Some (value (kind.int m))) z e = record { number = m; is = refl }
int_here _ z e = absurd (cc)

pub record TextHere (o : Option ValueOrError) : Type 0 where
  pub bytes : List ℕ
  pub is : o ≡ Some (value (kind.text bytes))

text_here : (o : Option ValueOrError) (s : List ℕ) → Some (sees_text s) ≡ option_map outcome_view o → TextHere o
text_here (Some (value (kind.text t))) s e = record { bytes = t; is = refl }
text_here _ s e = absurd (cc)

pub record BoolHere (o : Option ValueOrError) : Type 0 where
  pub truth : Bool
  pub is : o ≡ Some (value (kind.boolean truth))

bool_here : (o : Option ValueOrError) (b : Bool) → Some (sees_bool b) ≡ option_map outcome_view o → BoolHere o
bool_here (Some (value (kind.boolean c))) b e = record { truth = c; is = refl }
bool_here _ b e = absurd (cc)

some_within : {A : Type 0} (xs : List A) (i : ℕ) → i < length xs → IsSome (slice_get xs i)
some_within [] i e = absurd (omega arith)
some_within (x ∷ xs) zero e = refl
some_within (x ∷ xs) (suc i) e = some_within xs i (omega arith)

some_mapped : {A B : Type 0} (f : A → B) (o : Option A) → IsSome o → IsSome (option_map f o)
some_mapped f None e = absurd (cc)
some_mapped f (Some x) e = refl

-- ---- values that may be placed

pub push_fits : (l x : Option ValueOrError) (n : ℕ) (z : ℤ) → Some (sees_list n) ≡ option_map outcome_view l → Some (sees_int z) ≡ option_map outcome_view x → IsSome (pushed l x)
push_fits l x n z e f = let a = list_here l n e in let b = int_here x z f in rw (a.is, b.is) refl

pub bool_fits : (l x : Option ValueOrError) (n : ℕ) (b : Bool) → Some (sees_list n) ≡ option_map outcome_view l → Some (sees_bool b) ≡ option_map outcome_view x → IsSome (pushed l x)
bool_fits l x n b e f = let a = list_here l n e in let c = bool_here x b f in rw (a.is, c.is) refl

pub list_fits : (l x : Option ValueOrError) (n m : ℕ) → Some (sees_list n) ≡ option_map outcome_view l → Some (sees_list m) ≡ option_map outcome_view x → IsSome (pushed l x)
list_fits l x n m e f = let a = list_here l n e in let b = list_here x m f in rw (a.is, b.is) refl

pub item_fits : (o : Option ValueOrError) (n i : ℕ) → Some (sees_list n) ≡ option_map outcome_view o → i < n → IsSome (part_at o i)
item_fits o n i e f = let a = list_here o n e in rw a.is (some_within (list_of a.items) i (let g = a.count in omega arith))

pub key_fits : (o : Option ValueOrError) (n i : ℕ) → Some (sees_map n) ≡ option_map outcome_view o → i < n → IsSome (key_at o i)
key_fits o n i e f =
    let a = map_here o n e in
    rw a.is (some_mapped kind.text (slice_get (keys_of a.entries) i) (some_within (keys_of a.entries) i (let g = a.count in omega arith)))

pub texts_join : (a b : Option ValueOrError) (s t : List ℕ) → Some (sees_text s) ≡ option_map outcome_view a → Some (sees_text t) ≡ option_map outcome_view b → IsSome (joined a b)
texts_join a b s t e f = let x = text_here a s e in let y = text_here b t f in rw (x.is, y.is) refl

pub lists_join : (a b : Option ValueOrError) (m n : ℕ) → Some (sees_list m) ≡ option_map outcome_view a → Some (sees_list n) ≡ option_map outcome_view b → IsSome (joined a b)
lists_join a b m n e f = let x = list_here a m e in let y = list_here b n f in rw (x.is, y.is) refl

pub find_fits : (o : Option ValueOrError) (n : ℕ) (key : List ℕ) → Some (sees_map n) ≡ option_map outcome_view o → IsSome (find_at o key)
find_fits o n key e = let a = map_here o n e in rw a.is refl

none_found : (o p : Option ℕ) → Some o ≡ Some p → None ≡ o → p ≡ None
none_found o p e f = cc

key_is_free : (es : Entries) (key : List ℕ) → Some None ≡ find_at (Some (value (kind.map es))) key → place_of_key key es ≡ None
key_is_free es key e = none_found None (place_of_key key es) e refl

pub put_fits : (m k x : Option ValueOrError) (n : ℕ) (z : ℤ) (key : List ℕ) → Some (sees_map n) ≡ option_map outcome_view m
    → Some (sees_int z) ≡ option_map outcome_view x → Some key ≡ text_at k → Some None ≡ find_at m key → IsSome (put_in m k x)
put_fits m k x n z key e f t free =
    let a = map_here m n e in
    let b = int_here x z f in
    let p = key_is_free a.entries key (free ∙ ap (λ o. find_at o key) a.is) in
    rw (a.is, b.is, sym t) (some_mapped kind.map (inserted key (kind.int b.number) a.entries) (absent_fits key (kind.int b.number) a.entries p))

-- ---- values that may be compared

pub lists_equal : (a b : Option ValueOrError) (m n : ℕ) → Some (sees_list m) ≡ option_map outcome_view a → Some (sees_list n) ≡ option_map outcome_view b → IsSome (equal_at a b)
lists_equal a b m n e f = let x = list_here a m e in let y = list_here b n f in rw (x.is, y.is) refl

pub list_in_list : (x c : Option ValueOrError) (m n : ℕ) → Some (sees_list m) ≡ option_map outcome_view x → Some (sees_list n) ≡ option_map outcome_view c → IsSome (member_at x c)
list_in_list x c m n e f = let a = list_here x m e in let b = list_here c n f in rw (a.is, b.is) refl
