-- The values of a review's five roots: object, oldObject, params, namespaceObject and request.
use Rattle.std.specs.Prelude.{◌≡◌, ℕ, suc, ◌+◌, ◌||◌, Bool, true, false, List, [], ◌∷◌, ◌++◌, map, Option, Some, None, Result, Ok, Err}
use Rattle.std.specs.Prelude.{IsOk, if◌then◌else◌, nat_le, ◌^◌, option_map, option_and_then}
use Rattle.serde_json.specs.Data as json
use Rattle.serde_json.specs.Find.{as_i64}
use Rattle.value_store.specs.Value as kind
use Rattle.value_store.specs.Value.{Value, value}
use Rattle.value_store.specs.Size.{size_of}
use Rattle.value_store.specs.Placing.{Contents, first_values, charge_limit}
use Rattle.value_store.specs.declared.table_error.TableError.{TableError, TheVariants.NotAnObject, TheVariants.NumberOutOfInt64, TheVariants.RootsTooLarge, TheVariants.Memory}

abbrev mutual
  -- the value of a JSON document, with the members of its objects in the given order; None
  -- if a number is not a signed 64-bit integer
  pub value_of : json.Data → Option Value
  value_of json.null = Some kind.null
  value_of (json.boolean b) = Some (kind.boolean b)
  value_of (json.number n) = option_map kind.int (as_i64 n)
  value_of (json.string s) = Some (kind.text s)
  value_of (json.array ds) = option_map kind.list (items_value ds)
  value_of (json.object ms) = option_map kind.map (members_value ms)

  -- the items of an array's elements, if each has a value
  pub items_value : json.Items → Option kind.Items
  items_value json.no_items = Some kind.no_items
  items_value (json.item d ds) = option_and_then (λ v. option_map (kind.item v) (items_value ds)) (value_of d)

  -- the entries of an object's members, if each has a value
  pub members_value : json.Members → Option kind.Entries
  members_value json.no_members = Some kind.no_entries
  members_value (json.member k d ms) = option_and_then (λ v. option_map (kind.entry k v) (members_value ms)) (value_of d)

-- whether a document may be a root: an object or null
abbrev pub is_root : json.Data → Bool
is_root json.null = true
is_root (json.object ms) = true
is_root _ = false

-- the value of the root at a reference; without one the root is refused for a number
abbrev pub root_value : ℕ → Option Value → Result Value TableError
root_value place (Some v) = Ok v
root_value place None = Err (NumberOutOfInt64 place)

-- the value of the root at a reference; refused if it is neither an object nor null, or for a number
abbrev pub root_of : ℕ → json.Data → Result Value TableError
root_of place d = if is_root d then root_value place (value_of d) else Err (NotAnObject place)

-- a value prepended to the values after it, or their error
abbrev pub before : Value → Result (List Value) TableError → Result (List Value) TableError
before v (Ok vs) = Ok (v ∷ vs)
before v (Err e) = Err e

-- a root's value prepended to the values after it, or the first error
abbrev pub root_then : Result Value TableError → Result (List Value) TableError → Result (List Value) TableError
root_then (Ok v) rest = before v rest
root_then (Err e) rest = Err e

-- the values of the roots from a reference on, or the error of the first invalid root
abbrev pub roots_of : ℕ → List json.Data → Result (List Value) TableError
roots_of place [] = Ok []
roots_of place (d ∷ ds) = root_then (root_of place d) (roots_of (suc place) ds)

-- the sum of the values' sizes
abbrev pub sizes : List Value → ℕ
sizes [] = 0
sizes (v ∷ vs) = size_of v + sizes vs

-- the contents of a store with the values after the first four, charged with their
-- sizes, or the error if these exceed the limit
abbrev pub within_limit : List Value → Result Contents TableError
within_limit vs =
    if nat_le (sizes vs) charge_limit then Ok (record { values = first_values ++ map value vs; charge = sizes vs })
    else Err RootsTooLarge

-- the contents of a store with the roots' values, or their error
abbrev pub contents_of : Result (List Value) TableError → Result Contents TableError
contents_of (Ok vs) = within_limit vs
contents_of (Err e) = Err e

-- the contents at the start, charged with the sizes of the roots, or the first error
abbrev pub start_contents : List json.Data → Result Contents TableError
start_contents roots = contents_of (roots_of 4 roots)

-- a number that is not an integer from -2^63 to 2^63 - 1; `-0` is a float to `serde_json`
abbrev pub is_other : json.Num → Bool
is_other (json.unsigned n) = nat_le (2 ^ 63) n
is_other (json.negative z) = false
is_other (json.float x) = true

abbrev mutual
  -- whether a document contains such a number
  pub has_other : json.Data → Bool
  has_other json.null = false
  has_other (json.boolean b) = false
  has_other (json.number n) = is_other n
  has_other (json.string s) = false
  has_other (json.array ds) = items_have_other ds
  has_other (json.object ms) = members_have_other ms

  -- whether an array's elements contain such a number
  pub items_have_other : json.Items → Bool
  items_have_other json.no_items = false
  items_have_other (json.item d ds) = has_other d || items_have_other ds

  -- whether the values of an object's members contain such a number
  pub members_have_other : json.Members → Bool
  members_have_other json.no_members = false
  members_have_other (json.member k d ms) = has_other d || members_have_other ms

-- the result of a call that makes a store of five roots: the store, the error that is due, or
-- an allocation failure when a store is due
abbrev pub StoreStarts : {S : Type 0} → (S → Contents) → Result Contents TableError → Result S TableError → Type 0
StoreStarts contents due (Ok store) = due ≡ Ok (contents store)
StoreStarts contents due (Err (NotAnObject place)) = due ≡ Err (NotAnObject place)
StoreStarts contents due (Err (NumberOutOfInt64 place)) = due ≡ Err (NumberOutOfInt64 place)
StoreStarts contents due (Err RootsTooLarge) = due ≡ Err RootsTooLarge
StoreStarts contents due (Err Memory) = IsOk due
