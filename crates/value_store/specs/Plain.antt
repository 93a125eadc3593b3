-- The values of documents as the plain table keeps them, one by one.
use Rattle.std.specs.Prelude.{ℕ, zero, suc, pos, true, false, option_map, ◌-◌, ◌^◌, min, max, Bool, List, [], ◌∷◌, Option, Some, None}
use Rattle.std.specs.Prelude.{Result, Ok, Err, unwrap_or, if◌then◌else◌}
use Rattle.serde_json.specs.Data as json
use Rattle.serde_json.specs.Find.{as_i64, get_item}
use Rattle.value_store.specs.Value as kind
use Rattle.value_store.specs.Value.{Value, ValueOrError, error, value}
use Rattle.value_store.specs.Size.{size_of, depth_of, result_depth}
use Rattle.value_store.specs.Placing.{Contents}
use Rattle.value_store.specs.declared.table_error.TableError.{TableError}
use Rattle.value_store.specs.Roots.{has_other}
use Rattle.value_store.specs.declared.measure.Measure.{Measure}

abbrev mutual
  -- the value of a document whose numbers are signed 64-bit integers
  pub plain_value : json.Data → Value
  plain_value json.null = kind.null
  plain_value (json.boolean b) = kind.boolean b
  plain_value (json.number n) = kind.int (unwrap_or (as_i64 n) (pos 0))
  plain_value (json.string s) = kind.text s
  plain_value (json.array ds) = kind.list (plain_items ds)
  plain_value (json.object ms) = kind.map (plain_entries ms)

  -- the items of an array's elements
  pub plain_items : json.Items → kind.Items
  plain_items json.no_items = kind.no_items
  plain_items (json.item d ds) = kind.item (plain_value d) (plain_items ds)

  -- the entries of an object's members
  pub plain_entries : json.Members → kind.Entries
  plain_entries json.no_members = kind.no_entries
  plain_entries (json.member k d ms) = kind.entry k (plain_value d) (plain_entries ms)

-- a number, at most the greatest of 64 bits
abbrev pub saturated : ℕ → ℕ
saturated n = min n (2 ^ 64 - 1)

-- the size and the depth of a document's value, if it has one
unfoldable pub measure_of : json.Data → Option Measure
measure_of d =
    if has_other d then None else Some (record { size = saturated (size_of (plain_value d)); depth = saturated (depth_of (plain_value d)) })

-- the depth of the deepest value
abbrev pub deepest : List ValueOrError → ℕ
deepest [] = 0
deepest (v ∷ vs) = max (result_depth v) (deepest vs)

-- the member at a position in byte order of the keys
abbrev pub nth_member : ℕ → json.Members → Option (List ℕ × json.Data)
nth_member n json.no_members = None
nth_member zero (json.member k d ms) = Some (k, d)
nth_member (suc n) (json.member k d ms) = nth_member n ms

-- the item of an array, or the value of an object's member, at a position
abbrev pub part_of : ℕ → json.Data → Option json.Data
part_of i (json.array ds) = get_item i ds
part_of i (json.object ms) = option_map (λ m. m.1) (nth_member i ms)
part_of i _ = None

-- whether a list begins with the error, null, false and true
abbrev pub has_first_values : List ValueOrError → Bool
has_first_values (error ∷ value kind.null ∷ value (kind.boolean false) ∷ value (kind.boolean true) ∷ more) = true
has_first_values _ = false

-- the fixed reference of null, false and true
abbrev pub own_place : Value → Option ℕ
own_place kind.null = Some 1
own_place (kind.boolean false) = Some 2
own_place (kind.boolean true) = Some 3
own_place _ = None

-- the size of a root, at most the greatest number of 64 bits, or its error
abbrev pub size_in : Result Value TableError → Result ℕ TableError
size_in (Ok v) = Ok (saturated (size_of v))
size_in (Err e) = Err e

-- the charge at the start, or the error
abbrev pub charge_in : Result Contents TableError → Result ℕ TableError
charge_in (Ok contents) = Ok contents.charge
charge_in (Err e) = Err e
