-- Lengths of the JSON texts of lists and maps, from those of their parts, over plain variables.
use Rattle.value_store.proofs.Prelude.{◌≡◌, ◌≤◌, ℕ, ◌+◌, ◌-◌, ◌^◌, List, ◌∷◌, ◌++◌, length, max, true, arith, length-append, json_text, entries_text, plain_value, plain_items, plain_entries, saturated}
use Rattle.json.specs.Print.{quoted}
use Rattle.serde_json.specs.Data as json
use Rattle.value_store.specs.Json.{items_text}

-- the bytes of items, each with the bracket or the comma before it
abbrev pub items_long : json.Items → ℕ
items_long json.no_items = 0
items_long (json.item d ds) = 1 + length (json_text (plain_value d)) + items_long ds

-- the bytes of members, each with the brace or the comma before it
abbrev pub members_long : json.Members → ℕ
members_long json.no_members = 0
members_long (json.member k d ms) = length (quoted k) + 2 + length (json_text (plain_value d)) + members_long ms

items_behind : (ds : json.Items) → length (items_text true (plain_items ds)) ≡ 1 + items_long ds
items_behind json.no_items = omega arith
items_behind (json.item d ds) = let l = length-append (json_text (plain_value d)) (items_text true (plain_items ds)) in omega (arith, l, items_behind ds)

pub list_long : (ds : json.Items) → length (json_text (plain_value (json.array ds))) ≡ max (1 + items_long ds) 2
list_long json.no_items = omega arith
list_long (json.item d ds) = let l = length-append (json_text (plain_value d)) (items_text true (plain_items ds)) in omega (arith, l, items_behind ds)

entry_long : (k text rest : List ℕ) → length (quoted k ++ (58 ∷ (text ++ rest))) ≡ length (quoted k) + 1 + length text + length rest
entry_long k text rest = omega (arith, length-append (quoted k) (58 ∷ (text ++ rest)), length-append text rest)

members_behind : (ms : json.Members) → length (entries_text true (plain_entries ms)) ≡ 1 + members_long ms
members_behind json.no_members = omega arith
members_behind (json.member k d ms) =
    let l = entry_long k (json_text (plain_value d)) (entries_text true (plain_entries ms)) in omega (arith, l, members_behind ms)

pub map_long : (ms : json.Members) → length (json_text (plain_value (json.object ms))) ≡ max (1 + members_long ms) 2
map_long json.no_members = omega arith
map_long (json.member k d ms) =
    let l = entry_long k (json_text (plain_value d)) (entries_text true (plain_entries ms)) in omega (arith, l, members_behind ms)

-- n bytes are counted of a text, and `rest` bytes of `all` are left
pub record Counts (all rest n : ℕ) : Type 0 where
  pub counted : saturated (n + rest) ≡ saturated (1 + all)
  pub fits : n ≤ 2 ^ 64 - 1

pub one_item : (all n p q : ℕ) (d : json.Data) (ds : json.Items) → Counts all (items_long (json.item d ds)) n → p ≡ saturated (length (json_text (plain_value d)))
    → q ≡ saturated (saturated (n + 1) + p) → Counts all (items_long ds) q
one_item all n p q d ds go e f = record { counted = omega (arith, go.counted, go.fits, e, f); fits = omega (arith, f) }

pub one_member : (all n i p q : ℕ) (k : List ℕ) (d : json.Data) (ms : json.Members) → Counts all (members_long (json.member k d ms)) n → i ≡ saturated (length (quoted k))
    → p ≡ saturated (length (json_text (plain_value d))) → q ≡ saturated (saturated (saturated (n + i) + 2) + p) → Counts all (members_long ms) q
one_member all n i p q k d ms go e f g = record { counted = omega (arith, go.counted, go.fits, e, f, g); fits = omega (arith, g) }

pub all_items : (ds : json.Items) (n : ℕ) → Counts (items_long ds) 0 n → max n 2 ≡ saturated (length (json_text (plain_value (json.array ds))))
all_items ds n go = omega (arith, go.counted, go.fits, list_long ds)

pub all_members : (ms : json.Members) (n : ℕ) → Counts (members_long ms) 0 n → max n 2 ≡ saturated (length (json_text (plain_value (json.object ms))))
all_members ms n go = omega (arith, go.counted, go.fits, map_long ms)
