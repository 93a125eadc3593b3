-- The keys of an object are in order, since a `BTreeMap` keeps them so.
use Rattle.value_store.proofs.Prelude.{◌≡◌, List, [], ◌∷◌, String, Global, string_cmp, string_bytes, nat_cmp, Less, slice_cmp, AllByRecursion, members_view, Entry, Ascend, member_keys}
use Rattle.std.specs.List.Sorted.{IsStrictlySortedBy}
use Rattle.std.specs.Map.{keys_of}

all_above : (k : String Global) (ms : List Entry) → AllByRecursion (λ l. string_cmp k l ≡ Less) (keys_of ms)
    → AllByRecursion (λ l. slice_cmp nat_cmp (string_bytes k) l ≡ Less) (member_keys (members_view ms))
all_above k [] h = tt
all_above k (m ∷ ms) h = (h.0, all_above k ms h.1)

pub members_ascend : (ms : List Entry) → IsStrictlySortedBy string_cmp (keys_of ms) → Ascend (member_keys (members_view ms))
unfolding IsStrictlySortedBy
members_ascend [] h = tt
members_ascend (m ∷ ms) h = (all_above m.0 ms h.0, members_ascend ms h.1)
