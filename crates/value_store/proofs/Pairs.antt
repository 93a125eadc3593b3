-- Two lists, or two maps, part by part.
use Rattle.value_store.proofs.Prelude.{◌≡◌, ◌≢◌, List, [], ◌∷◌, length, Bool, false, refl, arith, items_view, members_view, Entry, items_equal, entries_equal, plain_items, plain_entries}
use Rattle.serde_json.specs.declared.value.Value as document

abbrev pub same_items_of : List document.Value → List document.Value → Bool
same_items_of xs ys = items_equal (plain_items (items_view xs)) (plain_items (items_view ys))

abbrev pub same_members_of : List Entry → List Entry → Bool
same_members_of xs ys = entries_equal (plain_entries (members_view xs)) (plain_entries (members_view ys))

pub other_length : (xs ys : List document.Value) → (length xs ≢ length ys) → same_items_of xs ys ≡ false
other_length [] [] n = absurd (n refl)
other_length (x ∷ xs) (y ∷ ys) n = grind (arith, other_length xs ys)
other_length _ _ n = refl
