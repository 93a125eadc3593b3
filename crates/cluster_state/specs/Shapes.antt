-- What the items of a state show of the kinds of params.
use Rattle.std.specs.Prelude.{◌≡◌, ◌==◌, ◌&&◌, ◌||◌, ℕ, Bool, false, not, List, length, map, Option, Some, None, bytes_eq, is_some}
use Rattle.std.specs.BTreeMap.{BTreeMap, get_by}
use Rattle.std.specs.Borrow.{Bor}
use Rattle.std.specs.Cmp.Lexicographic.{slice_cmp}
use Rattle.std.specs.List.{list_any}
use Rattle.std.specs.Ordering.{nat_cmp, ordering_then}
use Rattle.std.specs.declared.cmp.Ordering.{Ordering}
use Rattle.cluster_state.specs.Items.{Item, group_in, item_view}
use Rattle.cluster_state.specs.Policies.{ParamKind}
use Rattle.cluster_state.specs.declared.item.Item.{Item as CodeItem}
use Rattle.cluster_state.specs.declared.shape.Shape.{Shape}

-- what the items of each group and kind show
abbrev pub Shapes : Type 0
Shapes = BTreeMap (Bor (List ℕ) × Bor (List ℕ)) Shape

-- how a group and a kind compare with those of the code
abbrev pub shape_cmp : List ℕ → List ℕ → Bor (List ℕ) × Bor (List ℕ) → Ordering
shape_cmp group kind p = ordering_then (slice_cmp nat_cmp group p.0.now) (slice_cmp nat_cmp kind p.1.now)

-- what is kept for the group and name of a kind
abbrev pub shape_of : Shapes → ParamKind → Option Shape
shape_of m k = get_by (shape_cmp (group_in k.api_version) k.kind) m

-- an item has another version than the kind
abbrev pub differs_from : ParamKind → Option Shape → Bool
differs_from k (Some s) = s.differs || not (bytes_eq s.api_version.now k.api_version)
differs_from k None = false

-- an item is in a namespace
abbrev pub is_spaced : Option Shape → Bool
is_spaced (Some s) = s.is_namespaced
is_spaced None = false

-- ---- the tests of an item. Those of `Params` are the same; that file needs the state, which holds what is kept here

abbrev pub is_item_of : ParamKind → Item → Bool
is_item_of k i = bytes_eq i.collection.api_version k.api_version && bytes_eq i.collection.kind k.kind

abbrev pub is_item_in_namespace : ParamKind → Item → Bool
is_item_in_namespace k i = is_item_of k i && not (length i.collection.namespace == 0)

abbrev pub is_item_of_other_version : ParamKind → Item → Bool
is_item_of_other_version k i =
    bytes_eq (group_in i.collection.api_version) (group_in k.api_version) && bytes_eq i.collection.kind k.kind
    && not (bytes_eq i.collection.api_version k.api_version)

-- what items show of a kind: whether one has another version, and if none has, whether there is one and whether one is
-- in a namespace
abbrev pub Shows : ParamKind → List Item → Option Shape → Type 0
Shows k is s =
    (list_any (is_item_of_other_version k) is ≡ differs_from k s)
    × (differs_from k s ≡ false → list_any (is_item_of k) is ≡ is_some s)
    × (differs_from k s ≡ false → list_any (is_item_in_namespace k) is ≡ is_spaced s)

-- what is kept is what these items show
abbrev pub ShowAll : Shapes → List CodeItem → Type 0
ShowAll m is = (k : ParamKind) → Shows k (map item_view is) (shape_of m k)

-- ---- one more item

-- the item is of the group and name of the kind
abbrev pub is_of_group : ParamKind → CodeItem → Bool
is_of_group k i = bytes_eq (group_in i.api_version.now) (group_in k.api_version) && bytes_eq i.kind.now k.kind

-- what is kept with an item
abbrev pub shape_with : Option Shape → CodeItem → Shape
shape_with (Some s) i = record {
  api_version = i.api_version;
  differs = s.differs || not (bytes_eq s.api_version.now i.api_version.now);
  is_namespaced = s.is_namespaced || not (length i.namespace.now == 0);
}
shape_with None i = record { api_version = i.api_version; differs = false; is_namespaced = not (length i.namespace.now == 0) }
