-- Documents that are built from others, and their values.
use Rattle.value_store.proofs.Prelude.{◌≡◌, ℕ, ◌+◌, List, [], ◌∷◌, ◌++◌, false, Option, Some, Vec, BTreeMap, Global, String, refl, arith, map-append, IsSome, max, option_and_then, view, items_view, members_view, items_of, view-Array, view-Object, items_push, items_join, depth_of, items_depth, entries_depth, inserted, push_of, join_of, put_of, entries_part, has_other, items_have_other, members_have_other, plain_value, plain_items, plain_entries}
use Rattle.serde_json.specs.Data as json
use Rattle.serde_json.specs.declared.value.Value as document
use Rattle.value_store.specs.Value as kind
use Rattle.value_store.specs.Nodes.{tree_value}
use Rattle.value_store.specs.declared.tree.Tree.{Tree}

-- a document is whole, has this depth and has the value that is due
pub record Gives (d : json.Data) (depth : ℕ) (due : Option kind.Value) : Type 0 where
  pub whole : has_other d ≡ false
  pub deep : depth ≡ depth_of (plain_value d)
  pub value : Some (plain_value d) ≡ due

-- the concatenation of two sequences of elements
abbrev joined : json.Items → json.Items → json.Items
joined json.no_items es = es
joined (json.item d ds) es = json.item d (joined ds es)

items_of-append : (ds es : List json.Data) → items_of (ds ++ es) ≡ joined (items_of ds) (items_of es)
items_of-append [] es = refl
items_of-append (d ∷ ds) es = grind (arith, items_of-append ds es)

items_view-append : (xs ys : List document.Value) → items_view (xs ++ ys) ≡ joined (items_view xs) (items_view ys)
items_view-append xs ys = grind (arith, map-append, items_of-append)

joined_whole : (ds es : json.Items) → items_have_other ds ≡ false → items_have_other es ≡ false → items_have_other (joined ds es) ≡ false
joined_whole json.no_items es e f = f
joined_whole (json.item d ds) es e f = grind (arith, joined_whole ds es)

joined_value : (ds es : json.Items) → plain_items (joined ds es) ≡ items_join (plain_items ds) (plain_items es)
joined_value json.no_items es = refl
joined_value (json.item d ds) es = grind (arith, joined_value ds es)

join_push : (is : kind.Items) (v : kind.Value) → items_join is (kind.item v kind.no_items) ≡ items_push is v
join_push kind.no_items v = refl
join_push (kind.item w is) v = grind (arith, join_push is v)

-- the depth of a list with one more item
pub push_depth : (is : kind.Items) (v : kind.Value) → items_depth (items_push is v) ≡ max (items_depth is) (depth_of v)
push_depth kind.no_items v = omega arith
push_depth (kind.item w is) v = grind (arith, push_depth is v)

-- the depth of a concatenation of two lists
pub join_depth : (is js : kind.Items) → items_depth (items_join is js) ≡ max (items_depth is) (items_depth js)
join_depth kind.no_items js = omega arith
join_depth (kind.item v is) js = grind (arith, join_depth is js)

pub join_lists : (v w u : Vec document.Value Global) (a b : Tree) → view (document.Array v) ≡ view a.document → view (document.Array w) ≡ view b.document
    → u.items ≡ v.items ++ w.items → Gives (view (document.Array u)) (max a.depth b.depth) (join_of (tree_value a) (tree_value b))
join_lists v w u a b first second is =
    let whole1 = a.whole in
    let whole2 = b.whole in
    let deep1 = a.deep in
    let deep2 = b.deep in
    grind (arith, view-Array, items_view-append, joined_whole, join_depth, joined_value)

pub push_list : (v u : Vec document.Value Global) (x : document.Value) (a b : Tree) → view (document.Array v) ≡ view a.document → view x ≡ view b.document
    → u.items ≡ v.items ++ x ∷ [] → Gives (view (document.Array u)) (max a.depth (b.depth + 1)) (push_of (tree_value a) (tree_value b))
push_list v u x a b first second is =
    let whole1 = a.whole in
    let whole2 = b.whole in
    let deep1 = a.deep in
    let deep2 = b.deep in
    grind (arith, view-Array, items_view-append, joined_whole, join_depth, joined_value, join_push)

put_value : (k : List ℕ) (d : json.Data) (ms : json.Members) → IsSome (inserted k (plain_value d) (plain_entries ms))
    → Some (plain_entries (json.put k d ms)) ≡ inserted k (plain_value d) (plain_entries ms)
put_value k d json.no_members there = refl
put_value k d (json.member l e ms) there = grind (arith, put_value k d ms)

put_whole : (k : List ℕ) (d : json.Data) (ms : json.Members) → has_other d ≡ false → members_have_other ms ≡ false → members_have_other (json.put k d ms) ≡ false
put_whole k d json.no_members a b = grind arith
put_whole k d (json.member l e ms) a b = grind (arith, put_whole k d ms)

put_depth : (k : List ℕ) (d : json.Data) (ms : json.Members) → IsSome (inserted k (plain_value d) (plain_entries ms))
    → entries_depth (plain_entries (json.put k d ms)) ≡ max (depth_of (plain_value d)) (entries_depth (plain_entries ms))
put_depth k d json.no_members there = refl
put_depth k d (json.member l e ms) there = grind (arith, put_depth k d ms)

abbrev pub put_at : List ℕ → kind.Value → kind.Value → Option kind.Value
put_at key x m = option_and_then (λ es. put_of es key x) (entries_part m)

pub put_map : (v u : BTreeMap (String Global) document.Value) (key : List ℕ) (x : document.Value) (a b : Tree) → view (document.Object v) ≡ view a.document
    → view x ≡ view b.document → members_view u.entries ≡ json.put key (view x) (members_view v.entries) → IsSome (put_at key (tree_value b) (tree_value a))
    → Gives (view (document.Object u)) (max a.depth (b.depth + 1)) (put_at key (tree_value b) (tree_value a))
put_map v u key x a b first second is there =
    let whole1 = a.whole in
    let whole2 = b.whole in
    let deep1 = a.deep in
    let deep2 = b.deep in
    grind (arith, view-Object, put_depth, put_whole, put_value)
