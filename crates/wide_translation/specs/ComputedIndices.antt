-- Indices that are computed.
use Rattle.std.specs.Prelude.{pos, Bool, true, false, ◌&&◌, codes, if◌then◌else◌}
use Rattle.cel_reader.specs.Tree as tree
use Rattle.cel_reader.specs.Tree.{Tree}
use Rattle.cel_reader.specs.declared.operator.BinaryOperator.{TheVariants.Add, TheVariants.Equal, TheVariants.NotEqual}
use Rattle.cel_reader.specs.declared.operator.BinaryOperator.{TheVariants.Less, TheVariants.LessEqual, TheVariants.In}
use Rattle.wide_kinds.specs.declared.kind.ValueKind.{ValueKind}
use Rattle.wide_kinds.specs.declared.kind.ValueKind.TheVariants as kind
use Rattle.wide_translation.specs.Carried.{Carried, plain, guarded, listed}
use Rattle.wide_translation.specs.Forms.{empty_tree, call_tree, let_tree, held, has_tree, guarded_tree, flat_tree, is_simple}
use Rattle.wide_translation.specs.Lists.{second}
use Rattle.wide_translation.specs.Names.{held_name, second_name}
use Rattle.wide_translation.specs.Pairs.{is_list_tree}
use Rattle.wide_translation.specs.Parts.{once}

-- ---- whether there is an item or an entry

-- whether the list a has an item k: k < size(a) ? 0 <= k : false
abbrev pub inside_tree : Tree → Tree → Tree
inside_tree a k =
    tree.ternary (tree.binary Less k (call_tree (codes "size") a)) (tree.binary LessEqual (tree.literal (tree.int (pos 0))) k)
    (tree.literal (tree.truth false))

-- whether the map a has a key k: k in a
abbrev pub key_in_tree : Tree → Tree → Tree
key_in_tree a k = tree.binary In k a

-- the same; the error if a is no map, as `has(a.a)` is
abbrev pub map_key_tree : Tree → Tree → Tree
map_key_tree a k = tree.ternary (has_tree a (codes "a")) (key_in_tree a k) (key_in_tree a k)

-- whether the list or map a has an item or entry k
abbrev pub any_key_tree : Tree → Tree → Tree
any_key_tree a k = tree.ternary (is_list_tree a) (inside_tree a k) (key_in_tree a k)

-- whether a, which is no null, has an item or entry k of this kind
abbrev pub found_tree : ValueKind → Tree → Tree → Tree
found_tree kind.String a k = map_key_tree a k
found_tree kind.Int a k = inside_tree (tree.binary Add a empty_tree) k
found_tree j a k = any_key_tree a k

-- whether an int literal
abbrev pub is_int_literal : Tree → Bool
is_int_literal (tree.literal (tree.int z)) = true
is_int_literal _ = false

-- false, which null has of an index; the error unless k is an int or a text: string(k) != string(k)
abbrev pub no_key_tree : Tree → Tree
no_key_tree k =
    if is_int_literal k then tree.literal (tree.truth false)
    else tree.binary NotEqual (call_tree (codes "string") k) (call_tree (codes "string") k)

-- whether a value of the first kind has an item or entry k of the second. It is the error whenever a or k is
abbrev pub present_key_tree : ValueKind → ValueKind → Tree → Tree → Tree
present_key_tree kind.Map j a k = key_in_tree a k
present_key_tree kind.List j a k = inside_tree a k
present_key_tree i j a k = tree.ternary (tree.binary Equal a (tree.literal tree.null)) (no_key_tree k) (found_tree j a k)

-- ---- the item or entry

-- [a[k]], or [] if a has no k
abbrev pub key_list_tree : ValueKind → ValueKind → Tree → Tree → Tree
key_list_tree i j a k = guarded_tree (present_key_tree i j a k) (tree.index a k)

-- the same with k written once, if it is not simple
abbrev pub key_once_tree : ValueKind → ValueKind → Tree → Tree → Tree
key_once_tree i j a k =
    if is_simple k then key_list_tree i j a k else let_tree second_name k (key_list_tree i j a second)

-- the item or entry of a value as an optional value: written twice if both operands are simple
abbrev pub optional_key : Bool → ValueKind → ValueKind → Tree → Tree → Carried
optional_key true i j a k = guarded kind.Dyn (present_key_tree i j a k) (tree.index a k)
optional_key false i j a k = listed kind.Dyn (once a (λ x. key_once_tree i j x k))

-- the item or entry of the value of an optional value; k is evaluated only if it has one
abbrev pub key_of_list : ValueKind → ValueKind → Tree → Tree → Carried
key_of_list i j l k = listed kind.Dyn (flat_tree held_name l (key_once_tree i j held k))

-- `[?k]` of an operand, for an index of this kind
abbrev pub key_carried : Carried → ValueKind → Tree → Carried
key_carried (plain i a) j k = optional_key (is_simple a && is_simple k) i j a k
key_carried (guarded i g v) j k = key_of_list i j (guarded_tree g v) k
key_carried (listed i l) j k = key_of_list i j l k
