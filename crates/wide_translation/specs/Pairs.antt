-- Macros with two iteration names.
use Rattle.std.specs.Prelude.{ℕ, Bool, true, false, List, length, Option, Some, None, codes}
use Rattle.cel_reader.specs.Tree as tree
use Rattle.cel_reader.specs.Tree.{Tree, no_trees, more_trees}
use Rattle.cel_reader.specs.declared.operator.BinaryOperator.{TheVariants.Equal, TheVariants.Less}
use Rattle.cel_macros.specs.declared.macros.Macro.{Macro as PlainMacro}
use Rattle.cel_macros.specs.declared.macros.Macro.TheVariants as plain_macro
use Rattle.wide_reader.specs.declared.wide.PairMacro.{PairMacro}
use Rattle.wide_reader.specs.declared.wide.PairMacro.TheVariants as pair
use Rattle.wide_kinds.specs.declared.kind.ValueKind.{ValueKind}
use Rattle.wide_kinds.specs.declared.kind.ValueKind.TheVariants as kind
use Rattle.wide_translation.specs.Carried.{plain, NeedsIndices, Translation, taken, refused}
use Rattle.wide_translation.specs.Forms.{call_tree, macro_tree, filter_map_tree}
use Rattle.wide_translation.specs.Names.{index_name, pair_name, params_name, tables_field, indices_field, written_name}
use Rattle.wide_translation.specs.Parts.{with_plain, once}
use Rattle.wide_translation.specs.Scope.{WideScope, Place, itself, part, unused, enclosed}

-- ---- the names

-- which of the two names an expression uses: the second or none; the first alone; both
pub data PairUse : Type 0 where
  values_only : PairUse
  keys_only : PairUse
  both : PairUse

-- by whether the first and the second are used
abbrev pub pair_use : Bool → Bool → PairUse
pair_use false v = values_only
pair_use true false = keys_only
pair_use true true = both

-- the second name, the first, or that of the pair
abbrev pub chosen_name : PairUse → List ℕ → List ℕ → List ℕ → List ℕ
chosen_name values_only k v y = v
chosen_name keys_only k v y = k
chosen_name both k v y = y

-- the iteration name of the macro that the translation writes
abbrev pub pair_binder : PairUse → List ℕ → List ℕ → WideScope → List ℕ
pair_binder u k v s = chosen_name u (written_name k) (written_name v) (pair_name (length s.names))

-- what the first name is written as, and the second; y is the name of the pair, a list of two items
abbrev pub key_place : PairUse → List ℕ → Place
key_place values_only y = unused
key_place keys_only y = itself kind.Dyn
key_place both y = part y 0

abbrev pub value_place : PairUse → List ℕ → Place
value_place values_only y = itself kind.Dyn
value_place keys_only y = unused
value_place both y = part y 1

-- the scope inside a macro with the iteration names k and v
abbrev pub within_pair : PairUse → List ℕ → List ℕ → WideScope → WideScope
within_pair u k v s = let y : List ℕ = pair_name (length s.names) in enclosed v (value_place u y) (enclosed k (key_place u y) s)

-- ---- the range

-- an index or a key
abbrev pub here : Tree
here = tree.name index_name

-- a[i]
abbrev pub at_tree : Tree → Tree
at_tree a = tree.index a here

-- the values of the map a: a.map(i, a[i])
abbrev pub values_tree : Tree → Tree
values_tree a = macro_tree plain_macro.Map index_name a (at_tree a)

-- an index or key of a and what a has there: [i, a[i]]
abbrev pub pair_tree : Tree → Tree
pair_tree a = tree.list (more_trees here (more_trees (at_tree a) no_trees))

-- the keys of the map a, each with its value: a.map(i, [i, a[i]])
abbrev pub pairs_tree : Tree → Tree
pairs_tree a = macro_tree plain_macro.Map index_name a (pair_tree a)

-- whether a is a list, of a list and a map: a.map(i, i) == a
abbrev pub is_list_tree : Tree → Tree
is_list_tree a = tree.binary Equal (macro_tree plain_macro.Map index_name a here) a

-- the items of a list, or the values of a map
abbrev pub items_tree : Tree → Tree
items_tree a = tree.ternary (is_list_tree a) a (values_tree a)

abbrev pub is_map_kind : ValueKind → Bool
is_map_kind kind.Map = true
is_map_kind _ = false

-- the table of the ints 0, 1, ..: params.t.n
abbrev pub table_tree : Tree
table_tree = tree.select (tree.select (tree.name params_name) tables_field) indices_field

-- the indices of the list a: params.t.n.filter(i, i < size(a))
abbrev pub indices_tree : Tree → Tree
indices_tree a = macro_tree plain_macro.Filter index_name table_tree (tree.binary Less here (call_tree (codes "size") a))

-- the indices of a list, or the keys of a map
abbrev pub keys_tree : Tree → Tree
keys_tree a = tree.ternary (is_list_tree a) (indices_tree a) a

-- the same, each with its item or value
abbrev pub any_pairs_tree : Tree → Tree
any_pairs_tree a = tree.ternary (is_list_tree a) (macro_tree plain_macro.Map index_name (indices_tree a) (pair_tree a)) (pairs_tree a)

-- the range for a map, and that for a list or a map
abbrev pub map_range_tree : PairUse → Tree → Tree
map_range_tree values_only a = values_tree a
map_range_tree keys_only a = a
map_range_tree both a = pairs_tree a

abbrev pub any_range_tree : PairUse → Tree → Tree
any_range_tree values_only a = items_tree a
any_range_tree keys_only a = keys_tree a
any_range_tree both a = any_pairs_tree a

-- the range for an operand that is known to be a map, or for any
abbrev pub range_tree : PairUse → Bool → Tree → Tree
range_tree keys_only true a = a
range_tree u true a = once a (map_range_tree u)
range_tree u false a = once a (any_range_tree u)

-- The range of the macro that the translation writes, with or without tables, for an operand that is known to be a map,
-- or for any. Without a table no expression has the indices of a list
abbrev pub pair_range : Bool → PairUse → Bool → Tree → Option Tree
pair_range w u true a = Some (range_tree u true a)
pair_range w values_only false a = Some (range_tree values_only false a)
pair_range true u false a = Some (range_tree u false a)
pair_range false u false a = None

-- what follows from a range
abbrev pub with_range : Option Tree → (Tree → Translation) → Translation
with_range (Some r) f = f r
with_range None f = refused NeedsIndices

-- ---- the macro

-- the macro with one name, and the kind of its result
abbrev pub one_name : PairMacro → PlainMacro
one_name pair.All = plain_macro.All
one_name pair.Exists = plain_macro.Exists
one_name pair.ExistsOne = plain_macro.ExistsOne
one_name pair.TransformList = plain_macro.Map

abbrev pub pair_kind : PairMacro → ValueKind
pair_kind pair.All = kind.Bool
pair_kind pair.Exists = kind.Bool
pair_kind pair.ExistsOne = kind.Bool
pair_kind pair.TransformList = kind.List

-- A macro with the iteration name y, from the translations of its range and its part. Whether there are tables is the
-- first argument
abbrev pub pair_translation : Bool → PairMacro → PairUse → List ℕ → Translation → Translation → Translation
pair_translation b m u y t w =
    with_plain t (λ k a. with_range (pair_range b u (is_map_kind k) a)
    (λ r. with_plain w (λ j c. taken (plain (pair_kind m) (macro_tree (one_name m) y r c)))))

-- `transformList` with a predicate
abbrev pub pair_filter_translation : Bool → PairUse → List ℕ → Translation → Translation → Translation → Translation
pair_filter_translation b u y t w z =
    with_plain t (λ k a. with_range (pair_range b u (is_map_kind k) a)
    (λ r. with_plain w (λ j c. with_plain z (λ i d. taken (plain kind.List (filter_map_tree y r c d))))))
