-- Methods of lists that use the table of indices.
use Rattle.std.specs.Prelude.{ℕ, pos, negsuc, Bool, true, false, List, [], ◌∷◌, codes, if◌then◌else◌}
use Rattle.cel_reader.specs.Tree as tree
use Rattle.cel_reader.specs.Tree.{Tree}
use Rattle.cel_reader.specs.declared.operator.BinaryOperator.{BinaryOperator, TheVariants.And, TheVariants.Equal}
use Rattle.cel_reader.specs.declared.operator.BinaryOperator.{TheVariants.Less, TheVariants.LessEqual}
use Rattle.cel_reader.specs.declared.operator.BinaryOperator.{TheVariants.Add, TheVariants.Subtract}
use Rattle.cel_reader.specs.declared.operator.UnaryOperator.{TheVariants.Not}
use Rattle.cel_macros.specs.declared.macros.Macro.TheVariants as plain_macro
use Rattle.wide_meaning.specs.declared.function.Method.{Method}
use Rattle.wide_meaning.specs.declared.function.Method.TheVariants as method
use Rattle.wide_meaning.specs.Functions.{method_name}
use Rattle.wide_kinds.specs.declared.kind.ValueKind.{ValueKind}
use Rattle.wide_kinds.specs.declared.kind.ValueKind.TheVariants as kind
use Rattle.wide_translation.specs.Carried.{Carried, plain, NeedsIndices, UnknownName, Translation, taken, refused}
use Rattle.wide_translation.specs.Forms.{call_tree, macro_tree, filter_map_tree, first_tree, let_tree, held, is_empty_tree}
use Rattle.wide_translation.specs.Forms.{error_tree}
use Rattle.wide_translation.specs.Layers.{last_place_tree}
use Rattle.wide_translation.specs.Lists.{second, list_let, end_tree}
use Rattle.wide_translation.specs.Names.{held_name, index_name, second_name, third_name}
use Rattle.wide_translation.specs.Pairs.{here, at_tree, indices_tree, table_tree}
use Rattle.wide_translation.specs.Parts.{on_plain, with_plain}

-- what follows, if there is a table of indices
abbrev pub with_table : Bool → Translation → Translation
with_table true t = t
with_table false t = refused NeedsIndices

-- the names that the forms below bind, besides that of an index
abbrev pub third : Tree
third = tree.name third_name

-- an int literal of at least 0, and -1
abbrev pub count_tree : ℕ → Tree
count_tree n = tree.literal (tree.int (pos n))

abbrev pub no_place_tree : Tree
no_place_tree = tree.literal (tree.int (negsuc 0))

-- size(z), of the list z that `held` denotes
abbrev pub size_tree : Tree
size_tree = call_tree (codes "size") held

-- z[i], z[b] and z[i + 1]
abbrev pub here_tree : Tree
here_tree = at_tree held

abbrev pub there_tree : Tree
there_tree = tree.index held second

abbrev pub next_tree : Tree
next_tree = tree.index held (tree.binary Add here (count_tree 1))

-- I.map(i, t, z[i]) over the indices I of z
abbrev pub items_where_tree : Tree → Tree
items_where_tree t = filter_map_tree index_name (indices_tree held) t here_tree

-- ---- isSorted

-- params.t.n.filter(i, i < size(z) - 1)
abbrev pub but_last_tree : Tree
but_last_tree = macro_tree plain_macro.Filter index_name table_tree (tree.binary Less here last_place_tree)

-- params.t.n.filter(i, i < size(z) - 1).all(i, z[i] <= z[i + 1])
abbrev pub held_sorted_tree : Tree
held_sorted_tree = macro_tree plain_macro.All index_name but_last_tree (tree.binary LessEqual here_tree next_tree)

abbrev pub sorted_tree : Tree → Tree
sorted_tree a = list_let held_name a held_sorted_tree

-- ---- distinct

-- b < i && z[b] == z[i]
abbrev pub same_before_tree : Tree
same_before_tree = tree.binary And (tree.binary Less second here) (tree.binary Equal there_tree here_tree)

-- !params.t.n.exists(b, b < i && z[b] == z[i])
abbrev pub is_new_tree : Tree
is_new_tree = tree.unary Not (macro_tree plain_macro.Exists second_name table_tree same_before_tree)

abbrev pub held_distinct_tree : Tree
held_distinct_tree = items_where_tree is_new_tree

abbrev pub distinct_tree : Tree → Tree
distinct_tree a = list_let held_name a held_distinct_tree

-- ---- reverse

-- z[size(z) - 1 - i]
abbrev pub from_end_tree : Tree
from_end_tree = tree.index held (tree.binary Subtract last_place_tree here)

-- I.map(i, z[size(z) - 1 - i])
abbrev pub held_reversed_tree : Tree
held_reversed_tree = macro_tree plain_macro.Map index_name (indices_tree held) from_end_tree

abbrev pub reversed_tree : Tree → Tree
reversed_tree a = list_let held_name a held_reversed_tree

-- ---- slice

-- 0 <= b && b <= c
abbrev pub is_ordered_tree : Tree
is_ordered_tree = tree.binary And (tree.binary LessEqual (count_tree 0) second) (tree.binary LessEqual second third)

-- 0 <= b && b <= c && c <= size(z)
abbrev pub in_bounds_tree : Tree
in_bounds_tree = tree.binary And is_ordered_tree (tree.binary LessEqual third size_tree)

-- b <= i && i < c
abbrev pub is_between_tree : Tree
is_between_tree = tree.binary And (tree.binary LessEqual second here) (tree.binary Less here third)

-- the items of z from b up to c; the error unless these are places in order
abbrev pub held_slice_tree : Tree
held_slice_tree = tree.ternary in_bounds_tree (items_where_tree is_between_tree) error_tree

abbrev pub slice_tree : Tree → Tree → Tree → Tree
slice_tree a b c = list_let held_name a (let_tree second_name b (let_tree third_name c held_slice_tree))

-- ---- indexOf and lastIndexOf

-- I.filter(i, z[i] == b)
abbrev pub places_tree : Tree
places_tree = macro_tree plain_macro.Filter index_name (indices_tree held) (tree.binary Equal here_tree second)

-- t of these places, or -1 if there is none
abbrev pub unless_none_tree : Tree → Tree
unless_none_tree t = tree.ternary (is_empty_tree third) no_place_tree t

abbrev pub place_tree : Tree → Tree → Tree → Tree
place_tree t a b = list_let held_name a (let_tree second_name b (let_tree third_name places_tree (unless_none_tree t)))

-- the first place of b in a, or -1, and the last
abbrev pub first_place_tree : Tree → Tree → Tree
first_place_tree a b = place_tree (first_tree third) a b

abbrev pub end_place_tree : Tree → Tree → Tree
end_place_tree a b = place_tree (end_tree third) a b

-- whether values of this kind are lists
abbrev pub is_list_kind : ValueKind → Bool
is_list_kind kind.List = true
is_list_kind _ = false

-- ---- methods

-- what follows from a receiver that is known to be a list; of all others the name is not known
abbrev pub of_list : Method → ValueKind → Translation → Translation
of_list m k t = if is_list_kind k then t else refused (UnknownName (method_name m))

-- the place of a value in a list: the last one for `lastIndexOf`, else the first
abbrev pub chosen_place_tree : Method → Tree → Tree → Tree
chosen_place_tree method.LastIndexOf a b = end_place_tree a b
chosen_place_tree _ a b = first_place_tree a b

-- whether a method is `slice`
abbrev pub is_slice : Method → Bool
is_slice method.Slice = true
is_slice _ = false

-- a method of an operand with these arguments; r for all other methods. Whether there are tables is the first argument
abbrev pub method_or : Bool → Method → Carried → List Translation → Translation → Translation
method_or b method.IsSorted c [] r = on_plain c (λ k a. with_table b (taken (plain kind.Bool (sorted_tree a))))
method_or b method.Distinct c [] r = on_plain c (λ k a. with_table b (taken (plain kind.List (distinct_tree a))))
method_or b method.Reverse c [] r = on_plain c (λ k a. with_table b (taken (plain kind.List (reversed_tree a))))
method_or b method.Slice c (t ∷ u ∷ []) r =
    on_plain c (λ k a. with_table b (with_plain t (λ j d. with_plain u (λ i e. taken (plain kind.List (slice_tree a d e))))))
method_or b method.IndexOf c (t ∷ []) r =
    on_plain c (λ k a. of_list method.IndexOf k (with_table b (with_plain t (λ j d. taken (plain kind.Int (first_place_tree a d))))))
method_or b method.LastIndexOf c (t ∷ []) r =
    on_plain c (λ k a. of_list method.LastIndexOf k (with_table b (with_plain t (λ j d. taken (plain kind.Int (end_place_tree a d))))))
method_or b m c ts r = r
