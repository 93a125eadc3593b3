-- Functions and methods of lists.
use Rattle.std.specs.Prelude.{pos, codes}
use Rattle.cel_reader.specs.Tree as tree
use Rattle.cel_reader.specs.Tree.{Tree}
use Rattle.cel_reader.specs.declared.operator.BinaryOperator.{BinaryOperator, TheVariants.And, TheVariants.In}
use Rattle.cel_reader.specs.declared.operator.BinaryOperator.{TheVariants.Add, TheVariants.Subtract}
use Rattle.cel_macros.specs.declared.macros.Macro.TheVariants as plain_macro
use Rattle.std.specs.Prelude.{ℕ, List}
use Rattle.wide_kinds.specs.declared.kind.ValueKind.TheVariants as kind
use Rattle.wide_translation.specs.Carried.{plain, Translation, taken}
use Rattle.wide_translation.specs.Forms.{empty_tree, one_tree, call_tree, macro_tree, first_tree, let_tree, held}
use Rattle.wide_translation.specs.Forms.{is_empty_tree}
use Rattle.wide_translation.specs.Names.{held_name, index_name, second_name}
use Rattle.wide_translation.specs.Parts.{with_plain}

-- the names that the forms below bind besides `held`
abbrev pub each : Tree
each = tree.name index_name

abbrev pub second : Tree
second = tree.name second_name

-- b with x for the list a; the error if a is none: `a + []` is
abbrev pub list_let : List ℕ → Tree → Tree → Tree
list_let x a b = let_tree x (tree.binary Add a empty_tree) b

-- ---- items

-- [a[0]], or [] if a is empty
abbrev pub first_list_tree : Tree → Tree
first_list_tree a = list_let held_name a (tree.ternary (is_empty_tree held) empty_tree (one_tree (first_tree held)))

-- a[size(a) - 1]
abbrev pub end_tree : Tree → Tree
end_tree a = tree.index a (tree.binary Subtract (call_tree (codes "size") a) (tree.literal (tree.int (pos 1))))

-- [a[size(a) - 1]], or [] if a is empty
abbrev pub last_list_tree : Tree → Tree
last_list_tree a = list_let held_name a (tree.ternary (is_empty_tree held) empty_tree (one_tree (end_tree held)))

-- a.filter(x, a.all(y, x op y))[0]
abbrev pub extreme_tree : BinaryOperator → Tree → Tree
extreme_tree op a =
    list_let held_name a (first_tree (macro_tree plain_macro.Filter index_name held
    (macro_tree plain_macro.All second_name held (tree.binary op each second))))

-- ---- sets

-- whether each item of a, and whether one of them, is in b
abbrev pub contained_tree : Tree → Tree → Tree
contained_tree a b = macro_tree plain_macro.All index_name a (tree.binary In each b)

abbrev pub meeting_tree : Tree → Tree → Tree
meeting_tree a b = macro_tree plain_macro.Exists index_name a (tree.binary In each b)

-- each contains the other
abbrev pub equivalent_tree : Tree → Tree → Tree
equivalent_tree a b = tree.binary And (contained_tree a b) (contained_tree b a)

-- a test of two lists, which are both evaluated first
abbrev pub sets_tree : Tree → Tree → Tree → Tree
sets_tree test a b = list_let held_name a (list_let second_name b test)

abbrev pub sets_translation : Tree → Translation → Translation → Translation
sets_translation test t u = with_plain t (λ k a. with_plain u (λ j b. taken (plain kind.Bool (sets_tree test a b))))
