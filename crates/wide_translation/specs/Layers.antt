-- Forms of the functions of the code that build trees.
use Rattle.std.specs.Prelude.{ℕ, pos, Bool, true, false, Option, Some, None, codes}
use Rattle.cel_reader.specs.Tree as tree
use Rattle.cel_reader.specs.Tree.{Tree}
use Rattle.cel_reader.specs.declared.operator.BinaryOperator.{BinaryOperator, TheVariants.Add, TheVariants.Equal}
use Rattle.cel_reader.specs.declared.operator.BinaryOperator.{TheVariants.NotEqual, TheVariants.Subtract}
use Rattle.wide_reader.specs.Tree as wide
use Rattle.wide_reader.specs.Tree.{Wide}
use Rattle.wide_translation.specs.Carried.{Carried, Translation}
use Rattle.wide_translation.specs.Pairs.{PairUse, is_map_kind, pair_range, with_range, map_range_tree, any_range_tree}
use Rattle.wide_translation.specs.Parts.{on_plain}
use Rattle.wide_translation.specs.Forms.{empty_tree, one_tree, call_tree, macro_tree, held, first_tree, is_empty_tree}
use Rattle.wide_translation.specs.Names.{index_name, second_name}
use Rattle.cel_macros.specs.declared.macros.Macro.TheVariants as plain_macro
use Rattle.wide_translation.specs.Lists.{each, second, contained_tree, meeting_tree, equivalent_tree}
use Rattle.wide_meaning.specs.declared.function.Qualified.{Qualified}
use Rattle.wide_meaning.specs.declared.function.Qualified.TheVariants as qualified

-- size(a + [])
abbrev pub list_size_tree : Tree → Tree
list_size_tree a = call_tree (codes "size") (tree.binary Add a empty_tree)

-- the item of the list that the translation's name denotes, or d if the list is empty
abbrev pub held_or_tree : Tree → Tree
held_or_tree d = tree.ternary (is_empty_tree held) d (first_tree held)

-- the list that the translation's name denotes, or m if it is empty
abbrev pub held_or_list_tree : Tree → Tree
held_or_list_tree m = tree.ternary (is_empty_tree held) m held

-- the unsigned int of an operand that is compared, if it is one
abbrev pub compared_uint : Bool → Wide → Option ℕ
compared_uint true (wide.uint n) = Some n
compared_uint _ a = None

-- what follows from the range of a macro with two names over an operand
abbrev pub ranged : Bool → PairUse → Carried → (Tree → Translation) → Translation
ranged b u c f = on_plain c (λ k a. with_range (pair_range b u (is_map_kind k) a) f)

-- the range of a macro with two names for a map, or for a list or a map
abbrev pub repeated_range_tree : PairUse → Bool → Tree → Tree
repeated_range_tree u true a = map_range_tree u a
repeated_range_tree u false a = any_range_tree u a

-- whether an operator is an equality
abbrev pub is_equality : BinaryOperator → Bool
is_equality Equal = true
is_equality NotEqual = true
is_equality _ = false

-- [t], or [] if the list that the translation's name denotes is empty
abbrev pub unless_empty_tree : Tree → Tree
unless_empty_tree t = tree.ternary (is_empty_tree held) empty_tree (one_tree t)

-- the last place in the list that the translation's name denotes
abbrev pub last_place_tree : Tree
last_place_tree = tree.binary Subtract (call_tree (codes "size") held) (tree.literal (tree.int (pos 1)))

-- whether an item is in this order with each item of that list, and the first item that is
abbrev pub before_each_tree : BinaryOperator → Tree
before_each_tree op = macro_tree plain_macro.All second_name held (tree.binary op each second)

abbrev pub first_before_each_tree : BinaryOperator → Tree
first_before_each_tree op = first_tree (macro_tree plain_macro.Filter index_name held (before_each_tree op))

-- whether a function tests two sets, and its test of the lists that the translation binds
abbrev pub is_of_sets : Qualified → Bool
is_of_sets qualified.SetsContains = true
is_of_sets qualified.SetsIntersects = true
is_of_sets qualified.SetsEquivalent = true
is_of_sets _ = false

abbrev pub sets_test : Qualified → Tree
sets_test qualified.SetsContains = contained_tree second held
sets_test qualified.SetsIntersects = meeting_tree held second
sets_test _ = equivalent_tree held second
