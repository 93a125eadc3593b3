-- Trees that the translation writes.
use Rattle.std.specs.Prelude.{ℕ, pos, Bool, true, false, ◌&&◌, List, codes, if◌then◌else◌, bytes_eq, [], ◌∷◌}
use Rattle.cel_reader.specs.Tree as tree
use Rattle.cel_reader.specs.Tree.{Tree, Trees, no_trees, more_trees, no_entries}
use Rattle.cel_reader.specs.Words.{is_selector}
use Rattle.cel_reader.specs.declared.operator.BinaryOperator.{BinaryOperator, TheVariants.And, TheVariants.Equal}
use Rattle.cel_reader.specs.declared.operator.BinaryOperator.{TheVariants.NotEqual, TheVariants.In, TheVariants.Add}
use Rattle.cel_reader.specs.declared.operator.BinaryOperator.{TheVariants.Less, TheVariants.Or}
use Rattle.cel_macros.specs.Macros.{macro_name, variables_name}
use Rattle.cel_macros.specs.declared.macros.Macro.{Macro, TheVariants.Map}
use Rattle.wide_meaning.specs.Functions.{true_texts, false_texts}
use Rattle.wide_translation.specs.Names.{held_name, namespace_name, params_name, params_field}
use Rattle.wide_translation.specs.Scope.{WideScope}

-- a list literal without items, with one, and with two
abbrev pub empty_tree : Tree
empty_tree = tree.list no_trees

abbrev pub one_tree : Tree → Tree
one_tree a = tree.list (more_trees a no_trees)

-- a call of a function with one argument
abbrev pub call_tree : List ℕ → Tree → Tree
call_tree n a = tree.call n (more_trees a no_trees)

-- a macro over a range
abbrev pub macro_tree : Macro → List ℕ → Tree → Tree → Tree
macro_tree m x a p = tree.method a (macro_name m) (more_trees (tree.name x) (more_trees p no_trees))

-- `map` with a predicate
abbrev pub filter_map_tree : List ℕ → Tree → Tree → Tree → Tree
filter_map_tree x a p t = tree.method a (macro_name Map) (more_trees (tree.name x) (more_trees p (more_trees t no_trees)))

-- the operator `in`
abbrev pub membership : BinaryOperator
membership = In

-- a[0]
abbrev pub first_tree : Tree → Tree
first_tree a = tree.index a (tree.literal (tree.int (pos 0)))

-- b with x for the value of a: [a].map(x, b)[0]
abbrev pub let_tree : List ℕ → Tree → Tree → Tree
let_tree x a b = first_tree (macro_tree Map x (one_tree a) b)

-- the name that the translation binds
abbrev pub held : Tree
held = tree.name held_name

-- has(a.f)
abbrev pub has_tree : Tree → List ℕ → Tree
has_tree a f = tree.call (codes "has") (more_trees (tree.select a f) no_trees)

-- a.f, or a['f'] if f may not be written as a field
abbrev pub access_tree : Tree → List ℕ → Tree
access_tree a f = if is_selector f then tree.select a f else tree.index a (tree.literal (tree.text f))

-- whether a, which is no null, has f. `has(a.a)` is the error if a is no map
abbrev pub has_any_tree : Tree → List ℕ → Tree
has_any_tree a f =
    if is_selector f then has_tree a f
    else tree.ternary (has_tree a (codes "a"))
    (tree.binary In (tree.literal (tree.text f)) a)
    (tree.binary In (tree.literal (tree.text f)) a)

-- whether a has f: a != null && has(a.f)
abbrev pub present_tree : Tree → List ℕ → Tree
present_tree a f = tree.binary And (tree.binary NotEqual a (tree.literal tree.null)) (has_any_tree a f)

-- [a.f], or [] if a does not have f
abbrev pub field_list_tree : Tree → List ℕ → Tree
field_list_tree a f = tree.ternary (present_tree a f) (one_tree (access_tree a f)) empty_tree

-- the list of one item v if g holds, else the empty list
abbrev pub guarded_tree : Tree → Tree → Tree
guarded_tree g v = tree.ternary g (one_tree v) empty_tree

-- the item of the first of the lists, or the empty list: (l.map(x, r) + [[]])[0]
abbrev pub flat_tree : List ℕ → Tree → Tree → Tree
flat_tree x l r = first_tree (tree.binary Add (macro_tree Map x l r) (one_tree empty_tree))

-- whether a is []
abbrev pub is_empty_tree : Tree → Tree
is_empty_tree a = tree.binary Equal a empty_tree

-- a == b for a bool b
abbrev pub is_bool_tree : Tree → Bool → Tree
is_bool_tree a b = tree.binary Equal a (tree.literal (tree.truth b))

-- the bytes of `true`
abbrev pub true_text : List ℕ
true_text = codes "true"

-- a as a text: a bool as `true` or `false`
abbrev pub text_tree : Tree → Tree
text_tree a =
    tree.ternary (is_bool_tree a true) (tree.literal (tree.text true_text))
    (tree.ternary (is_bool_tree a false) (tree.literal (tree.text (codes "false"))) (call_tree (codes "string") a))

-- the values that are null, false, 0 or empty
abbrev pub zero_trees : Trees
zero_trees =
    more_trees (tree.literal tree.null) (more_trees (tree.literal (tree.truth false)) (more_trees (tree.literal (tree.int (pos 0)))
    (more_trees (tree.literal (tree.text [])) (more_trees empty_tree (more_trees (tree.map no_entries) no_trees)))))

-- [a], or [] if a is null, false, 0 or empty
abbrev pub non_zero_tree : Tree → Tree
non_zero_tree a = tree.ternary (tree.binary In a (tree.list zero_trees)) empty_tree (one_tree a)

-- text literals
abbrev pub text_trees : List (List ℕ) → Trees
text_trees [] = no_trees
text_trees (w ∷ ws) = more_trees (tree.literal (tree.text w)) (text_trees ws)

-- a is the bool b, or a text that denotes it; of a text only the second
abbrev pub denotes_tree : Tree → Bool → List (List ℕ) → Tree
denotes_tree a b ws = tree.binary Or (is_bool_tree a b) (tree.binary In a (tree.list (text_trees ws)))

abbrev pub error_tree : Tree
error_tree = first_tree empty_tree

-- the bool that a value or a text denotes
abbrev pub bool_tree : Tree → Tree
bool_tree a =
    tree.ternary (denotes_tree a true true_texts) (tree.literal (tree.truth true))
    (tree.ternary (denotes_tree a false false_texts) (tree.literal (tree.truth false)) error_tree)

-- the bool that a text denotes
abbrev pub text_bool_tree : Tree → Tree
text_bool_tree a =
    tree.ternary (tree.binary In a (tree.list (text_trees true_texts))) (tree.literal (tree.truth true))
    (tree.ternary (tree.binary In a (tree.list (text_trees false_texts))) (tree.literal (tree.truth false)) error_tree)

-- null, of a type that is not known
abbrev pub null_tree : Tree
null_tree = call_tree (codes "dyn") (tree.literal tree.null)

-- a root; `params` is a field of its root if that has tables too
abbrev pub placed_tree : Bool → List ℕ → Tree
placed_tree wrapped n = if wrapped && bytes_eq params_name n then tree.select (tree.name params_name) params_field else tree.name n

-- a root in this scope; in match conditions `namespaceObject` is null
abbrev pub root_tree : WideScope → List ℕ → Tree
root_tree s n = if s.condition && bytes_eq namespace_name n then null_tree else placed_tree s.wrapped n

-- the item i of the pair y
abbrev pub part_tree : List ℕ → ℕ → Tree
part_tree y i = tree.index (tree.name y) (tree.literal (tree.int (pos i)))

-- variables.f
abbrev pub variable_tree : List ℕ → Tree
variable_tree f = tree.select (tree.name variables_name) f

-- whether a list a has an item n: n < size(a + [])
abbrev pub is_below_tree : Tree → ℕ → Tree
is_below_tree a n =
    tree.binary Less (tree.literal (tree.int (pos n))) (call_tree (codes "size") (tree.binary Add a empty_tree))

-- whether a has an item n: a == null ? false : n < size(a + [])
abbrev pub present_item_tree : Tree → ℕ → Tree
present_item_tree a n =
    tree.ternary (tree.binary Equal a (tree.literal tree.null)) (tree.literal (tree.truth false)) (is_below_tree a n)

-- a[n]
abbrev pub item_tree : Tree → ℕ → Tree
item_tree a n = tree.index a (tree.literal (tree.int (pos n)))

-- [a[n]], or [] if a has no item n
abbrev pub item_list_tree : Tree → ℕ → Tree
item_list_tree a n = guarded_tree (present_item_tree a n) (item_tree a n)

-- whether a literal or a name
abbrev pub is_leaf : Tree → Bool
is_leaf (tree.literal l) = true
is_leaf (tree.name n) = true
is_leaf _ = false

-- whether a tree is cheap to write again: a name, a literal, or a field or an index by a literal or a name of such a
-- tree
abbrev pub is_simple : Tree → Bool
is_simple (tree.literal l) = true
is_simple (tree.name n) = true
is_simple (tree.select a f) = is_simple a
is_simple (tree.index a k) = is_simple a && is_leaf k
is_simple _ = false
