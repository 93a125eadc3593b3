-- The translation of a wide expression.
use Rattle.std.specs.Prelude.{ℕ, pos, nat_lt, Bool, true, false, ◌||◌, List, [], ◌∷◌, Option, Some, None, codes}
use Rattle.std.specs.Prelude.{if◌then◌else◌}
use Rattle.cel_reader.specs.Tree as tree
use Rattle.cel_reader.specs.Tree.{Tree, no_trees, more_trees, no_entries, more_entries}
use Rattle.cel_reader.specs.declared.operator.BinaryOperator.{BinaryOperator, TheVariants.And, TheVariants.Equal}
use Rattle.cel_reader.specs.declared.operator.BinaryOperator.{TheVariants.NotEqual, TheVariants.In}
use Rattle.cel_reader.specs.declared.operator.BinaryOperator.{TheVariants.Less, TheVariants.LessEqual}
use Rattle.cel_reader.specs.declared.operator.BinaryOperator.{TheVariants.Greater, TheVariants.GreaterEqual}
use Rattle.cel_macros.specs.Environment.{lookup, is_root}
use Rattle.cel_macros.specs.Functions.{function_name, test_name}
use Rattle.cel_macros.specs.declared.function.Function.TheVariants as plain_function
use Rattle.cel_macros.specs.declared.macros.Macro.TheVariants as plain_macro
use Rattle.cel_macros.specs.declared.text_test.TextTest.{TextTest, TheVariants.StartsWith, TheVariants.EndsWith}
use Rattle.cel_macros.specs.declared.text_test.TextTest.{TheVariants.Contains}
use Rattle.wide_reader.specs.Tree.{Wide, Wides, WideItems, WideEntries}
use Rattle.wide_reader.specs.Tree as wide
use Rattle.wide_reader.specs.declared.wide.Access.{Access, TheVariants.Plain, TheVariants.Optional}
use Rattle.wide_reader.specs.declared.wide.OptionalMacro.{OptionalMacro, TheVariants.Map, TheVariants.FlatMap}
use Rattle.wide_reader.specs.declared.wide.Macro.{Macro}
use Rattle.wide_reader.specs.declared.wide.Macro.TheVariants as macro
use Rattle.wide_meaning.specs.declared.function.Function.{Function}
use Rattle.wide_meaning.specs.declared.function.Function.TheVariants as function
use Rattle.wide_meaning.specs.declared.function.Method.{Method}
use Rattle.wide_meaning.specs.declared.function.Method.TheVariants as method
use Rattle.wide_meaning.specs.declared.function.Qualified.{Qualified}
use Rattle.wide_meaning.specs.declared.function.Qualified.TheVariants as qualified
use Rattle.wide_meaning.specs.Environment.{denotes_variables}
use Rattle.wide_meaning.specs.Functions.{function_named, method_named, method_name, qualified_named}
use Rattle.wide_meaning.specs.Meaning.{is_empty_list, namespace_in}
use Rattle.wide_meaning.specs.Ranges.{plain_macro_of}
use Rattle.wide_kinds.specs.declared.kind.Kind.{Kind}
use Rattle.wide_kinds.specs.declared.kind.Kind.TheVariants as of
use Rattle.wide_kinds.specs.declared.kind.ValueKind.{ValueKind}
use Rattle.wide_kinds.specs.declared.kind.ValueKind.TheVariants as kind
use Rattle.wide_kinds.specs.Kinds.{literal_kind, unary_kind, binary_kind, joined_kind}
use Rattle.wide_translation.specs.Carried.{Carried, plain, guarded, listed, UnknownName, OptionalValue, TakenName}
use Rattle.wide_translation.specs.Carried.{UnsignedInt, Translation, taken, refused}
use Rattle.wide_translation.specs.Forms.{empty_tree, one_tree, call_tree, macro_tree, filter_map_tree, first_tree}
use Rattle.wide_translation.specs.Forms.{let_tree, held, access_tree, has_any_tree, present_tree, field_list_tree, guarded_tree}
use Rattle.wide_translation.specs.Forms.{flat_tree, is_below_tree, present_item_tree, item_tree, item_list_tree, is_empty_tree}
use Rattle.wide_translation.specs.Forms.{text_tree, non_zero_tree, bool_tree, text_bool_tree, root_tree, part_tree}
use Rattle.wide_translation.specs.Forms.{variable_tree, is_simple}
pub use Rattle.wide_translation.specs.Parts.{with_carried, on_plain, with_plain, as_list, from_list, on_list}
pub use Rattle.wide_translation.specs.Parts.{IsFinished, once, Parts, parts, no_parts, joined_tree, list_more}
pub use Rattle.wide_translation.specs.Parts.{one_more, EntryParts, no_parts_left, entry_part, optional_part, Pairs}
pub use Rattle.wide_translation.specs.Parts.{pairs, no_pairs, entries_push, map_tree, optional_count, optional_more}
pub use Rattle.wide_translation.specs.Parts.{keyed_more, entry_more, list_translation, map_translation}
use Rattle.wide_translation.specs.Lists.{second, first_list_tree, last_list_tree, extreme_tree, contained_tree}
use Rattle.wide_translation.specs.Lists.{meeting_tree, equivalent_tree, sets_translation}
use Rattle.wide_translation.specs.ComputedIndices.{key_carried}
use Rattle.wide_translation.specs.ListMethods.{method_or}
use Rattle.wide_translation.specs.Names.{held_name, is_taken, written_name}
use Rattle.wide_translation.specs.Scope.{WideScope, Place, itself, part, unused, within, is_hidden}
use Rattle.wide_translation.specs.Uses.{uses}
pub use Rattle.wide_translation.specs.Pairs.{PairUse, pair_use, pair_binder, within_pair, pair_translation}
pub use Rattle.wide_translation.specs.Pairs.{pair_filter_translation}

-- ---- names

-- the root of a name
abbrev pub root_translation : WideScope → List ℕ → Translation
root_translation s n = if is_root n then taken (plain kind.Dyn (root_tree s n)) else refused (UnknownName n)

-- an iteration name that is written so
abbrev pub place_translation : Place → List ℕ → Translation
place_translation (itself k) n = taken (plain k (tree.name (written_name n)))
place_translation (part y i) n = taken (plain kind.Dyn (part_tree y i))
place_translation unused n = refused (UnknownName n)

-- an iteration name if it is in scope, else what the name denotes outside of macros
abbrev pub name_translation : Option Place → List ℕ → Translation → Translation
name_translation (Some p) n outside = place_translation p n
name_translation None n outside = outside

-- a variable of this kind
abbrev pub variable_translation : Option Kind → List ℕ → Translation
variable_translation (Some (of.Value k)) f = taken (plain k (variable_tree f))
variable_translation (Some (of.Optional k)) f = taken (listed k (variable_tree f))
variable_translation None f = refused (UnknownName f)

-- ---- fields

-- whether a value of this kind has a field: a map is not compared with null, which has no type
abbrev pub present_of : ValueKind → Tree → List ℕ → Tree
present_of kind.Map t f = has_any_tree t f
present_of _ t f = present_tree t f

-- the field of a value as an optional value: written twice if the operand is simple
abbrev pub optional_field : Bool → ValueKind → Tree → List ℕ → Carried
optional_field true k t f = guarded kind.Dyn (present_of k t f) (access_tree t f)
optional_field false k t f = listed kind.Dyn (let_tree held_name t (field_list_tree held f))

-- the field of the value of an optional value
abbrev pub field_of_list : Tree → List ℕ → Carried
field_of_list l f = listed kind.Dyn (flat_tree held_name l (field_list_tree held f))

abbrev pub field_of_guarded : Bool → Tree → Tree → List ℕ → Carried
field_of_guarded true g v f = guarded kind.Dyn (tree.binary And g (present_tree v f)) (access_tree v f)
field_of_guarded false g v f = field_of_list (guarded_tree g v) f

-- `.f` or `.?f`
abbrev pub field_carried : Access → List ℕ → Carried → Carried
field_carried Plain f (plain k t) = plain kind.Dyn (access_tree t f)
field_carried Optional f (plain k t) = optional_field (is_simple t) k t f
field_carried o f (guarded k g v) = field_of_guarded (is_simple v) g v f
field_carried o f (listed k l) = field_of_list l f

-- ---- items

-- whether a value of this kind has an item n: a list is not compared with null, which has no type
abbrev pub present_item_of : ValueKind → Tree → ℕ → Tree
present_item_of kind.List t n = is_below_tree t n
present_item_of _ t n = present_item_tree t n

-- the item n of a value as an optional value: written twice if the operand is simple
abbrev pub optional_item : Bool → ValueKind → Tree → ℕ → Carried
optional_item true k t n = guarded kind.Dyn (present_item_of k t n) (item_tree t n)
optional_item false k t n = listed kind.Dyn (let_tree held_name t (item_list_tree held n))

-- the item n of the value of an optional value
abbrev pub item_of_list : Tree → ℕ → Carried
item_of_list l n = listed kind.Dyn (flat_tree held_name l (item_list_tree held n))

-- `[?n]` of an operand
abbrev pub item_carried : ℕ → Carried → Carried
item_carried n (plain k t) = optional_item (is_simple t) k t n
item_carried n (guarded k g v) = item_of_list (guarded_tree g v) n
item_carried n (listed k l) = item_of_list l n

-- ---- whether there is a value

-- whether an optional value has a value
abbrev pub has_value_carried : Carried → Tree
has_value_carried (plain k t) = t
has_value_carried (guarded k g v) = g
has_value_carried (listed k l) = tree.binary NotEqual l empty_tree

-- `has(e.f)`
abbrev pub has_carried : List ℕ → Carried → Tree
has_carried f (plain k t) = if is_simple t then present_of k t f else let_tree held_name t (present_tree held f)
has_carried f c = has_value_carried (field_carried Optional f c)

-- ---- operators

abbrev pub equality : BinaryOperator → Carried → Carried → Translation
equality op (plain k a) d = on_plain d (λ j b. taken (plain kind.Bool (tree.binary op a b)))
equality op c d = on_list OptionalValue c (λ k l. on_list OptionalValue d (λ j m. taken (plain kind.Bool (tree.binary op l m))))

-- an operator on values; nothing is in an empty list literal
abbrev pub plain_binary : Bool → BinaryOperator → ValueKind → ValueKind → Tree → Tree → Translation
plain_binary true In k j a b = taken (plain kind.Bool (tree.literal (tree.truth false)))
plain_binary _ op k j a b = taken (plain (binary_kind op k j) (tree.binary op a b))

abbrev pub binary_carried : Bool → BinaryOperator → Carried → Carried → Translation
binary_carried empty Equal c d = equality Equal c d
binary_carried empty NotEqual c d = equality NotEqual c d
binary_carried empty op c d = on_plain c (λ k a. on_plain d (λ j b. plain_binary empty op k j a b))

-- the branches are both values or both optional values
abbrev pub ternary_carried : Tree → Carried → Carried → Translation
ternary_carried t (plain k a) d = on_plain d (λ j b. taken (plain (joined_kind k j) (tree.ternary t a b)))
ternary_carried t c d =
    on_list OptionalValue c (λ k l. on_list OptionalValue d (λ j m. taken (listed (joined_kind k j) (tree.ternary t l m))))

-- ---- macros

-- the kind of a macro's result
abbrev pub macro_kind : Macro → ValueKind
macro_kind macro.All = kind.Bool
macro_kind macro.Exists = kind.Bool
macro_kind macro.ExistsOne = kind.Bool
macro_kind macro.Filter = kind.List
macro_kind macro.Map = kind.List

abbrev pub fold_carried : Macro → List ℕ → Tree → Tree → Carried
fold_carried m x a p = plain (macro_kind m) (macro_tree (plain_macro_of m) x a p)

-- ---- functions

-- a value of this kind as a text
abbrev pub string_tree : ValueKind → Tree → Tree
string_tree kind.Int t = call_tree (codes "string") t
string_tree kind.String t = call_tree (codes "string") t
string_tree kind.Bool t = tree.ternary t (tree.literal (tree.text (codes "true"))) (tree.literal (tree.text (codes "false")))
string_tree _ t = once t text_tree

-- the bool that a value of this kind denotes
abbrev pub bool_of_kind : ValueKind → Tree → Tree
bool_of_kind kind.String t = once t text_bool_tree
bool_of_kind _ t = once t bool_tree

-- a function of a value of this kind
abbrev pub function_carried : Function → ValueKind → Tree → Translation
function_carried function.Size k t = taken (plain kind.Int (call_tree (codes "size") t))
function_carried function.String k t = taken (plain kind.String (string_tree k t))
function_carried function.Dyn k t = taken (plain kind.Dyn (call_tree (codes "dyn") t))
function_carried function.Bool k t = taken (plain kind.Bool (bool_of_kind k t))

abbrev pub call_translation : Option Function → List ℕ → List Translation → Translation
call_translation (Some f) n (t ∷ []) = with_plain t (function_carried f)
call_translation _ n ts = refused (UnknownName n)

-- ---- optional values

-- an optional value, or another if it has no value
abbrev pub or_carried : Carried → Carried → Translation
or_carried (plain k t) d = refused (UnknownName (method_name method.Or))
or_carried (guarded k g v) d = on_list OptionalValue d (λ j m. taken (listed (joined_kind k j) (tree.ternary g (one_tree v) m)))
or_carried (listed k l) d =
    on_list OptionalValue d (λ j m. taken (listed (joined_kind k j) (let_tree held_name l (tree.ternary (is_empty_tree held) m held))))

-- a function with a namespace
abbrev pub qualified_translation : Qualified → List ℕ → List Translation → Translation
qualified_translation qualified.OptionalOf n (t ∷ []) = with_plain t (λ k a. taken (listed k (one_tree a)))
qualified_translation qualified.OptionalNone n [] = taken (listed kind.Dyn empty_tree)
qualified_translation qualified.OptionalOfNonZeroValue n (t ∷ []) = with_plain t (λ k a. taken (listed k (once a non_zero_tree)))
qualified_translation qualified.SetsContains n (t ∷ u ∷ []) = sets_translation (contained_tree second held) t u
qualified_translation qualified.SetsIntersects n (t ∷ u ∷ []) = sets_translation (meeting_tree held second) t u
qualified_translation qualified.SetsEquivalent n (t ∷ u ∷ []) = sets_translation (equivalent_tree held second) t u
qualified_translation _ n ts = refused (UnknownName n)

-- a macro over an optional value as a list
abbrev pub optional_carried : OptionalMacro → List ℕ → Tree → Carried → Translation
optional_carried Map x l d = on_plain d (λ j b. taken (listed j (macro_tree plain_macro.Map x l b)))
optional_carried FlatMap x l d = on_list OptionalValue d (λ j b. taken (listed j (flat_tree x l b)))

-- ---- methods

-- the value of an optional value
abbrev pub value_carried : Carried → Translation
value_carried (plain k t) = refused (UnknownName (method_name method.Value))
value_carried (guarded k g v) = taken (plain k v)
value_carried (listed k l) = taken (plain k (first_tree l))

-- the value of an optional value, or d
abbrev pub or_value_carried : Carried → ValueKind → Tree → Translation
or_value_carried (plain k t) j d = refused (UnknownName (method_name method.OrValue))
or_value_carried (guarded k g v) j d = taken (plain (joined_kind k j) (tree.ternary g v d))
or_value_carried (listed k l) j d =
    taken (plain (joined_kind k j) (let_tree held_name l (tree.ternary (is_empty_tree held) d (first_tree held))))

abbrev pub has_value_translation : Carried → Translation
has_value_translation (plain k t) = refused (UnknownName (method_name method.HasValue))
has_value_translation c = taken (plain kind.Bool (has_value_carried c))

-- a test of two texts
abbrev pub test_carried : TextTest → Tree → Tree → Carried
test_carried t a b = plain kind.Bool (tree.method a (test_name t) (more_trees b no_trees))

abbrev pub test_translation : TextTest → Carried → Translation → Translation
test_translation t c d = on_plain c (λ k a. with_plain d (λ j b. taken (test_carried t a b)))

-- a method of an operand
abbrev pub method_carried : Method → Carried → List Translation → Translation
method_carried method.Size c [] = on_plain c (λ k a. taken (plain kind.Int (tree.method a (function_name plain_function.Size) no_trees)))
method_carried method.StartsWith c (d ∷ []) = test_translation StartsWith c d
method_carried method.EndsWith c (d ∷ []) = test_translation EndsWith c d
method_carried method.Contains c (d ∷ []) = test_translation Contains c d
method_carried method.HasValue c [] = has_value_translation c
method_carried method.Value c [] = value_carried c
method_carried method.OrValue c (d ∷ []) = with_plain d (or_value_carried c)
method_carried method.Or c (d ∷ []) = with_carried d (or_carried c)
method_carried method.First c [] = on_plain c (λ k a. taken (listed kind.Dyn (first_list_tree a)))
method_carried method.Last c [] = on_plain c (λ k a. taken (listed kind.Dyn (last_list_tree a)))
method_carried method.Min c [] = on_plain c (λ k a. taken (plain kind.Dyn (extreme_tree LessEqual a)))
method_carried method.Max c [] = on_plain c (λ k a. taken (plain kind.Dyn (extreme_tree GreaterEqual a)))
method_carried m c ds = refused (UnknownName (method_name m))

-- a method of an operand. Whether there are tables is the first argument
abbrev pub method_of : Bool → Method → Carried → List Translation → Translation
method_of b m c ts = method_or b m c ts (method_carried m c ts)

-- a function with a namespace, or a method
abbrev pub method_translation : Bool → Option Qualified → Option Method → List ℕ → Translation → List Translation → Translation
method_translation b (Some q) m n t ts = qualified_translation q n ts
method_translation b None (Some m) n t ts = with_carried t (λ c. method_of b m c ts)
method_translation b None None n t ts = refused (UnknownName n)

-- ---- indices

-- an index by a text literal is a field
abbrev pub text_literal : Wide → Option (List ℕ)
text_literal (wide.literal (tree.text s)) = Some s
text_literal _ = None

-- an index of a value, without a question mark
abbrev pub value_index : Carried → Carried → Translation
value_index c d = on_plain c (λ k a. on_plain d (λ j b. taken (plain kind.Dyn (tree.index a b))))

-- an index; all but that is one as an optional value
abbrev pub plain_index : Access → Carried → Carried → Translation
plain_index Plain (plain k t) d = value_index (plain k t) d
plain_index o c d = on_plain d (λ j b. taken (key_carried c j b))

-- an index by a text literal is a field, but for `e['f']` of a value
abbrev pub text_index : List ℕ → Access → Carried → Carried → Translation
text_index f Plain (plain k t) d = plain_index Plain (plain k t) d
text_index f o c d = taken (field_carried o f c)

-- an index that is an int literal of at least 0
abbrev pub count_literal : Wide → Option ℕ
count_literal (wide.literal (tree.int (pos n))) = Some n
count_literal _ = None

-- an index by such a literal
abbrev pub count_index : ℕ → Access → Carried → Carried → Translation
count_index n Plain (plain k t) d = plain_index Plain (plain k t) d
count_index n o c d = taken (item_carried n c)

abbrev pub index_carried : Option (List ℕ) → Option ℕ → Access → Carried → Carried → Translation
index_carried (Some f) m o c d = text_index f o c d
index_carried None (Some n) o c d = count_index n o c d
index_carried None None o c d = plain_index o c d

-- ---- expressions

-- `variables.f`, or the field f of an operand
abbrev pub selected_translation : Bool → Access → List ℕ → WideScope → Translation → Translation
selected_translation true Plain f s t = variable_translation (lookup f s.variables) f
selected_translation _ o f s t = with_carried t (λ c. taken (field_carried o f c))

-- a translation, if the iteration name x may be bound
abbrev pub unless_taken : List ℕ → Translation → Translation
unless_taken x t = if is_taken x then refused (TakenName x) else t

-- whether an unsigned int may be an operand
abbrev pub compares : BinaryOperator → Bool
compares Equal = true
compares NotEqual = true
compares Less = true
compares LessEqual = true
compares Greater = true
compares GreaterEqual = true
compares _ = false

-- an operand of an operator: an unsigned int, if it may be one and fits 63 bits, is an int
abbrev pub operand : Bool → Wide → Translation → Translation
operand true (wide.uint n) t =
    if nat_lt n 9223372036854775808 then taken (plain kind.Int (tree.literal (tree.int (pos n))))
    else refused UnsignedInt
operand _ a t = t

unfoldable mutual
  -- the translation of a wide expression
  pub translated : WideScope → Wide → Translation
  translated s (wide.literal l) = taken (plain (literal_kind l) (tree.literal l))
  translated s (wide.uint n) = refused UnsignedInt
  translated s (wide.name n) = name_translation (lookup n s.names) n (root_translation s n)
  translated s (wide.root n) = root_translation s n
  translated s (wide.select a o f) = selected_translation (denotes_variables a (is_hidden s)) o f s (translated s a)
  translated s (wide.index a o k) =
      with_carried (translated s a) (λ c. with_carried (translated s k) (λ d. index_carried (text_literal k) (count_literal k) o c d))
  translated s (wide.has a f) = with_carried (translated s a) (λ c. taken (plain kind.Bool (has_carried f c)))
  translated s (wide.unary op a) = with_plain (translated s a) (λ k t. taken (plain (unary_kind op) (tree.unary op t)))
  translated s (wide.binary op a b) =
      with_carried (operand (compares op) a (translated s a)) (λ c. with_carried (operand (compares op) b (translated s b))
      (λ d. binary_carried (is_empty_list b) op c d))
  translated s (wide.ternary c a b) =
      with_plain (translated s c) (λ k t. with_carried (translated s a)
      (λ d. with_carried (translated s b) (λ e. ternary_carried t d e)))
  translated s (wide.list items) = list_translation (items_translated s items)
  translated s (wide.map es) = map_translation (entries_translated s es)
  translated s (wide.fold m r x p) =
      if is_taken x then refused (TakenName x)
      else with_plain (translated s r) (λ k a. with_plain (translated (within x kind.Dyn s) p)
      (λ j b. taken (fold_carried m (written_name x) a b)))
  translated s (wide.filter_map r x p t) =
      if is_taken x then refused (TakenName x)
      else with_plain (translated s r) (λ k a. with_plain (translated (within x kind.Dyn s) p)
      (λ j b. with_plain (translated (within x kind.Dyn s) t) (λ i c. taken (plain kind.List (filter_map_tree (written_name x) a b c)))))
  translated s (wide.call n es) = call_translation (function_named n) n (all_translated s es)
  translated s (wide.method a n es) =
      method_translation s.wrapped (qualified_named (namespace_in a) n) (method_named n) n (translated s a) (all_translated s es)
  translated s (wide.pair_fold m r k v p) =
      let u : PairUse = pair_use (uses k p) (uses v p) in
      unless_taken k (unless_taken v (pair_translation s.wrapped m u (pair_binder u k v s) (translated s r)
      (translated (within_pair u k v s) p)))
  translated s (wide.pair_filter_map r k v p t) =
      let u : PairUse = pair_use (uses k p || uses k t) (uses v p || uses v t) in
      unless_taken k (unless_taken v (pair_filter_translation s.wrapped u (pair_binder u k v s) (translated s r)
      (translated (within_pair u k v s) p) (translated (within_pair u k v s) t)))
  translated s (wide.optional_fold m a x t) =
      if is_taken x then refused (TakenName x)
      else with_carried (translated s a) (λ c. on_list OptionalValue c
      (λ k l. with_carried (translated (within x kind.Dyn s) t) (optional_carried m (written_name x) l)))

  -- the translation of each of the expressions
  pub all_translated : WideScope → Wides → List Translation
  all_translated s wide.no_wides = []
  all_translated s (wide.more_wides a more) = translated s a ∷ all_translated s more

  -- the trees of the items of a list literal
  pub items_translated : WideScope → WideItems → Parts
  items_translated s wide.no_items = parts no_trees None
  items_translated s (wide.more_items o a more) = one_more o (translated s a) (items_translated s more)

  -- the trees of the entries of a map literal
  pub entries_translated : WideScope → WideEntries → Pairs
  entries_translated s wide.no_entries = pairs no_parts_left
  entries_translated s (wide.more_entries o k v more) = entry_more o (translated s k) (translated s v) (entries_translated s more)
