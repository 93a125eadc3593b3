-- Wide expressions as plain data, independent of their layout in memory.
use Rattle.std.specs.Prelude.{ℕ, List, [], ◌∷◌, string_bytes, box_value}
use Rattle.cel_reader.specs.Tree.{Literal, literal_view}
use Rattle.cel_reader.specs.declared.operator.UnaryOperator.{UnaryOperator}
use Rattle.cel_reader.specs.declared.operator.BinaryOperator.{BinaryOperator}
use Rattle.wide_reader.specs.declared.wide.Access.{Access}
use Rattle.wide_reader.specs.declared.wide.Macro.{Macro}
use Rattle.wide_reader.specs.declared.wide.PairMacro.{PairMacro}
use Rattle.wide_reader.specs.declared.wide.OptionalMacro.{OptionalMacro}
use Rattle.wide_reader.specs.declared.wide.Wide.{Wide as CodeWide}
use Rattle.wide_reader.specs.declared.wide.Wide.TheOpen.{Wide-F}
use Rattle.wide_reader.specs.declared.wide.Wide.TheOpen as layer
use Rattle.wide_reader.specs.declared.wide.Wide.TheFolds.{fold-Wide}

mutual
  -- a wide expression, with names by their bytes: `root` is a name with a dot before it, `select` a field of an
  -- operand, `method` a call on one, and the parts of `ternary` are its condition and its values for true and for
  -- false. Of a macro: its range or operand, its names, its predicate if it has one, and its transform
  pub data Wide : Type 0 where
    literal : Literal → Wide
    uint : ℕ → Wide
    name : List ℕ → Wide
    root : List ℕ → Wide
    select : Wide → Access → List ℕ → Wide
    index : Wide → Access → Wide → Wide
    has : Wide → List ℕ → Wide
    unary : UnaryOperator → Wide → Wide
    binary : BinaryOperator → Wide → Wide → Wide
    ternary : Wide → Wide → Wide → Wide
    list : WideItems → Wide
    map : WideEntries → Wide
    fold : Macro → Wide → List ℕ → Wide → Wide
    filter_map : Wide → List ℕ → Wide → Wide → Wide
    pair_fold : PairMacro → Wide → List ℕ → List ℕ → Wide → Wide
    pair_filter_map : Wide → List ℕ → List ℕ → Wide → Wide → Wide
    optional_fold : OptionalMacro → Wide → List ℕ → Wide → Wide
    call : List ℕ → Wides → Wide
    method : Wide → List ℕ → Wides → Wide

  -- the arguments of a call
  pub data Wides : Type 0 where
    no_wides : Wides
    more_wides : Wide → Wides → Wides

  -- the items of a list literal, each with or without a question mark
  pub data WideItems : Type 0 where
    no_items : WideItems
    more_items : Access → Wide → WideItems → WideItems

  -- the entries of a map literal, each with or without a question mark, a key and its value
  pub data WideEntries : Type 0 where
    no_entries : WideEntries
    more_entries : Access → Wide → Wide → WideEntries → WideEntries

-- the expressions of a list
abbrev pub wides : List Wide → Wides
wides [] = no_wides
wides (a ∷ more) = more_wides a (wides more)

-- the items of a list
abbrev pub items : List (Access × Wide) → WideItems
items [] = no_items
items (e ∷ es) = more_items e.0 e.1 (items es)

-- the entries of a list
abbrev pub entries : List (Access × Wide × Wide) → WideEntries
entries [] = no_entries
entries (e ∷ es) = more_entries e.0 e.1 e.2 (entries es)

-- the expressions as a list
abbrev pub wide_list : Wides → List Wide
wide_list no_wides = []
wide_list (more_wides a more) = a ∷ wide_list more

-- the items as a list
abbrev pub item_list : WideItems → List (Access × Wide)
item_list no_items = []
item_list (more_items o a more) = (o, a) ∷ item_list more

-- the entries as a list
abbrev pub entry_list : WideEntries → List (Access × Wide × Wide)
entry_list no_entries = []
entry_list (more_entries o k v more) = (o, k, v) ∷ entry_list more

-- one layer of an expression as plain data, from its converted children
abbrev pub view_step : Wide-F Wide → Wide
view_step (layer.Literal l) = literal (literal_view l)
view_step (layer.Uint n) = uint n
view_step (layer.Name n) = name (string_bytes n)
view_step (layer.Root n) = root (string_bytes n)
view_step (layer.Select a o f) = select (box_value a) o (string_bytes f)
view_step (layer.Index a o k) = index (box_value a) o (box_value k)
view_step (layer.Has a f) = has (box_value a) (string_bytes f)
view_step (layer.Unary op a) = unary op (box_value a)
view_step (layer.Binary op a b) = binary op (box_value a) (box_value b)
view_step (layer.Ternary c a b) = ternary (box_value c) (box_value a) (box_value b)
view_step (layer.List es) = list (items es.items)
view_step (layer.Map es) = map (entries es.items)
view_step (layer.Fold m r x p) = fold m (box_value r) (string_bytes x) (box_value p)
view_step (layer.FilterMap r x p t) = filter_map (box_value r) (string_bytes x) (box_value p) (box_value t)
view_step (layer.PairFold m r k v p) = pair_fold m (box_value r) (string_bytes k) (string_bytes v) (box_value p)
view_step (layer.PairFilterMap r k v p t) =
    pair_filter_map (box_value r) (string_bytes k) (string_bytes v) (box_value p) (box_value t)
view_step (layer.OptionalFold m o x t) = optional_fold m (box_value o) (string_bytes x) (box_value t)
view_step (layer.Call n es) = call (string_bytes n) (wides es.items)
view_step (layer.Method a n es) = method (box_value a) (string_bytes n) (wides es.items)

-- an expression of the code as plain data
abbrev pub view : CodeWide → Wide
view = fold-Wide Wide view_step

-- an item of the code as plain data
abbrev pub item_view : Access × CodeWide → Access × Wide
item_view e = (e.0, view e.1)

-- an entry of the code as plain data
abbrev pub entry_view : Access × CodeWide × CodeWide → Access × Wide × Wide
entry_view e = (e.0, view e.1, view e.2)
