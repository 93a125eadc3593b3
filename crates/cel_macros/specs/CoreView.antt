-- Expanded expressions as plain data, independent of their layout in memory.
use Rattle.std.specs.Prelude.{List, [], ◌∷◌, string_bytes, box_value}
use Rattle.cel_reader.specs.Tree.{literal_view}
use Rattle.cel_macros.specs.Callee.{callee_view}
use Rattle.cel_macros.specs.CoreTree.{Core, Cores, CoreEntries, no_cores, more_cores, no_core_entries, more_core_entries, literal}
use Rattle.cel_macros.specs.CoreTree.{name, variable, select, has, index, call, method, unary, binary, ternary, list, map, fold, fold_map}
use Rattle.cel_macros.specs.declared.core_tree.Core.{Core as CodeCore}
use Rattle.cel_macros.specs.declared.core_tree.Core.TheOpen.{Core-F}
use Rattle.cel_macros.specs.declared.core_tree.Core.TheOpen as layer
use Rattle.cel_macros.specs.declared.core_tree.Core.TheFolds.{fold-Core}

-- the expressions of a list
abbrev pub cores : List Core → Cores
cores [] = no_cores
cores (a ∷ more) = more_cores a (cores more)

-- the entries of a list of keys and values
abbrev pub core_entries : List (Core × Core) → CoreEntries
core_entries [] = no_core_entries
core_entries (e ∷ es) = more_core_entries e.0 e.1 (core_entries es)

-- one layer of an expression as plain data, from its converted children
abbrev pub core_step : Core-F Core → Core
core_step (layer.Literal l) = literal (literal_view l)
core_step (layer.Name n) = name (string_bytes n)
core_step (layer.Variable n) = variable (string_bytes n)
core_step (layer.Select a n) = select (box_value a) (string_bytes n)
core_step (layer.Has a n) = has (box_value a) (string_bytes n)
core_step (layer.Index a b) = index (box_value a) (box_value b)
core_step (layer.Call c more) = call (callee_view c) (cores more.items)
core_step (layer.Method a c more) = method (box_value a) (callee_view c) (cores more.items)
core_step (layer.Unary op a) = unary op (box_value a)
core_step (layer.Binary op a b) = binary op (box_value a) (box_value b)
core_step (layer.Ternary a b c) = ternary (box_value a) (box_value b) (box_value c)
core_step (layer.List more) = list (cores more.items)
core_step (layer.Map more) = map (core_entries more.items)
core_step (layer.Fold m n r p) = fold m (string_bytes n) (box_value r) (box_value p)
core_step (layer.FoldMap n r p t) = fold_map (string_bytes n) (box_value r) (box_value p) (box_value t)

-- an expression of the code as plain data
abbrev pub core_view : CodeCore → Core
core_view = fold-Core Core core_step
