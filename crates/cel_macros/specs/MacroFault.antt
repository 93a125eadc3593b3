-- The first invalid macro: a node before its parts, parts from left to right.
use Rattle.std.specs.Prelude.{ℕ, Bool, true, false, ◌||◌, List, Option, Some, None, Result, Ok, Err, if◌then◌else◌, bytes_eq}
use Rattle.std.specs.Option.{option_or}
use Rattle.cel_reader.specs.Tree as tree
use Rattle.cel_reader.specs.Tree.{Tree, Trees, TreeEntries, no_trees, more_trees, no_entries, more_entries}
use Rattle.cel_macros.specs.declared.macro_error.MacroError.{MacroError, TheVariants.WrongArgumentCount, TheVariants.InvalidIterationName, TheVariants.HasWithoutSelection}
use Rattle.cel_macros.specs.Environment.{is_root}
use Rattle.cel_macros.specs.declared.macros.Macro.{Macro, TheVariants.Map}
use Rattle.cel_macros.specs.Macros.{macro_named, is_has, variables_name, name_of, field_name}

-- the faults of a macro: the number of its arguments, its iteration name, or an
-- argument of `has` that selects no field
pub data MacroFault : Type 0 where
  ArgumentCount : MacroFault
  IterationName : MacroFault
  NoSelection : MacroFault

-- whether a name must not be an iteration name: it is a root, or `variables`
abbrev pub is_taken : List ℕ → Bool
is_taken n = is_root n || bytes_eq variables_name n

-- the fault of an iteration name that is no name, or one that is taken
abbrev pub name_fault : Option (List ℕ) → Option MacroFault
name_fault (Some n) = if is_taken n then Some IterationName else None
name_fault None = Some IterationName

-- the fault of an argument of `has` that selects no field
abbrev pub selection_fault : Option (List ℕ) → Option MacroFault
selection_fault (Some f) = None
selection_fault None = Some NoSelection

-- the fault of a call, which can have one only if its name is `has`: that takes one argument, which selects a field
abbrev pub has_fault : Bool → Trees → Option MacroFault
has_fault false arguments = None
has_fault true (more_trees a no_trees) = selection_fault (field_name a)
has_fault true _ = Some ArgumentCount

-- the fault of a macro with three arguments: only `map` takes a third, and the first must be an iteration name
abbrev pub three_fault : Macro → Option (List ℕ) → Option MacroFault
three_fault Map n = name_fault n
three_fault _ n = Some ArgumentCount

-- the fault of a method, which can have one only if its name is a macro's: that takes two or three
-- arguments, the first of them an iteration name
abbrev pub fold_fault : Option Macro → Trees → Option MacroFault
fold_fault None arguments = None
fold_fault (Some m) (more_trees x (more_trees p no_trees)) = name_fault (name_of x)
fold_fault (Some m) (more_trees x (more_trees p (more_trees t no_trees))) = three_fault m (name_of x)
fold_fault (Some m) _ = Some ArgumentCount

unfoldable mutual
  -- the fault of the first invalid macro: a node before its parts, parts from left to right
  pub macro_fault : Tree → Option MacroFault
  macro_fault (tree.literal l) = None
  macro_fault (tree.name n) = None
  macro_fault (tree.select a f) = macro_fault a
  macro_fault (tree.index a k) = option_or (macro_fault a) (macro_fault k)
  macro_fault (tree.unary op a) = macro_fault a
  macro_fault (tree.binary op a b) = option_or (macro_fault a) (macro_fault b)
  macro_fault (tree.ternary c a b) = option_or (macro_fault c) (option_or (macro_fault a) (macro_fault b))
  macro_fault (tree.list items) = trees_fault items
  macro_fault (tree.map es) = entries_fault es
  macro_fault (tree.call n arguments) = option_or (has_fault (is_has n) arguments) (trees_fault arguments)
  macro_fault (tree.method a n arguments) =
      option_or (fold_fault (macro_named n) arguments) (option_or (macro_fault a) (trees_fault arguments))

  -- the first fault in the expressions, from left to right
  pub trees_fault : Trees → Option MacroFault
  trees_fault no_trees = None
  trees_fault (more_trees a more) = option_or (macro_fault a) (trees_fault more)

  -- the first fault in the entries, a key before its value
  pub entries_fault : TreeEntries → Option MacroFault
  entries_fault no_entries = None
  entries_fault (more_entries k v more) = option_or (macro_fault k) (option_or (macro_fault v) (entries_fault more))

-- the error of a fault
abbrev pub fault_error : MacroFault → MacroError
fault_error ArgumentCount = WrongArgumentCount
fault_error IterationName = InvalidIterationName
fault_error NoSelection = HasWithoutSelection

-- the result of the check for faults
abbrev pub refusal : Option MacroFault → Result (Unit {0}) MacroError
refusal None = Ok tt
refusal (Some fault) = Err (fault_error fault)
