-- The first invalid macro: a node before its parts, parts from left to right.
use Rattle.std.specs.Prelude.{ℕ, List, Option, Some, None, if◌then◌else◌}
use Rattle.std.specs.Option.{option_or}
use Rattle.wide_reader.specs.Tree as tree
use Rattle.wide_reader.specs.Tree.{Wide, Wides, WideItems, WideEntries, no_wides, more_wides, no_items, more_items, no_entries, more_entries}
use Rattle.wide_reader.specs.Forms.{form_of, is_has, wide_count}
use Rattle.wide_reader.specs.declared.form.Form.{Form, TheVariants.ComputedMap as OfMap}
use Rattle.wide_reader.specs.declared.wide_error.MacroFault.{MacroFault, TheVariants.ArgumentCount, TheVariants.IterationName, TheVariants.NoSelection, TheVariants.ComputedMap}

-- the fault of a call that is left: `has` takes one argument, which selects a field without a question mark
abbrev pub call_fault : List ℕ → Wides → Option MacroFault
call_fault n (more_wides a no_wides) = if is_has n then Some NoSelection else None
call_fault n more = if is_has n then Some ArgumentCount else None

-- the fault of a method that is left although it has the form of a macro: its names are none, or the same
abbrev pub form_fault : Option Form → Option MacroFault
form_fault None = None
form_fault (Some OfMap) = Some ComputedMap
form_fault (Some _) = Some IterationName

unfoldable mutual
  -- the fault of the first invalid macro
  pub fault : Wide → Option MacroFault
  fault (tree.literal l) = None
  fault (tree.uint n) = None
  fault (tree.name n) = None
  fault (tree.root n) = None
  fault (tree.select a o f) = fault a
  fault (tree.index a o k) = option_or (fault a) (fault k)
  fault (tree.has a f) = fault a
  fault (tree.unary op a) = fault a
  fault (tree.binary op a b) = option_or (fault a) (fault b)
  fault (tree.ternary c a b) = option_or (fault c) (option_or (fault a) (fault b))
  fault (tree.list more) = items_fault more
  fault (tree.map more) = entries_fault more
  fault (tree.fold m a x p) = option_or (fault a) (fault p)
  fault (tree.filter_map a x p t) = option_or (fault a) (option_or (fault p) (fault t))
  fault (tree.pair_fold m a k v p) = option_or (fault a) (fault p)
  fault (tree.pair_filter_map a k v p t) = option_or (fault a) (option_or (fault p) (fault t))
  fault (tree.optional_fold m a x t) = option_or (fault a) (fault t)
  fault (tree.call n more) = option_or (call_fault n more) (wides_fault more)
  fault (tree.method a n more) = option_or (form_fault (form_of n (wide_count more))) (option_or (fault a) (wides_fault more))

  -- the first fault in the arguments
  pub wides_fault : Wides → Option MacroFault
  wides_fault no_wides = None
  wides_fault (more_wides a more) = option_or (fault a) (wides_fault more)

  -- the first fault in the items
  pub items_fault : WideItems → Option MacroFault
  items_fault no_items = None
  items_fault (more_items o a more) = option_or (fault a) (items_fault more)

  -- the first fault in the entries, a key before its value
  pub entries_fault : WideEntries → Option MacroFault
  entries_fault no_entries = None
  entries_fault (more_entries o k v more) = option_or (fault k) (option_or (fault v) (entries_fault more))
