-- Names and variables of the code as plain data, and what is known of calls with a fixed number of operands.
use Rattle.std.specs.Prelude.{ℕ, Bool, true, false, ◌&&◌, List, map, string_bytes, Option, Some, None}
use Rattle.wide_reader.specs.declared.wide.Macro.{Macro}
use Rattle.wide_reader.specs.declared.wide.Macro.TheVariants as macro
use Rattle.wide_reader.specs.declared.wide.PairMacro.{PairMacro, TheVariants.TransformList}
use Rattle.wide_meaning.specs.declared.function.Method.{Method}
use Rattle.wide_meaning.specs.declared.function.Method.TheVariants as method
use Rattle.wide_meaning.specs.declared.function.Qualified.{Qualified}
use Rattle.wide_meaning.specs.declared.function.Qualified.TheVariants as qualified
use Rattle.wide_widths.specs.Narrow.{NarrowNames, binding}
use Rattle.wide_indices.specs.Narrow.{outside}
use Rattle.wide_indices.specs.declared.known_variables.KnownVariable.{KnownVariable}
use Rattle.wide_indices.specs.declared.names.Names.{Names}
use Rattle.wide_indices.specs.declared.names.Names.TheOpen.{Names-F}
use Rattle.wide_indices.specs.declared.names.Names.TheOpen as layer
use Rattle.wide_indices.specs.declared.names.Names.TheFolds.{fold-Names}

-- a variable, and whether its value is narrow
abbrev pub known_view : KnownVariable → List ℕ × Bool
known_view v = (string_bytes v.name, v.is_narrow)

-- one layer of names, and what is known of those around it
abbrev pub names_step : Names-F NarrowNames → NarrowNames
names_step (layer.Outside variables) = outside (map known_view variables.now)
names_step (layer.Within n b outer) = binding n.now b outer.now

-- what is known of the code's names
abbrev pub names_in : Names → NarrowNames
names_in = fold-Names NarrowNames names_step

-- whether a macro's result is narrow, by whether its range and its part are
abbrev pub fold_is_narrow : Macro → Bool → Bool → Bool
fold_is_narrow macro.Filter range part = range
fold_is_narrow macro.Map range part = range && part
fold_is_narrow m range part = true

abbrev pub pair_fold_is_narrow : PairMacro → Bool → Bool → Bool
pair_fold_is_narrow TransformList range part = range && part
pair_fold_is_narrow m range part = true

-- whether a function with a namespace is of two lists
abbrev pub is_of_sets : Option Qualified → Bool
is_of_sets (Some qualified.SetsContains) = true
is_of_sets (Some qualified.SetsIntersects) = true
is_of_sets (Some qualified.SetsEquivalent) = true
is_of_sets _ = false

-- whether a function with a namespace, or a method of an operand, of two arguments is narrow
abbrev pub of_two : Option Qualified → Option Method → Bool → Bool
of_two (Some q) m x = is_of_sets (Some q)
of_two None (Some method.Slice) x = x
of_two None m x = false
