-- Expansions, callees and faults of macros, worked by hand from cel-spec's macros and standard definitions.
use Rattle.std.specs.Prelude.{◌≡◌, true, false, pos, [], ◌∷◌, Some, None, codes}
use Rattle.cel_reader.specs.Tree as tree
use Rattle.cel_reader.specs.Tree.{more_trees, no_trees}
use Rattle.cel_reader.specs.Written.{call, dot, method, name, num, yes}
use Rattle.cel_macros.specs.Callee.{OfFunction, OfTest, Unknown, callee_name, callee_named, function_in, test_in}
use Rattle.cel_macros.specs.CoreTree as core
use Rattle.cel_macros.specs.CoreTree.{Core, expanded, more_cores, no_cores}
use Rattle.cel_macros.specs.ErrorCodes.{macro_error_code}
use Rattle.cel_macros.specs.Functions.{contains, holds_of}
use Rattle.cel_macros.specs.MacroFault.{ArgumentCount, IterationName, NoSelection, fault_error, fold_fault, has_fault}
use Rattle.cel_macros.specs.MacroFault.{name_fault, three_fault}
use Rattle.cel_macros.specs.Macros.{macro_named}
use Rattle.cel_macros.specs.declared.function.Function.TheVariants as function
use Rattle.cel_macros.specs.declared.macro_error.MacroError.TheVariants as error
use Rattle.cel_macros.specs.declared.macros.Macro.TheVariants as macro
use Rattle.cel_macros.specs.declared.text_test.TextTest.TheVariants as test

-- the literals 1, 2, 3 and 4
abbrev pub one : Core
one = core.literal (tree.int (pos 1))

abbrev pub two : Core
two = core.literal (tree.int (pos 2))

abbrev pub three : Core
three = core.literal (tree.int (pos 3))

-- macros and calls, each argument in its place
pub record ExpansionRowsStand : Type 0 where
  -- 1.all(i, 2), 1.map(i, 2, 3) and 1.map(i, 2)
  pub fold : expanded (method (num 1) "all" (name "i" ∷ num 2 ∷ [])) ≡ core.fold macro.All (codes "i") one two
  pub fold_map : expanded (method (num 1) "map" (name "i" ∷ num 2 ∷ num 3 ∷ [])) ≡ core.fold_map (codes "i") one two three
  pub transform : expanded (method (num 1) "map" (name "i" ∷ num 2 ∷ [])) ≡ core.fold macro.Map (codes "i") one two
  -- 1.all(2, 3), 1.all(i, 2, 3) and 1.f(i, 2) are no macros
  pub no_name : expanded (method (num 1) "all" (num 2 ∷ num 3 ∷ []))
      ≡ core.method one (Unknown (codes "all")) (more_cores two (more_cores three no_cores))
  pub no_third : expanded (method (num 1) "all" (name "i" ∷ num 2 ∷ num 3 ∷ []))
      ≡ core.method one (Unknown (codes "all")) (more_cores (core.name (codes "i")) (more_cores two (more_cores three no_cores)))
  pub no_macro : expanded (method (num 1) "f" (name "i" ∷ num 2 ∷ []))
      ≡ core.method one (Unknown (codes "f")) (more_cores (core.name (codes "i")) (more_cores two no_cores))
  -- has(variables.a.b), has(1) and variables.a
  pub has : expanded (call "has" (dot (dot (name "variables") "a") "b" ∷ [])) ≡ core.has (core.variable (codes "a")) (codes "b")
  pub has_of_literal : expanded (call "has" (num 1 ∷ [])) ≡ core.call (Unknown (codes "has")) (more_cores one no_cores)
  pub variable : expanded (dot (name "variables") "a") ≡ core.variable (codes "a")
  pub size : expanded (call "size" (num 1 ∷ [])) ≡ core.call (OfFunction function.Size) (more_cores one no_cores)

-- names of functions, tests and macros
pub record CalleeRowsStand : Type 0 where
  pub size : callee_named (codes "size") ≡ OfFunction function.Size
  pub string : callee_named (codes "string") ≡ OfFunction function.String
  pub dyn : callee_named (codes "dyn") ≡ OfFunction function.Dyn
  pub starts_with : callee_named (codes "startsWith") ≡ OfTest test.StartsWith
  pub ends_with : callee_named (codes "endsWith") ≡ OfTest test.EndsWith
  pub contains_text : callee_named (codes "contains") ≡ OfTest test.Contains
  pub other : callee_named (codes "matches") ≡ Unknown (codes "matches")
  pub name_of_size : callee_name (OfFunction function.Size) ≡ codes "size"
  pub name_of_string : callee_name (OfFunction function.String) ≡ codes "string"
  pub name_of_dyn : callee_name (OfFunction function.Dyn) ≡ codes "dyn"
  pub name_of_starts_with : callee_name (OfTest test.StartsWith) ≡ codes "startsWith"
  pub name_of_ends_with : callee_name (OfTest test.EndsWith) ≡ codes "endsWith"
  pub name_of_contains : callee_name (OfTest test.Contains) ≡ codes "contains"
  pub name_of_other : callee_name (Unknown (codes "f")) ≡ codes "f"
  pub function_of_test : function_in (OfTest test.Contains) ≡ None
  pub test_of_function : test_in (OfFunction function.Size) ≡ None
  pub all : macro_named (codes "all") ≡ Some macro.All
  pub exists : macro_named (codes "exists") ≡ Some macro.Exists
  pub exists_one : macro_named (codes "exists_one") ≡ Some macro.ExistsOne
  pub filter : macro_named (codes "filter") ≡ Some macro.Filter
  pub map : macro_named (codes "map") ≡ Some macro.Map
  pub existsOne : macro_named (codes "existsOne") ≡ None
  pub a_begins_ab : holds_of test.StartsWith (codes "ab") (codes "a") ≡ true
  pub b_begins_ab : holds_of test.StartsWith (codes "ab") (codes "b") ≡ false
  pub b_ends_ab : holds_of test.EndsWith (codes "ab") (codes "b") ≡ true
  pub a_ends_ab : holds_of test.EndsWith (codes "ab") (codes "a") ≡ false
  pub b_in_abc : holds_of test.Contains (codes "abc") (codes "b") ≡ true
  pub ac_in_abc : holds_of test.Contains (codes "abc") (codes "ac") ≡ false
  pub empty_in_empty : contains [] [] ≡ true

-- faults, and the error of each
pub record FaultRowsStand : Type 0 where
  pub m1 : fault_error ArgumentCount ≡ error.WrongArgumentCount
  pub m2 : fault_error IterationName ≡ error.InvalidIterationName
  pub m3 : fault_error NoSelection ≡ error.HasWithoutSelection
  pub code_m1 : macro_error_code error.WrongArgumentCount ≡ codes "M1"
  pub code_m2 : macro_error_code error.InvalidIterationName ≡ codes "M2"
  pub code_m3 : macro_error_code error.HasWithoutSelection ≡ codes "M3"
  pub code_of_memory : macro_error_code error.Memory ≡ codes "memory"
  pub no_has : has_fault false no_trees ≡ None
  pub has_of_none : has_fault true no_trees ≡ Some ArgumentCount
  pub has_of_two : has_fault true (more_trees yes (more_trees yes no_trees)) ≡ Some ArgumentCount
  pub has_of_literal : has_fault true (more_trees yes no_trees) ≡ Some NoSelection
  pub has_of_field : has_fault true (more_trees (dot (name "a") "b") no_trees) ≡ None
  pub item_is_root : name_fault (Some (codes "object")) ≡ Some IterationName
  pub item_is_variables : name_fault (Some (codes "variables")) ≡ Some IterationName
  pub item : name_fault (Some (codes "i")) ≡ None
  pub item_is_no_name : name_fault None ≡ Some IterationName
  pub third_of_map : three_fault macro.Map (Some (codes "i")) ≡ None
  pub third_of_filter : three_fault macro.Filter (Some (codes "i")) ≡ Some ArgumentCount
  pub no_macro : fold_fault None no_trees ≡ None
  pub no_arguments : fold_fault (Some macro.All) no_trees ≡ Some ArgumentCount
  pub one_argument : fold_fault (Some macro.All) (more_trees (name "i") no_trees) ≡ Some ArgumentCount
  pub two_arguments : fold_fault (Some macro.All) (more_trees (name "i") (more_trees yes no_trees)) ≡ None
