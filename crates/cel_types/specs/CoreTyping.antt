-- The type or the first fault of an expanded expression: that of its plain tree.
use Rattle.std.specs.Prelude.{ℕ, List, [], ◌∷◌}
use Rattle.std.specs.List.{list_all}
use Rattle.cel_macros.specs.CoreTree.{Core, Cores, CoreEntries, no_cores, more_cores, no_core_entries, more_core_entries, literal}
use Rattle.cel_macros.specs.CoreTree.{name, variable, select, has, index, call, method, unary, binary, ternary, list, map, fold, fold_map}
use Rattle.cel_macros.specs.Callee.{Callee, function_in, test_in}
use Rattle.cel_types.specs.declared.cel_type.CelType.{CelType}
use Rattle.cel_types.specs.declared.cel_type.CelType.TheVariants as type
use Rattle.cel_types.specs.Types.{Typing, typed, refused, NoOverload, with_type, with_types}
use Rattle.cel_types.specs.Scope.{Scope, name_type, variable_type, within}
use Rattle.cel_types.specs.TypeTable.{literal_type, field_row, has_row, index_row, unary_row, binary_row, ternary_row, function_row}
use Rattle.cel_types.specs.TypeTable.{method_row, test_row, macro_row, map_row, is_text_key, map_literal_row}

unfoldable mutual
  -- the type of an expanded expression in a scope, or its first fault; parts come from left to right and before their
  -- node
  pub core_typing : Core → Scope → Typing
  core_typing (literal l) s = typed (literal_type l)
  core_typing (name n) s = name_type n s.items
  core_typing (variable v) s = variable_type v s.variables
  core_typing (select a f) s = with_type (core_typing a s) field_row
  core_typing (has a f) s = with_type (core_typing a s) has_row
  core_typing (index a k) s = with_type (core_typing a s) (λ x. with_type (core_typing k s) (λ y. index_row x y))
  core_typing (unary op a) s = with_type (core_typing a s) (unary_row op)
  core_typing (binary op a b) s = with_type (core_typing a s) (λ x. with_type (core_typing b s) (λ y. binary_row op x y))
  core_typing (ternary c a b) s =
      with_type (core_typing c s) (λ x. with_type (core_typing a s) (λ y. with_type (core_typing b s) (λ z. ternary_row x y z)))
  core_typing (list items) s = with_types (core_typings items s) (typed type.List)
  core_typing (map es) s = with_types (core_entry_typings es s) (map_literal_row (list_all is_text_key (core_key_typings es s)))
  core_typing (call c (more_cores a no_cores)) s = with_type (core_typing a s) (function_row (function_in c))
  core_typing (call c arguments) s = with_types (core_typings arguments s) (refused NoOverload)
  core_typing (method a c no_cores) s = with_type (core_typing a s) (method_row (function_in c))
  core_typing (method a c (more_cores b no_cores)) s =
      with_type (core_typing a s) (λ x. with_type (core_typing b s) (λ y. test_row (test_in c) x y))
  core_typing (method a c arguments) s = with_types (core_typing a s ∷ core_typings arguments s) (refused NoOverload)
  core_typing (fold m n r p) s = with_type (core_typing r s) (λ x. with_type (core_typing p (within n s)) (λ y. macro_row m x y))
  core_typing (fold_map n r p t) s =
      with_type (core_typing r s)
      (λ x. with_type (core_typing p (within n s)) (λ y. with_type (core_typing t (within n s)) (λ z. map_row x y z)))

  -- the typing of each of the expressions
  pub core_typings : Cores → Scope → List Typing
  core_typings no_cores s = []
  core_typings (more_cores a more) s = core_typing a s ∷ core_typings more s

  -- the typings of keys and values in order
  pub core_entry_typings : CoreEntries → Scope → List Typing
  core_entry_typings no_core_entries s = []
  core_entry_typings (more_core_entries k v more) s = core_typing k s ∷ core_typing v s ∷ core_entry_typings more s

  -- the typing of each key
  pub core_key_typings : CoreEntries → Scope → List Typing
  core_key_typings no_core_entries s = []
  core_key_typings (more_core_entries k v more) s = core_typing k s ∷ core_key_typings more s

-- the type of a call, given its arguments
abbrev pub call_typing : Callee → Cores → Scope → Typing
call_typing c (more_cores a no_cores) s = with_type (core_typing a s) (function_row (function_in c))
call_typing c arguments s = with_types (core_typings arguments s) (refused NoOverload)

-- the type of a method call on a value of this type, given its arguments
abbrev pub method_typing : Callee → CelType → Cores → Scope → Typing
method_typing c t no_cores s = method_row (function_in c) t
method_typing c t (more_cores b no_cores) s = with_type (core_typing b s) (test_row (test_in c) t)
method_typing c t arguments s = with_types (core_typings arguments s) (refused NoOverload)
