-- The type of an expression or its first fault. Parts come from left to right and before their node.
use Rattle.std.specs.Prelude.{◌≡◌, ℕ, Bool, true, false, List, [], ◌∷◌, Option, Some}
use Rattle.std.specs.List.{list_all}
use Rattle.cel_reader.specs.Tree as tree
use Rattle.cel_reader.specs.Tree.{Tree, Trees, TreeEntries, no_trees, more_trees, no_entries, more_entries}
use Rattle.cel_macros.specs.Functions.{function_named, test_named}
use Rattle.cel_macros.specs.declared.function.Function.{Function}
use Rattle.cel_macros.specs.declared.macros.Macro.{Macro}
use Rattle.cel_macros.specs.Macros.{macro_named, is_map, is_has, is_variables, name_of, field_name}
use Rattle.cel_types.specs.declared.cel_type.CelType.{CelType}
use Rattle.cel_types.specs.declared.cel_type.CelType.TheVariants as type
use Rattle.cel_types.specs.Types.{TypeFault, Typing, typed, refused, NoOverload, with_type, with_types}
use Rattle.cel_types.specs.Scope.{Scope, name_type, variable_type, within}
use Rattle.cel_types.specs.TypeTable.{literal_type, field_row, has_row, index_row, unary_row, binary_row, ternary_row, function_row}
use Rattle.cel_types.specs.TypeTable.{method_row, test_row, macro_row, map_row, is_text_key, map_literal_row}

-- the type of a selection: that of variable f if it is from `variables`, else that of a field
abbrev pub selected_type : Bool → List ℕ → Typing → Scope → Typing
selected_type true f a s = variable_type f s.variables
selected_type false f a s = with_type a field_row

-- `has(e.f)`, with the type x of e, or a function of y
abbrev pub call_type : Bool → Option (List ℕ) → Option Function → Typing → Typing → Typing
call_type true (Some f) g x y = with_type x has_row
call_type _ _ g x y = with_type y (function_row g)

-- a macro with its range, and its part for an iteration name; a method that is not a macro has no row
abbrev pub fold_type : Option Macro → Option (List ℕ) → Typing → (List ℕ → Typing) → List Typing → Typing
fold_type (Some m) (Some n) r p parts = with_type r (λ a. with_type (p n) (λ b. macro_row m a b))
fold_type _ _ r p parts = with_types parts (refused NoOverload)

-- `map` with a predicate and a transform, each for an iteration name
abbrev pub fold_map_type : Bool → Option (List ℕ) → Typing → (List ℕ → Typing) → (List ℕ → Typing) → List Typing → Typing
fold_map_type true (Some n) r p t parts = with_type r (λ a. with_type (p n) (λ b. with_type (t n) (λ c. map_row a b c)))
fold_map_type _ _ r p t parts = with_types parts (refused NoOverload)

unfoldable mutual
  -- the type of an expression in a scope, or its first fault; parts come from left to right and before their node
  pub typing : Tree → Scope → Typing
  typing (tree.literal l) s = typed (literal_type l)
  typing (tree.name n) s = name_type n s.items
  typing (tree.select a f) s = selected_type (is_variables a) f (typing a s) s
  typing (tree.index a k) s = with_type (typing a s) (λ x. with_type (typing k s) (λ y. index_row x y))
  typing (tree.unary op a) s = with_type (typing a s) (unary_row op)
  typing (tree.binary op a b) s = with_type (typing a s) (λ x. with_type (typing b s) (λ y. binary_row op x y))
  typing (tree.ternary c a b) s =
      with_type (typing c s) (λ x. with_type (typing a s) (λ y. with_type (typing b s) (λ z. ternary_row x y z)))
  typing (tree.list items) s = with_types (typings items s) (typed type.List)
  typing (tree.map es) s = with_types (entry_typings es s) (map_literal_row (list_all is_text_key (key_typings es s)))
  typing (tree.call n (more_trees a no_trees)) s = call_type (is_has n) (field_name a) (function_named n) (operand_typing a s) (typing a s)
  typing (tree.call n arguments) s = with_types (typings arguments s) (refused NoOverload)
  typing (tree.method a n no_trees) s = with_type (typing a s) (method_row (function_named n))
  typing (tree.method a n (more_trees b no_trees)) s =
      with_type (typing a s) (λ x. with_type (typing b s) (λ y. test_row (test_named n) x y))
  typing (tree.method a n (more_trees x (more_trees p no_trees))) s =
      fold_type (macro_named n) (name_of x) (typing a s) (λ i. typing p (within i s)) (typing a s ∷ typing x s ∷ typing p s ∷ [])
  typing (tree.method a n (more_trees x (more_trees p (more_trees t no_trees)))) s =
      fold_map_type (is_map n) (name_of x) (typing a s) (λ i. typing p (within i s)) (λ i. typing t (within i s))
      (typing a s ∷ typing x s ∷ typing p s ∷ typing t s ∷ [])
  typing (tree.method a n arguments) s = with_types (typing a s ∷ typings arguments s) (refused NoOverload)

  -- for `e.f` the type of e; for other expressions a fault that is not used
  pub operand_typing : Tree → Scope → Typing
  operand_typing (tree.select a f) s = typing a s
  operand_typing _ s = refused NoOverload

  -- the typing of each of the expressions
  pub typings : Trees → Scope → List Typing
  typings no_trees s = []
  typings (more_trees a more) s = typing a s ∷ typings more s

  -- the typings of keys and values in order
  pub entry_typings : TreeEntries → Scope → List Typing
  entry_typings no_entries s = []
  entry_typings (more_entries k v more) s = typing k s ∷ typing v s ∷ entry_typings more s

  -- the typing of each key
  pub key_typings : TreeEntries → Scope → List Typing
  key_typings no_entries s = []
  key_typings (more_entries k v more) s = typing k s ∷ key_typings more s

-- the tree has this type
abbrev pub HasType : Scope → Tree → CelType → Type 0
HasType s e t = typing e s ≡ typed t

-- the first part of the tree without a row has this fault
abbrev pub HasFault : Scope → Tree → TypeFault → Type 0
HasFault s e y = typing e s ≡ refused y
