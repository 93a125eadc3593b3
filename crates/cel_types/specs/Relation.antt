-- The type or the fault of an expression, as relations over the rows of the type table.
use Rattle.std.specs.Prelude.{◌≡◌, ◌↔◌, ◌⊎◌, List, [], ◌∷◌, map, is_some, if◌then◌else◌}
use Rattle.cel_reader.specs.Tree as tree
use Rattle.cel_reader.specs.Tree.{Tree, TreeEntries, no_trees, more_trees, no_entries, more_entries, tree_list}
use Rattle.cel_macros.specs.Macros.{macro_named, is_map, is_has, is_variables}
use Rattle.cel_types.specs.declared.cel_type.CelType.{CelType}
use Rattle.cel_types.specs.Types.{TypeFault, UnknownName, NoOverload, MisplacedVariables}
use Rattle.cel_types.specs.Scope.{Scope, within}
use Rattle.cel_types.specs.Typing.{HasType, HasFault}
use Rattle.cel_types.specs.TypeRows.{IsRow}

-- the keys and values of a map literal, in source order
abbrev pub keys_and_values : TreeEntries → List Tree
keys_and_values no_entries = []
keys_and_values (more_entries k v more) = k ∷ v ∷ keys_and_values more

-- these expressions, each in this scope
abbrev pub in_scope : Scope → List Tree → List (Scope × Tree)
in_scope s es = map (λ e. (s, e)) es

-- The parts of an expression from left to right, each with its scope. In `variables.v` the name before the dot is not
-- a part. In `has(a.f)` the part is a. The parts of a macro are its range and, with its iteration name in scope, the
-- arguments after that name.
abbrev pub parts_of : Scope → Tree → List (Scope × Tree)
parts_of s (tree.literal l) = []
parts_of s (tree.name n) = []
parts_of s (tree.select a f) = if is_variables a then [] else in_scope s (a ∷ [])
parts_of s (tree.index a k) = in_scope s (a ∷ k ∷ [])
parts_of s (tree.unary o a) = in_scope s (a ∷ [])
parts_of s (tree.binary o a b) = in_scope s (a ∷ b ∷ [])
parts_of s (tree.ternary c a b) = in_scope s (c ∷ a ∷ b ∷ [])
parts_of s (tree.list items) = in_scope s (tree_list items)
parts_of s (tree.map es) = in_scope s (keys_and_values es)
parts_of s (tree.call n (more_trees (tree.select a f) no_trees)) = in_scope s ((if is_has n then a else tree.select a f) ∷ [])
parts_of s (tree.call n arguments) = in_scope s (tree_list arguments)
parts_of s (tree.method a n (more_trees (tree.name i) (more_trees p no_trees))) =
    (s, a) ∷ (if is_some (macro_named n) then in_scope (within i s) (p ∷ []) else in_scope s (tree.name i ∷ p ∷ []))
parts_of s (tree.method a n (more_trees (tree.name i) (more_trees p (more_trees t no_trees)))) =
    (s, a) ∷ (if is_map n then in_scope (within i s) (p ∷ t ∷ []) else in_scope s (tree.name i ∷ p ∷ t ∷ []))
parts_of s (tree.method a n arguments) = in_scope s (a ∷ tree_list arguments)

mutual
  -- the expression has this type in the scope: its parts have types, and a row of the table has this type for them
  pub data Has : Scope → Tree → CelType → Type 0 where
    by_row : {s : Scope} {e : Tree} {ts : List CelType} {t : CelType} → Have (parts_of s e) ts → IsRow s e ts t → Has s e t

  -- the expressions have these types, in order
  pub data Have : List (Scope × Tree) → List CelType → Type 0 where
    no_parts : Have [] []
    next_part : {s : Scope} {e : Tree} {t : CelType} {more : List (Scope × Tree)} {ts : List CelType} → Has s e t → Have more ts
        → Have ((s, e) ∷ more) (t ∷ ts)

-- the fault if no row has the types of the parts: a misuse of `variables`, an unknown name, or else the operands
abbrev pub cause : Tree → TypeFault
cause (tree.name n) = if is_variables (tree.name n) then MisplacedVariables else UnknownName
cause (tree.select a f) = if is_variables a then MisplacedVariables else NoOverload
cause _ = NoOverload

mutual
  -- the expression has this fault in the scope: a part has it, or the parts have types without a row
  pub data Fault : Scope → Tree → TypeFault → Type 0 where
    in_part : {s : Scope} {e : Tree} {y : TypeFault} → FirstFault (parts_of s e) y → Fault s e y
    at_node : {s : Scope} {e : Tree} {ts : List CelType} → Have (parts_of s e) ts → ((t : CelType) → IsRow s e ts t → ⊥)
        → Fault s e (cause e)

  -- the first of these expressions that has no type has this fault
  pub data FirstFault : List (Scope × Tree) → TypeFault → Type 0 where
    here : {s : Scope} {e : Tree} {more : List (Scope × Tree)} {y : TypeFault} → Fault s e y → FirstFault ((s, e) ∷ more) y
    behind : {s : Scope} {e : Tree} {t : CelType} {more : List (Scope × Tree)} {y : TypeFault} → Has s e t → FirstFault more y
        → FirstFault ((s, e) ∷ more) y

-- `typing` gives the type that the rows give, and none exactly if they give none
abbrev pub TypesAreRows : Type 0
TypesAreRows = (e : Tree) (s : Scope) (t : CelType) → HasType s e t ↔ Has s e t

-- `typing` gives the fault of the first part without a row
abbrev pub FaultsAreFirst : Type 0
FaultsAreFirst = (e : Tree) (s : Scope) (y : TypeFault) → HasFault s e y ↔ Fault s e y

-- each expression has exactly one type or one fault, never both
pub record OneTypeOrFault : Type 0 where
  pub one : (s : Scope) (e : Tree) → ((t : CelType) × Has s e t) ⊎ ((y : TypeFault) × Fault s e y)
  pub one_type : (s : Scope) (e : Tree) (t u : CelType) → Has s e t → Has s e u → t ≡ u
  pub one_fault : (s : Scope) (e : Tree) (y z : TypeFault) → Fault s e y → Fault s e z → y ≡ z
  pub never_both : (s : Scope) (e : Tree) (t : CelType) (y : TypeFault) → Has s e t → Fault s e y → ⊥
