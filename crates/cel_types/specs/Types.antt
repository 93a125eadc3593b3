-- The types of expressions, and their faults.
use Rattle.std.specs.Prelude.{Bool, true, false, ◌&&◌, ◌||◌, List, [], ◌∷◌, Result, Ok, Err, if◌then◌else◌}
use Rattle.std.specs.List.{list_any}
use Rattle.cel_types.specs.declared.cel_type.CelType.{CelType}
use Rattle.cel_types.specs.declared.cel_type.CelType.TheVariants as type
use Rattle.cel_types.specs.declared.type_error.TypeError.{TypeError, TheVariants.UnknownIdentifier, TheVariants.NoMatchingOverload, TheVariants.MisusedVariables}

-- a fault: an unknown name, operands without a row, or a misuse of `variables`
pub data TypeFault : Type 0 where
  UnknownName : TypeFault
  NoOverload : TypeFault
  MisplacedVariables : TypeFault

-- the type of an expression, or its first fault
pub data Typing : Type 0 where
  typed : CelType → Typing
  refused : TypeFault → Typing

-- whether two types are the same
abbrev pub same_type : CelType → CelType → Bool
same_type type.Bool type.Bool = true
same_type type.Int type.Int = true
same_type type.String type.String = true
same_type type.Null type.Null = true
same_type type.List type.List = true
same_type type.Map type.Map = true
same_type type.Dyn type.Dyn = true
same_type _ _ = false

-- one of these types, or Dyn
abbrev pub allowed : List CelType → CelType → Bool
allowed ts t = same_type t type.Dyn || list_any (same_type t) ts

-- the types are the same, or one is Dyn
abbrev pub agree : CelType → CelType → Bool
agree a b = same_type a b || (same_type a type.Dyn || same_type b type.Dyn)

-- if one of the two types is Dyn, the other one
abbrev pub known_of : CelType → CelType → CelType
known_of a b = if same_type a type.Dyn then b else a

-- a row of the type table
abbrev pub row : Bool → CelType → Typing
row holds t = if holds then typed t else refused NoOverload

-- the fault of a part, if it has one, else the result for its type
abbrev pub with_type : Typing → (CelType → Typing) → Typing
with_type (typed t) then_type = then_type t
with_type (refused y) then_type = refused y

-- both are one of these types, or Dyn
abbrev pub both_allowed : List CelType → CelType → CelType → Bool
both_allowed ts a b = allowed ts a && allowed ts b

-- the first fault among some parts, else this result
abbrev pub with_types : List Typing → Typing → Typing
with_types [] last = last
with_types (x ∷ xs) last = with_type x (λ t. with_types xs last)

-- the fault for each error of the code
abbrev pub fault_of : TypeError → TypeFault
fault_of UnknownIdentifier = UnknownName
fault_of NoMatchingOverload = NoOverload
fault_of MisusedVariables = MisplacedVariables

-- a result of the code, as a type or a fault
abbrev pub typing_of : Result CelType TypeError → Typing
typing_of (Ok t) = typed t
typing_of (Err y) = refused (fault_of y)
