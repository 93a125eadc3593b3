-- The rows of the type table. A row also holds if an operand has type Dyn.
use Rattle.std.specs.Prelude.{Bool, true, false, ◌&&◌, [], ◌∷◌, Option, Some, None, if◌then◌else◌}
use Rattle.cel_reader.specs.Tree as tree
use Rattle.cel_reader.specs.declared.operator.BinaryOperator.{BinaryOperator}
use Rattle.cel_reader.specs.declared.operator.BinaryOperator.TheVariants as binary
use Rattle.cel_reader.specs.declared.operator.UnaryOperator.{UnaryOperator}
use Rattle.cel_reader.specs.declared.operator.UnaryOperator.TheVariants as unary
use Rattle.cel_macros.specs.declared.function.Function.{Function, TheVariants.Size, TheVariants.String, TheVariants.Dyn}
use Rattle.cel_macros.specs.declared.text_test.TextTest.{TextTest}
use Rattle.cel_macros.specs.declared.macros.Macro.{Macro, TheVariants.Filter, TheVariants.Map}
use Rattle.cel_types.specs.declared.cel_type.CelType.{CelType}
use Rattle.cel_types.specs.declared.cel_type.CelType.TheVariants as type
use Rattle.cel_types.specs.Types.{Typing, typed, refused, NoOverload, same_type, allowed, agree, known_of, both_allowed, row}

-- the type of a literal
abbrev pub literal_type : tree.Literal → CelType
literal_type (tree.int z) = type.Int
literal_type (tree.text s) = type.String
literal_type (tree.truth b) = type.Bool
literal_type tree.null = type.Null

-- a.f of a map is Dyn
abbrev pub field_row : CelType → Typing
field_row t = row (allowed (type.Map ∷ []) t) type.Dyn

-- has(a.f) of a map is a bool
abbrev pub has_row : CelType → Typing
has_row t = row (allowed (type.Map ∷ []) t) type.Bool

-- a[k] is Dyn: for a list and an int, a map and a string, and for Dyn and either
abbrev pub index_row : CelType → CelType → Typing
index_row type.List k = row (allowed (type.Int ∷ []) k) type.Dyn
index_row type.Map k = row (allowed (type.String ∷ []) k) type.Dyn
index_row type.Dyn k = row (allowed (type.Int ∷ type.String ∷ []) k) type.Dyn
index_row _ k = refused NoOverload

-- !a of a bool is a bool, -a of an int is an int
abbrev pub unary_row : UnaryOperator → CelType → Typing
unary_row unary.Not t = row (allowed (type.Bool ∷ []) t) type.Bool
unary_row unary.Negate t = row (allowed (type.Int ∷ []) t) type.Int

-- || and && of two bools are a bool
abbrev pub logic_row : CelType → CelType → Typing
logic_row a b = row (both_allowed (type.Bool ∷ []) a b) type.Bool

-- <, <=, >= and > of two ints, two strings or two bools are a bool
abbrev pub order_row : CelType → CelType → Typing
order_row a b = row (both_allowed (type.Int ∷ type.String ∷ type.Bool ∷ []) a b && agree a b) type.Bool

-- x in y is a bool: for any x and a list or Dyn, and for a string and a map
abbrev pub member_row : CelType → CelType → Typing
member_row x type.List = typed type.Bool
member_row x type.Dyn = typed type.Bool
member_row x type.Map = row (allowed (type.String ∷ []) x) type.Bool
member_row x _ = refused NoOverload

-- + of two ints, two strings or two lists has their type
abbrev pub sum_row : CelType → CelType → Typing
sum_row a b = row (both_allowed (type.Int ∷ type.String ∷ type.List ∷ []) a b && agree a b) (known_of a b)

-- -, *, / and % of two ints are an int
abbrev pub arithmetic_row : CelType → CelType → Typing
arithmetic_row a b = row (both_allowed (type.Int ∷ []) a b) type.Int

-- the row of a binary operator, given the types of its operands; == and != of one type are a bool
abbrev pub binary_row : BinaryOperator → CelType → CelType → Typing
binary_row binary.Or a b = logic_row a b
binary_row binary.And a b = logic_row a b
binary_row binary.Less a b = order_row a b
binary_row binary.LessEqual a b = order_row a b
binary_row binary.GreaterEqual a b = order_row a b
binary_row binary.Greater a b = order_row a b
binary_row binary.Equal a b = row (agree a b) type.Bool
binary_row binary.NotEqual a b = row (agree a b) type.Bool
binary_row binary.In a b = member_row a b
binary_row binary.Add a b = sum_row a b
binary_row binary.Subtract a b = arithmetic_row a b
binary_row binary.Multiply a b = arithmetic_row a b
binary_row binary.Divide a b = arithmetic_row a b
binary_row binary.Remainder a b = arithmetic_row a b

-- branches of one type have this type; otherwise Dyn if one is Dyn
abbrev pub ternary_row : CelType → CelType → CelType → Typing
ternary_row c a b = row (allowed (type.Bool ∷ []) c && agree a b) (if same_type a b then a else type.Dyn)

-- size of a string, a list or a map is an int
abbrev pub size_row : CelType → Typing
size_row t = row (allowed (type.String ∷ type.List ∷ type.Map ∷ []) t) type.Int

-- the row of a function: size gives an int; string of an int or a string gives a string; dyn of any value is Dyn
abbrev pub function_row : Option Function → CelType → Typing
function_row (Some Size) t = size_row t
function_row (Some String) t = row (allowed (type.Int ∷ type.String ∷ []) t) type.String
function_row (Some Dyn) t = typed type.Dyn
function_row None t = refused NoOverload

-- the row of a method without arguments: size
abbrev pub method_row : Option Function → CelType → Typing
method_row (Some Size) t = size_row t
method_row _ t = refused NoOverload

-- startsWith, endsWith and contains of two strings are a bool
abbrev pub test_row : Option TextTest → CelType → CelType → Typing
test_row (Some f) a b = row (both_allowed (type.String ∷ []) a b) type.Bool
test_row None a b = refused NoOverload

-- the types that a macro accepts for its part: a bool, or any type for `map`
abbrev pub part_allowed : Macro → CelType → Bool
part_allowed Map t = true
part_allowed _ t = allowed (type.Bool ∷ []) t

-- the type of a macro: a bool, or a list
abbrev pub macro_type : Macro → CelType
macro_type Filter = type.List
macro_type Map = type.List
macro_type _ = type.Bool

-- the range of a macro is a list or a map
abbrev pub is_range : CelType → Bool
is_range t = allowed (type.List ∷ type.Map ∷ []) t

-- the row of a macro, given the types of its range and its part
abbrev pub macro_row : Macro → CelType → CelType → Typing
macro_row m r p = row (is_range r && part_allowed m p) (macro_type m)

-- the row of `map` with a predicate and a transform, given the types of its range and of both
abbrev pub map_row : CelType → CelType → CelType → Typing
map_row r p t = row (is_range r && allowed (type.Bool ∷ []) p) type.List

-- a key may be a text: it has type string or Dyn, and no fault
abbrev pub is_text_key : Typing → Bool
is_text_key (typed t) = allowed (type.String ∷ []) t
is_text_key (refused y) = false

-- the row of a map literal; the argument says whether all its keys may be texts
abbrev pub map_literal_row : Bool → Typing
map_literal_row texts = row texts type.Map
