-- The kinds of literals and of the results of operators.
use Rattle.cel_reader.specs.Tree as tree
use Rattle.cel_reader.specs.declared.operator.BinaryOperator.{BinaryOperator}
use Rattle.cel_reader.specs.declared.operator.BinaryOperator.TheVariants.{Add, Subtract, Multiply, Divide, Remainder}
use Rattle.cel_reader.specs.declared.operator.UnaryOperator.{UnaryOperator, TheVariants.Not, TheVariants.Negate}
use Rattle.wide_kinds.specs.declared.kind.ValueKind.{ValueKind}
use Rattle.wide_kinds.specs.declared.kind.ValueKind.TheVariants as kind

-- the kind of a literal
abbrev pub literal_kind : tree.Literal → ValueKind
literal_kind (tree.int z) = kind.Int
literal_kind (tree.text s) = kind.String
literal_kind (tree.truth b) = kind.Bool
literal_kind tree.null = kind.Null

-- the kind of a unary operator's result
abbrev pub unary_kind : UnaryOperator → ValueKind
unary_kind Not = kind.Bool
unary_kind Negate = kind.Int

-- the kind of a sum with an operand of this kind, if that determines it
abbrev pub addable : ValueKind → ValueKind
addable kind.Int = kind.Int
addable kind.String = kind.String
addable kind.List = kind.List
addable _ = kind.Dyn

-- the kind of a sum, which has the kind of both operands
abbrev pub sum_kind : ValueKind → ValueKind → ValueKind
sum_kind kind.Dyn b = addable b
sum_kind a b = addable a

-- the kind of a binary operator's result
abbrev pub binary_kind : BinaryOperator → ValueKind → ValueKind → ValueKind
binary_kind Add a b = sum_kind a b
binary_kind Subtract a b = kind.Int
binary_kind Multiply a b = kind.Int
binary_kind Divide a b = kind.Int
binary_kind Remainder a b = kind.Int
binary_kind op a b = kind.Bool

-- the kind of a value that is of one of these kinds
abbrev pub joined_kind : ValueKind → ValueKind → ValueKind
joined_kind kind.Null kind.Null = kind.Null
joined_kind kind.Bool kind.Bool = kind.Bool
joined_kind kind.Int kind.Int = kind.Int
joined_kind kind.String kind.String = kind.String
joined_kind kind.List kind.List = kind.List
joined_kind kind.Map kind.Map = kind.Map
joined_kind a b = kind.Dyn
