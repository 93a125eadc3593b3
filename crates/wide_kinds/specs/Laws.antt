-- The laws of the kinds.
use Rattle.cel_reader.specs.Tree as tree
use Rattle.cel_reader.specs.declared.operator.BinaryOperator.{BinaryOperator}
use Rattle.cel_reader.specs.declared.operator.UnaryOperator.{UnaryOperator}
use Rattle.value_store.specs.Value.{ValueOrError}
use Rattle.cel_macros.specs.Literals.{literal_of}
use Rattle.cel_macros.specs.Meaning.{unary_of, binary_of}
use Rattle.wide_kinds.specs.declared.kind.ValueKind.{ValueKind}
use Rattle.wide_kinds.specs.Kinds.{literal_kind, unary_kind, binary_kind, joined_kind}
use Rattle.wide_kinds.specs.Fitting.{FitsKind}

-- literals, results of operators and what is one of two values are of the kinds that they are given
pub record KindsHold : Type 0 where
  pub literal : (l : tree.Literal) → FitsKind (literal_kind l) (literal_of l)
  pub unary : (op : UnaryOperator) (x : ValueOrError) → FitsKind (unary_kind op) (unary_of op x)
  pub binary : (op : BinaryOperator) (a b : ValueKind) (x y : ValueOrError) → FitsKind a x → FitsKind b y → FitsKind (binary_kind op a b) (binary_of op x y)
  pub joined : (a b : ValueKind) (x : ValueOrError) → FitsKind a x → FitsKind (joined_kind a b) x
  pub joined_second : (a b : ValueKind) (x : ValueOrError) → FitsKind b x → FitsKind (joined_kind a b) x
