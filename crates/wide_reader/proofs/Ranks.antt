-- The number of grammar rows that bind tighter than an operator's.
use Rattle.wide_reader.proofs.Prelude.{ℕ, Level, Or, And, Relation, Sum, Product}

-- twice the number of rows, above the four from a unary operator's on
abbrev pub rank : Level → ℕ
rank Or = 14
rank And = 12
rank Relation = 10
rank Sum = 8
rank Product = 6
