-- The roles of words: names, literals and operators.
use Rattle.std.specs.Prelude.{[], Bool, true, false, if◌then◌else◌, Option, Some, None, codes, bytes_eq}
use Rattle.wide_tokens.specs.Token.{WideWord, name, quoted, int, uint, text, bytes, double, mark}
use Rattle.cel_reader.specs.Tree as tree
use Rattle.cel_reader.specs.Words.{operator_mark}
use Rattle.cel_reader.specs.declared.operator.BinaryOperator.{BinaryOperator}
use Rattle.cel_reader.specs.declared.operator.BinaryOperator.TheVariants.{Or, And, Less, LessEqual, GreaterEqual, Greater, Equal, NotEqual}
use Rattle.cel_reader.specs.declared.operator.BinaryOperator.TheVariants.{In, Add, Subtract, Multiply, Divide, Remainder}
use Rattle.wide_reader.specs.Tree as wide
use Rattle.wide_reader.specs.Tree.{Wide}
use Rattle.wide_reader.specs.declared.level.Level.{Level}
use Rattle.wide_reader.specs.declared.level.Level.TheVariants as level

-- whether no expression has the word, although one has a literal in its place: bytes and doubles
abbrev pub is_unsupported : WideWord → Bool
is_unsupported bytes = true
is_unsupported double = true
is_unsupported _ = false

-- the literal of a word, if any. Bytes and doubles are read as the empty text: they are refused where that fits
abbrev pub literal_of : WideWord → Option Wide
literal_of (name n) =
    if bytes_eq n (codes "true") then Some (wide.literal (tree.truth true))
    else (if bytes_eq n (codes "false") then Some (wide.literal (tree.truth false))
    else (if bytes_eq n (codes "null") then Some (wide.literal tree.null)
    else None))
literal_of (quoted n) = None
literal_of (int z) = Some (wide.literal (tree.int z))
literal_of (uint n) = Some (wide.uint n)
literal_of (text said) = Some (wide.literal (tree.text said))
literal_of bytes = Some (wide.literal (tree.text []))
literal_of double = Some (wide.literal (tree.text []))
literal_of (mark m) = None

-- the binary operator of a word, if any
abbrev pub operator_of : WideWord → Option BinaryOperator
operator_of (name n) = if bytes_eq n (codes "in") then Some In else None
operator_of (mark m) = operator_mark m
operator_of _ = None

-- the row of the grammar that the operator belongs to: || && relations sums products (cel-spec, syntax)
abbrev pub level_of : BinaryOperator → Level
level_of Or = level.Or
level_of And = level.And
level_of Less = level.Relation
level_of LessEqual = level.Relation
level_of GreaterEqual = level.Relation
level_of Greater = level.Relation
level_of Equal = level.Relation
level_of NotEqual = level.Relation
level_of In = level.Relation
level_of Add = level.Sum
level_of Subtract = level.Sum
level_of Multiply = level.Product
level_of Divide = level.Product
level_of Remainder = level.Product
