-- The roles of words: names, literals and operators.
use Rattle.std.specs.Prelude.{ℕ, List, [], ◌∷◌, Bool, true, false, if◌then◌else◌, ◌&&◌, ◌||◌, not, Option, Some, None, codes, bytes_eq}
use Rattle.cel_tokens.specs.Token.{Word, name, int, text, mark}
use Rattle.cel_tokens.specs.Bytes.{is_name}
use Rattle.cel_tokens.specs.declared.mark.Mark.{Mark}
use Rattle.cel_tokens.specs.declared.mark.Mark.TheVariants as marks
use Rattle.cel_reader.specs.Tree as tree
use Rattle.cel_reader.specs.Tree.{Literal}
use Rattle.cel_reader.specs.declared.level.Level.{Level}
use Rattle.cel_reader.specs.declared.level.Level.TheVariants as level
use Rattle.cel_reader.specs.declared.operator.BinaryOperator.{BinaryOperator}
use Rattle.cel_reader.specs.declared.operator.BinaryOperator.TheVariants.{Or, And, Less, LessEqual, GreaterEqual, Greater, Equal, NotEqual}
use Rattle.cel_reader.specs.declared.operator.BinaryOperator.TheVariants.{In, Add, Subtract, Multiply, Divide, Remainder}
use Rattle.cel_reader.specs.declared.operator.UnaryOperator.{UnaryOperator, TheVariants.Not, TheVariants.Negate}
use Rattle.cel_reader.specs.declared.role.Role.{Role}
use Rattle.cel_reader.specs.declared.role.Role.TheVariants as role

-- whether the name is one of these words
abbrev pub is_one_of : List (List ℕ) → List ℕ → Bool
is_one_of [] n = false
is_one_of (w ∷ []) n = bytes_eq n w
is_one_of (w ∷ v ∷ ws) n = bytes_eq n w || is_one_of (v ∷ ws) n

-- whether a name is reserved (cel-spec, RESERVED)
unfoldable pub is_reserved : List ℕ → Bool
is_reserved n = is_one_of
    (codes "as" ∷ codes "break" ∷ codes "const" ∷ codes "continue" ∷ codes "else" ∷ codes "for" ∷
    codes "function" ∷ codes "if" ∷ codes "import" ∷ codes "let" ∷ codes "loop" ∷ codes "package" ∷
    codes "namespace" ∷ codes "return" ∷ codes "var" ∷ codes "void" ∷ codes "while" ∷ []) n

-- the role of a name; only a plain one is an identifier, and a reserved one may also name a field
unfoldable pub role_of : List ℕ → Role
role_of n =
    if bytes_eq n (codes "true") then role.True
    else (if bytes_eq n (codes "false") then role.False
    else (if bytes_eq n (codes "null") then role.Null
    else (if bytes_eq n (codes "in") then role.In
    else (if is_reserved n then role.Reserved
    else role.Plain))))

-- a name other than false, in, null and true (cel-spec, SELECTOR)
abbrev pub is_selector : List ℕ → Bool
is_selector n = is_name n && not (is_one_of (codes "true" ∷ codes "false" ∷ codes "null" ∷ codes "in" ∷ []) n)

-- a selector that is not reserved (cel-spec, IDENT)
abbrev pub is_identifier : List ℕ → Bool
is_identifier n = is_selector n && not (is_reserved n)

-- the literal of a word, if any (cel-spec, LITERAL)
abbrev pub literal_of : Word → Option Literal
literal_of (name n) =
    if bytes_eq n (codes "true") then Some (tree.truth true)
    else (if bytes_eq n (codes "false") then Some (tree.truth false)
    else (if bytes_eq n (codes "null") then Some tree.null
    else None))
literal_of (int z) = Some (tree.int z)
literal_of (text bytes) = Some (tree.text bytes)
literal_of (mark m) = None

-- the binary operator of a mark, if any
abbrev pub operator_mark : Mark → Option BinaryOperator
operator_mark marks.Or = Some Or
operator_mark marks.And = Some And
operator_mark marks.Less = Some Less
operator_mark marks.LessEqual = Some LessEqual
operator_mark marks.GreaterEqual = Some GreaterEqual
operator_mark marks.Greater = Some Greater
operator_mark marks.Equal = Some Equal
operator_mark marks.NotEqual = Some NotEqual
operator_mark marks.Plus = Some Add
operator_mark marks.Minus = Some Subtract
operator_mark marks.Star = Some Multiply
operator_mark marks.Slash = Some Divide
operator_mark marks.Percent = Some Remainder
operator_mark other = None

-- the binary operator of a word, if any
abbrev pub operator_of : Word → Option BinaryOperator
operator_of (name n) = if bytes_eq n (codes "in") then Some In else None
operator_of (int z) = None
operator_of (text bytes) = None
operator_of (mark m) = operator_mark m

-- the row of the grammar that the operator belongs to: || && relations sums products (cel-spec, syntax)
abbrev pub level_of : BinaryOperator → Level
level_of Or = level.Or
level_of And = level.And
level_of Less = level.Relation
level_of LessEqual = level.Relation
level_of GreaterEqual = level.Relation
level_of Greater = level.Relation
level_of Equal = level.Relation
level_of NotEqual = level.Relation
level_of In = level.Relation
level_of Add = level.Sum
level_of Subtract = level.Sum
level_of Multiply = level.Product
level_of Divide = level.Product
level_of Remainder = level.Product

-- the mark of a unary operator
abbrev pub unary_mark : UnaryOperator → Mark
unary_mark Not = marks.Not
unary_mark Negate = marks.Minus
