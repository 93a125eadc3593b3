-- The text of an expression.
use Rattle.std.specs.Prelude.{ℕ, ◌==◌, Bool, true, false, List, [], ◌++◌, Option, Some, None, bytes_eq, codes, encode_utf8, if◌then◌else◌}
use Rattle.std.specs.Fmt.{signed_decimal}
use Rattle.std.specs.List.{flat_map}
use Rattle.std.specs.Str.{chars}
use Rattle.cel_reader.specs.Tree as tree
use Rattle.cel_reader.specs.Tree.{Tree, Trees, no_trees, more_trees, TreeEntries, no_entries, more_entries}
use Rattle.cel_reader.specs.declared.operator.UnaryOperator.{UnaryOperator, TheVariants.Not, TheVariants.Negate}
use Rattle.cel_reader.specs.declared.operator.BinaryOperator.{BinaryOperator}
use Rattle.cel_reader.specs.declared.operator.BinaryOperator.TheVariants.{Or, And, Less, LessEqual, GreaterEqual, Greater, Equal, NotEqual, In, Add, Subtract, Multiply, Divide, Remainder}

-- ---- leaves

-- a character in a text literal
abbrev pub letter_text : ℕ → List ℕ
letter_text c =
    if c == 34 then codes "\\\"" else (if c == 92 then codes "\\\\" else (if c == 10 then codes "\\n"
    else (if c == 13 then codes "\\r" else encode_utf8 c)))

-- a text literal, in quotes
abbrev pub quoted_literal : List ℕ → List ℕ
quoted_literal s = codes "\"" ++ flat_map letter_text (chars s) ++ codes "\""

abbrev pub truth_text : Bool → List ℕ
truth_text true = codes "true"
truth_text false = codes "false"

abbrev pub literal_text : tree.Literal → List ℕ
literal_text (tree.int z) = signed_decimal z
literal_text (tree.text s) = quoted_literal s
literal_text (tree.truth b) = truth_text b
literal_text tree.null = codes "null"

-- a binary operator with the blanks around it
abbrev pub operator_text : BinaryOperator → List ℕ
operator_text Or = codes " || "
operator_text And = codes " && "
operator_text Less = codes " < "
operator_text LessEqual = codes " <= "
operator_text GreaterEqual = codes " >= "
operator_text Greater = codes " > "
operator_text Equal = codes " == "
operator_text NotEqual = codes " != "
operator_text In = codes " in "
operator_text Add = codes " + "
operator_text Subtract = codes " - "
operator_text Multiply = codes " * "
operator_text Divide = codes " / "
operator_text Remainder = codes " % "

-- a unary operator and what opens its operand: brackets, so that the sign of a literal stays apart
abbrev pub prefix_text : UnaryOperator → List ℕ
prefix_text Not = codes "(!("
prefix_text Negate = codes "(-("

-- ---- expressions

-- whether an operation with this operator is the left operand of one with the same operator, and needs no brackets
abbrev pub continues : Option BinaryOperator → BinaryOperator → Bool
continues None op = false
continues (Some around) op = bytes_eq (operator_text around) (operator_text op)

-- what is before and after an operation: a bracket, if it does not continue another
abbrev pub opening : Bool → List ℕ
opening true = []
opening false = codes "("

abbrev pub closing : Bool → List ℕ
closing true = []
closing false = codes ")"

-- what is before an item or an entry: a comma, if it is not the first one
abbrev pub separator : Bool → List ℕ
separator true = []
separator false = codes ", "

unfoldable mutual
  -- the text of an expression that is a left operand of this operator, if there is one; operations are in brackets, if
  -- they do not continue another
  pub printed_in : Option BinaryOperator → Tree → List ℕ
  printed_in around (tree.literal l) = literal_text l
  printed_in around (tree.name n) = n
  printed_in around (tree.select a f) = printed_in None a ++ codes "." ++ f
  printed_in around (tree.index a k) = printed_in None a ++ codes "[" ++ printed_in None k ++ codes "]"
  printed_in around (tree.call n arguments) = n ++ codes "(" ++ listed true arguments ++ codes ")"
  printed_in around (tree.method a n arguments) = printed_in None a ++ codes "." ++ n ++ codes "(" ++ listed true arguments ++ codes ")"
  printed_in around (tree.unary op a) = prefix_text op ++ printed_in None a ++ codes "))"
  printed_in around (tree.binary op a b) =
      opening (continues around op) ++ printed_in (Some op) a ++ operator_text op ++ printed_in None b ++ closing (continues around op)
  printed_in around (tree.ternary c a b) =
      codes "(" ++ printed_in None c ++ codes " ? " ++ printed_in None a ++ codes " : " ++ printed_in None b ++ codes ")"
  printed_in around (tree.list items) = codes "[" ++ listed true items ++ codes "]"
  printed_in around (tree.map es) = codes "{" ++ entries_listed true es ++ codes "}"

  -- expressions with commas between them, and before the first one if it is not the first of all
  pub listed : Bool → Trees → List ℕ
  listed first no_trees = []
  listed first (more_trees a more) = separator first ++ printed_in None a ++ listed false more

  -- entries with commas between them, likewise
  pub entries_listed : Bool → TreeEntries → List ℕ
  entries_listed first no_entries = []
  entries_listed first (more_entries k v more) =
      separator first ++ printed_in None k ++ codes ": " ++ printed_in None v ++ entries_listed false more

-- the text of an expression
abbrev pub printed : Tree → List ℕ
printed a = printed_in None a
