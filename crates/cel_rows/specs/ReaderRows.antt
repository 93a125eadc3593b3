-- The rows of cel-spec's grammar, its operators, its marks and its words, each by its own name.
use Rattle.std.specs.Prelude.{◌≡◌, true, false, pos, [], ◌∷◌, Some, None, codes}
use Rattle.cel_tokens.specs.Token.{name, int, text, mark}
use Rattle.cel_tokens.specs.Lexis.{lexeme}
use Rattle.cel_tokens.specs.declared.mark.Mark.TheVariants as marks
use Rattle.cel_reader.specs.Answers.{place_at}
use Rattle.cel_reader.specs.Grammar.{Infix, OptionalComma, Unary, below}
use Rattle.cel_reader.specs.Limits.{open_limit}
use Rattle.cel_reader.specs.Look.{openings, opens, opens_mark, words_only}
use Rattle.cel_reader.specs.Tree as tree
use Rattle.cel_reader.specs.Tree.{entries, entry_count, entry_list, tree_count, tree_list, trees}
use Rattle.cel_reader.specs.Words.{is_identifier, is_one_of, is_reserved, is_selector, level_of, literal_of}
use Rattle.cel_reader.specs.Words.{operator_mark, operator_of, unary_mark}
use Rattle.cel_reader.specs.Written.{num, yes}
use Rattle.cel_reader.specs.declared.level.Level.TheVariants as level
use Rattle.cel_reader.specs.declared.operator.BinaryOperator.TheVariants as op
use Rattle.cel_reader.specs.declared.operator.UnaryOperator.TheVariants as unary

-- what the operands of each row of the grammar are: Expr, ConditionalOr, ConditionalAnd, Relation, Addition,
-- Multiplication, Unary, from the loosest to the tightest (cel-spec, syntax)
pub record GrammarRowsStand : Type 0 where
  pub of_or : below level.Or ≡ Infix level.And
  pub of_and : below level.And ≡ Infix level.Relation
  pub of_relation : below level.Relation ≡ Infix level.Sum
  pub of_sum : below level.Sum ≡ Infix level.Product
  pub of_product : below level.Product ≡ Unary

-- a comma may be at the end of a list or map literal (cel-spec, syntax: ExprList and MapInits)
pub record CommaRowsStand : Type 0 where
  pub comma : OptionalComma (mark marks.Comma ∷ mark marks.CloseBracket ∷ []) (mark marks.CloseBracket ∷ [])
  pub no_comma : OptionalComma (mark marks.CloseBracket ∷ []) (mark marks.CloseBracket ∷ [])

-- the operator of each mark, and its row (cel-spec, syntax: ConditionalOr, ConditionalAnd, Relop, Addition, Multiplication)
pub record OperatorRowsStand : Type 0 where
  pub or : operator_mark marks.Or ≡ Some op.Or
  pub and : operator_mark marks.And ≡ Some op.And
  pub less : operator_mark marks.Less ≡ Some op.Less
  pub less_equal : operator_mark marks.LessEqual ≡ Some op.LessEqual
  pub greater_equal : operator_mark marks.GreaterEqual ≡ Some op.GreaterEqual
  pub greater : operator_mark marks.Greater ≡ Some op.Greater
  pub equal : operator_mark marks.Equal ≡ Some op.Equal
  pub not_equal : operator_mark marks.NotEqual ≡ Some op.NotEqual
  pub plus : operator_mark marks.Plus ≡ Some op.Add
  pub minus : operator_mark marks.Minus ≡ Some op.Subtract
  pub star : operator_mark marks.Star ≡ Some op.Multiply
  pub slash : operator_mark marks.Slash ≡ Some op.Divide
  pub percent : operator_mark marks.Percent ≡ Some op.Remainder
  pub not : operator_mark marks.Not ≡ None
  pub question : operator_mark marks.Question ≡ None
  pub dot : operator_mark marks.Dot ≡ None
  pub of_mark : operator_of (mark marks.Plus) ≡ Some op.Add
  pub of_other_name : operator_of (name (codes "is")) ≡ None
  pub of_int : operator_of (int (pos 1)) ≡ None
  pub of_text : operator_of (text (codes "in")) ≡ None
  pub level_of_or : level_of op.Or ≡ level.Or
  pub level_of_and : level_of op.And ≡ level.And
  pub level_of_less : level_of op.Less ≡ level.Relation
  pub level_of_less_equal : level_of op.LessEqual ≡ level.Relation
  pub level_of_greater_equal : level_of op.GreaterEqual ≡ level.Relation
  pub level_of_greater : level_of op.Greater ≡ level.Relation
  pub level_of_equal : level_of op.Equal ≡ level.Relation
  pub level_of_not_equal : level_of op.NotEqual ≡ level.Relation
  pub level_of_in : level_of op.In ≡ level.Relation
  pub level_of_add : level_of op.Add ≡ level.Sum
  pub level_of_subtract : level_of op.Subtract ≡ level.Sum
  pub level_of_multiply : level_of op.Multiply ≡ level.Product
  pub level_of_divide : level_of op.Divide ≡ level.Product
  pub level_of_remainder : level_of op.Remainder ≡ level.Product
  pub mark_of_not : unary_mark unary.Not ≡ marks.Not
  pub mark_of_negate : unary_mark unary.Negate ≡ marks.Minus

-- marks that open a bracket or a conditional, and where a text is refused
pub record NestingRowsStand : Type 0 where
  pub limit : open_limit ≡ 100
  pub paren : opens_mark marks.OpenParen ≡ true
  pub bracket : opens_mark marks.OpenBracket ≡ true
  pub brace : opens_mark marks.OpenBrace ≡ true
  pub question : opens_mark marks.Question ≡ true
  pub close_paren : opens_mark marks.CloseParen ≡ false
  pub colon : opens_mark marks.Colon ≡ false
  pub mark_opens : opens (mark marks.OpenParen) ≡ true
  pub name_opens_none : opens (name (codes "a")) ≡ false
  pub int_opens_none : opens (int (pos 1)) ≡ false
  pub text_opens_none : opens (text (codes "(")) ≡ false
  pub none : openings [] ≡ 0
  -- ( [ a ? 1 )
  pub three : openings
      (mark marks.OpenParen ∷ mark marks.OpenBracket ∷ name (codes "a") ∷ mark marks.Question ∷ int (pos 1) ∷ mark marks.CloseParen ∷ [])
      ≡ 3
  pub closed : openings (mark marks.CloseParen ∷ []) ≡ 0
  -- the place of the token that is left, and the end of a text of 7 bytes
  pub place_of_a_token : place_at 7 (lexeme 4 2 (name (codes "ab")) ∷ []) ≡ 4
  pub place_of_the_end : place_at 7 [] ≡ 7
  pub words_of_tokens : words_only (lexeme 4 2 (name (codes "ab")) ∷ []) ≡ name (codes "ab") ∷ []

-- words (cel-spec, IDENT and SELECTOR, RESERVED and LITERAL)
pub record WordRowsStand : Type 0 where
  pub none_of_no_words : is_one_of [] (codes "a") ≡ false
  pub first_of_two : is_one_of (codes "a" ∷ codes "b" ∷ []) (codes "a") ≡ true
  pub last_of_two : is_one_of (codes "a" ∷ codes "b" ∷ []) (codes "b") ≡ true
  pub none_of_two : is_one_of (codes "a" ∷ codes "b" ∷ []) (codes "c") ≡ false
  pub digit_is_no_field : is_selector (codes "1") ≡ false
  pub true_is_no_field : is_selector (codes "true") ≡ false
  pub false_is_no_field : is_selector (codes "false") ≡ false
  pub in_is_no_field : is_selector (codes "in") ≡ false
  pub true_is_no_name : is_identifier (codes "true") ≡ false
  pub digit_is_no_name : is_identifier (codes "1") ≡ false
  pub name_is_no_literal : literal_of (name (codes "a")) ≡ None
  pub reserved_as : is_reserved (codes "as") ≡ true
  pub reserved_break : is_reserved (codes "break") ≡ true
  pub reserved_const : is_reserved (codes "const") ≡ true
  pub reserved_continue : is_reserved (codes "continue") ≡ true
  pub reserved_else : is_reserved (codes "else") ≡ true
  pub reserved_for : is_reserved (codes "for") ≡ true
  pub reserved_function : is_reserved (codes "function") ≡ true
  pub reserved_if : is_reserved (codes "if") ≡ true
  pub reserved_import : is_reserved (codes "import") ≡ true
  pub reserved_let : is_reserved (codes "let") ≡ true
  pub reserved_loop : is_reserved (codes "loop") ≡ true
  pub reserved_package : is_reserved (codes "package") ≡ true
  pub reserved_namespace : is_reserved (codes "namespace") ≡ true
  pub reserved_return : is_reserved (codes "return") ≡ true
  pub reserved_var : is_reserved (codes "var") ≡ true
  pub reserved_void : is_reserved (codes "void") ≡ true
  pub reserved_while : is_reserved (codes "while") ≡ true
  pub not_reserved : is_reserved (codes "object") ≡ false

-- sequences of expressions and of entries
pub record SequenceRowsStand : Type 0 where
  pub none : trees [] ≡ tree.no_trees
  pub two : trees (num 1 ∷ yes ∷ []) ≡ tree.more_trees (num 1) (tree.more_trees yes tree.no_trees)
  pub two_again : tree_list (tree.more_trees (num 1) (tree.more_trees yes tree.no_trees)) ≡ num 1 ∷ yes ∷ []
  pub none_again : tree_list tree.no_trees ≡ []
  pub no_count : tree_count tree.no_trees ≡ 0
  pub count_of_two : tree_count (tree.more_trees (num 1) (tree.more_trees yes tree.no_trees)) ≡ 2
  pub no_entry : entries [] ≡ tree.no_entries
  pub one_entry : entries ((num 1, yes) ∷ []) ≡ tree.more_entries (num 1) yes tree.no_entries
  pub one_entry_again : entry_list (tree.more_entries (num 1) yes tree.no_entries) ≡ (num 1, yes) ∷ []
  pub no_entry_again : entry_list tree.no_entries ≡ []
  pub no_entries_count : entry_count tree.no_entries ≡ 0
  pub count_of_one : entry_count (tree.more_entries (num 1) yes tree.no_entries) ≡ 1
