-- Words that are literals, operators or names, and a law on allocation failures.
use Rattle.std.specs.Prelude.{◌≡◌, ℕ, ◌≤◌, pos, true, false, List, [], ◌∷◌, Some, None, Err, codes, length}
use Rattle.cel_tokens.specs.Limits.{text_limit}
use Rattle.cel_tokens.specs.Token.{name, int, text, mark}
use Rattle.cel_tokens.specs.declared.mark.Mark.TheVariants as marks
use Rattle.cel_tokens.specs.declared.read_error.ReadError.{TheVariants.Memory}
use Rattle.cel_reader.specs.Answers.{ReadReturns}
use Rattle.cel_reader.specs.Tree as tree
use Rattle.cel_reader.specs.Words.{is_identifier, is_selector, literal_of, operator_of}
use Rattle.cel_reader.specs.declared.operator.BinaryOperator.TheVariants.{In, Remainder}

-- the class of each of these words in cel-spec's syntax
pub record LiteralRowsHold : Type 0 where
  pub null_literal : literal_of (name (codes "null")) ≡ Some tree.null
  pub true_literal : literal_of (name (codes "true")) ≡ Some (tree.truth true)
  pub false_literal : literal_of (name (codes "false")) ≡ Some (tree.truth false)
  pub int_literal : literal_of (int (pos 7)) ≡ Some (tree.int (pos 7))
  pub text_literal : literal_of (text (codes "a")) ≡ Some (tree.text (codes "a"))
  pub no_literal : literal_of (name (codes "nul")) ≡ None
  pub mark_is_no_literal : literal_of (mark marks.Minus) ≡ None
  pub membership : operator_of (name (codes "in")) ≡ Some In
  pub remainder : operator_of (mark marks.Percent) ≡ Some Remainder
  pub null_is_no_operator : operator_of (name (codes "null")) ≡ None
  pub null_is_no_field : is_selector (codes "null") ≡ false
  pub reserved_field : is_selector (codes "namespace") ≡ true
  pub reserved_name : is_identifier (codes "namespace") ≡ false
  pub last_reserved_name : is_identifier (codes "while") ≡ false
  pub plain_name : is_identifier (codes "object") ≡ true

-- an allocation fails only for a text that is not too long, since the length is checked first
abbrev pub MemoryIsForShortTexts : Type 0
MemoryIsForShortTexts = (source : List ℕ) → ReadReturns source (Err Memory) → length source ≤ text_limit
