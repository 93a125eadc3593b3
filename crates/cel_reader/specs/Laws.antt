-- The laws of the grammar.
use Rattle.std.specs.Prelude.{◌≡◌, ◌≤◌, ℕ, List, length, Result, Ok, Err}
use Rattle.cel_tokens.specs.Token.{Word}
use Rattle.cel_tokens.specs.declared.read_error.ReadError.{ReadError}
use Rattle.cel_reader.specs.Tree.{Tree, Trees, TreeEntries, view, trees, entries, tree_list, entry_list, tree_count, entry_count}
use Rattle.cel_reader.specs.Answers.{IsExpression, UnexpectedAt, DeepAt, IsReadResult}
use Rattle.cel_reader.specs.declared.expr.Expr.{Expr}

-- words are at most one expression, for any number of open brackets and conditionals
abbrev pub HasOneTree : Type 0
HasOneTree = (room other : ℕ) (ws : List Word) (a b : Tree) → IsExpression room ws a → IsExpression other ws b → a ≡ b

-- words that are an expression are the same one if more may be open
abbrev pub KeepsWithMoreRoom : Type 0
KeepsWithMoreRoom = (room more : ℕ) (ws : List Word) (a : Tree) → room ≤ more → IsExpression room ws a → IsExpression more ws a

-- words that are not an expression have at most one error position and one cause
pub record GoesWrongOnce (ws : List Word) : Type 0 where
  pub misfit : (count other : ℕ) → UnexpectedAt count ws → UnexpectedAt other ws → count ≡ other
  pub deep : (count other : ℕ) → DeepAt count ws → DeepAt other ws → count ≡ other
  pub not_both : (count other : ℕ) → UnexpectedAt count ws → DeepAt other ws → ⊥

-- the tree of a result, or its error
abbrev pub tree_of : Result Expr ReadError → Result Tree ReadError
tree_of (Ok e) = Ok (view e)
tree_of (Err e) = Err e

-- two results for a text are the same tree, or the same error with the same position
abbrev pub ReadHasOneResult : Type 0
ReadHasOneResult = (source : List ℕ) (a b : Result Expr ReadError) → IsReadResult source a → IsReadResult source b → tree_of a ≡ tree_of b

-- trees and lists of them correspond, with the same length
pub record TreesAreLists : Type 0 where
  pub list : (items : List Tree) → tree_list (trees items) ≡ items
  pub trees_again : (ts : Trees) → trees (tree_list ts) ≡ ts
  pub count : (ts : Trees) → tree_count ts ≡ length (tree_list ts)

-- entries and lists of them correspond, with the same length
pub record EntriesAreLists : Type 0 where
  pub list : (pairs : List (Tree × Tree)) → entry_list (entries pairs) ≡ pairs
  pub entries_again : (es : TreeEntries) → entries (entry_list es) ≡ es
  pub count : (es : TreeEntries) → entry_count es ≡ length (entry_list es)
