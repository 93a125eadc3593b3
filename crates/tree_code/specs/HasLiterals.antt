-- Expressions whose literals are values: 64-bit signed ints, and texts in UTF-8.
use Rattle.cel_reader.specs.Tree as tree
use Rattle.cel_reader.specs.Tree.{Tree, Trees, TreeEntries, no_trees, more_trees, no_entries, more_entries}
use Rattle.cel_reader.specs.WellFormed.{IsWellFormedLiteral}

abbrev mutual
  -- the literals of an expression are values
  pub HasLiterals : Tree → Type 0
  HasLiterals (tree.literal l) = IsWellFormedLiteral l
  HasLiterals (tree.name n) = Unit {0}
  HasLiterals (tree.select a n) = HasLiterals a
  HasLiterals (tree.index a b) = HasLiterals a × HasLiterals b
  HasLiterals (tree.call n items) = HaveLiterals items
  HasLiterals (tree.method a n items) = HasLiterals a × HaveLiterals items
  HasLiterals (tree.unary op a) = HasLiterals a
  HasLiterals (tree.binary op a b) = HasLiterals a × HasLiterals b
  HasLiterals (tree.ternary a b c) = HasLiterals a × HasLiterals b × HasLiterals c
  HasLiterals (tree.list items) = HaveLiterals items
  HasLiterals (tree.map pairs) = EntriesHaveLiterals pairs

  -- the literals of each of the expressions are values
  pub HaveLiterals : Trees → Type 0
  HaveLiterals no_trees = Unit {0}
  HaveLiterals (more_trees a more) = HasLiterals a × HaveLiterals more

  -- the literals of each key and each value are values
  pub EntriesHaveLiterals : TreeEntries → Type 0
  EntriesHaveLiterals no_entries = Unit {0}
  EntriesHaveLiterals (more_entries k v more) = HasLiterals k × HasLiterals v × EntriesHaveLiterals more
