-- Trees that a text can denote: signed 64-bit ints, texts in UTF-8, and names that the grammar
-- allows at their positions (cel-spec, syntax).
use Rattle.std.specs.Prelude.{◌≡◌, true, FitsSigned}
use Rattle.std.specs.Int.{w64}
use Rattle.std.specs.Str.{IsUtf8}
use Rattle.cel_reader.specs.Tree as tree
use Rattle.cel_reader.specs.Tree.{Literal, Tree, Trees, TreeEntries, no_trees, more_trees, no_entries, more_entries}
use Rattle.cel_reader.specs.Words.{is_identifier, is_selector}

-- a literal is well formed: an int has 64 bits signed, and a text is UTF-8
abbrev pub IsWellFormedLiteral : Literal → Type 0
IsWellFormedLiteral (tree.int z) = FitsSigned w64 z
IsWellFormedLiteral (tree.text bytes) = IsUtf8 bytes
IsWellFormedLiteral (tree.truth b) = Unit {0}
IsWellFormedLiteral tree.null = Unit {0}

abbrev mutual
  -- an expression is well formed: its literals, its names and its parts are; a field or a
  -- method may have a reserved word as name
  pub IsWellFormed : Tree → Type 0
  IsWellFormed (tree.literal l) = IsWellFormedLiteral l
  IsWellFormed (tree.name n) = is_identifier n ≡ true
  IsWellFormed (tree.select a n) = IsWellFormed a × (is_selector n ≡ true)
  IsWellFormed (tree.index a b) = IsWellFormed a × IsWellFormed b
  IsWellFormed (tree.call n items) = (is_identifier n ≡ true) × AreWellFormed items
  IsWellFormed (tree.method a n items) = IsWellFormed a × (is_selector n ≡ true) × AreWellFormed items
  IsWellFormed (tree.unary op a) = IsWellFormed a
  IsWellFormed (tree.binary op a b) = IsWellFormed a × IsWellFormed b
  IsWellFormed (tree.ternary a b c) = IsWellFormed a × IsWellFormed b × IsWellFormed c
  IsWellFormed (tree.list items) = AreWellFormed items
  IsWellFormed (tree.map pairs) = HasWellFormedEntries pairs

  -- each of the expressions is well formed
  pub AreWellFormed : Trees → Type 0
  AreWellFormed no_trees = Unit {0}
  AreWellFormed (more_trees a more) = IsWellFormed a × AreWellFormed more

  -- each key and each value is well formed
  pub HasWellFormedEntries : TreeEntries → Type 0
  HasWellFormedEntries no_entries = Unit {0}
  HasWellFormedEntries (more_entries k v more) = IsWellFormed k × IsWellFormed v × HasWellFormedEntries more
