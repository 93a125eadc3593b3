-- Whether expressions are the same.
use Rattle.std.specs.Prelude.{◌&&◌, ℤ, pos, negsuc, Bool, true, false, bytes_eq, nat_eq}
use Rattle.cel_reader.specs.Tree as tree
use Rattle.cel_reader.specs.Tree.{Tree, Trees, no_trees, more_trees, TreeEntries, no_entries, more_entries}
use Rattle.cel_writer.specs.Printed.{operator_text, prefix_text}

-- bools and ints
abbrev pub same_truth : Bool → Bool → Bool
same_truth true b = b
same_truth false true = false
same_truth false false = true

abbrev pub same_int : ℤ → ℤ → Bool
same_int (pos a) (pos b) = nat_eq a b
same_int (negsuc a) (negsuc b) = nat_eq a b
same_int _ _ = false

abbrev pub same_literal : tree.Literal → tree.Literal → Bool
same_literal (tree.int a) (tree.int b) = same_int a b
same_literal (tree.text a) (tree.text b) = bytes_eq a b
same_literal (tree.truth a) (tree.truth b) = same_truth a b
same_literal tree.null tree.null = true
same_literal _ _ = false

abbrev mutual
  -- whether two expressions are the same
  pub same_tree : Tree → Tree → Bool
  same_tree (tree.literal l) (tree.literal m) = same_literal l m
  same_tree (tree.name n) (tree.name m) = bytes_eq n m
  same_tree (tree.select a f) (tree.select b g) = same_tree a b && bytes_eq f g
  same_tree (tree.index a k) (tree.index b l) = same_tree a b && same_tree k l
  same_tree (tree.call n xs) (tree.call m ys) = bytes_eq n m && same_trees xs ys
  same_tree (tree.method a n xs) (tree.method b m ys) = same_tree a b && (bytes_eq n m && same_trees xs ys)
  same_tree (tree.unary op a) (tree.unary sign b) = bytes_eq (prefix_text op) (prefix_text sign) && same_tree a b
  same_tree (tree.binary op a b) (tree.binary sign c d) = bytes_eq (operator_text op) (operator_text sign) && (same_tree a c && same_tree b d)
  same_tree (tree.ternary a b c) (tree.ternary d e f) = same_tree a d && (same_tree b e && same_tree c f)
  same_tree (tree.list xs) (tree.list ys) = same_trees xs ys
  same_tree (tree.map es) (tree.map fs) = same_entries es fs
  same_tree _ _ = false

  -- whether two lists of expressions are the same
  pub same_trees : Trees → Trees → Bool
  same_trees no_trees no_trees = true
  same_trees (more_trees a more) (more_trees b others) = same_tree a b && same_trees more others
  same_trees _ _ = false

  -- whether two lists of entries are the same
  pub same_entries : TreeEntries → TreeEntries → Bool
  same_entries no_entries no_entries = true
  same_entries (more_entries k v more) (more_entries l w others) = same_tree k l && (same_tree v w && same_entries more others)
  same_entries _ _ = false
