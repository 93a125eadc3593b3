-- The depth of expressions, and its limit.
use Rattle.std.specs.Prelude.{ℕ, ◌+◌, max, Bool, nat_lt}
use Rattle.wide_reader.specs.Tree as tree
use Rattle.wide_reader.specs.Tree.{Wide, Wides, no_wides, more_wides, WideItems, no_items, more_items, WideEntries, no_entries, more_entries}

-- the maximum depth of an expression: no less than the number of nodes that a policy may have
abbrev pub depth_limit : ℕ
depth_limit = 512

unfoldable mutual
  -- the depth of an expression: 1 for a literal or a name, else 1 more than the greatest depth of its parts. A selection,
  -- an index and an operator are one level above their operands, so `object.a.b` and `1 + 2 + 3` are 3 deep. The names
  -- that a macro declares are no parts.
  pub depth : Wide → ℕ
  depth (tree.literal l) = 1
  depth (tree.uint n) = 1
  depth (tree.name n) = 1
  depth (tree.root n) = 1
  depth (tree.select a o f) = 1 + depth a
  depth (tree.index a o k) = 1 + max (depth a) (depth k)
  depth (tree.has a f) = 1 + depth a
  depth (tree.unary op a) = 1 + depth a
  depth (tree.binary op a b) = 1 + max (depth a) (depth b)
  depth (tree.ternary c a b) = 1 + max (depth c) (max (depth a) (depth b))
  depth (tree.list more) = 1 + items_depth more
  depth (tree.map more) = 1 + entries_depth more
  depth (tree.fold m a x p) = 1 + max (depth a) (depth p)
  depth (tree.filter_map a x p t) = 1 + max (depth a) (max (depth p) (depth t))
  depth (tree.pair_fold m a k v p) = 1 + max (depth a) (depth p)
  depth (tree.pair_filter_map a k v p t) = 1 + max (depth a) (max (depth p) (depth t))
  depth (tree.optional_fold m a x t) = 1 + max (depth a) (depth t)
  depth (tree.call n more) = 1 + wides_depth more
  depth (tree.method a n more) = 1 + max (depth a) (wides_depth more)

  -- the greatest depth of the arguments, 0 if there are none
  pub wides_depth : Wides → ℕ
  wides_depth no_wides = 0
  wides_depth (more_wides a more) = max (depth a) (wides_depth more)

  -- the greatest depth of the items
  pub items_depth : WideItems → ℕ
  items_depth no_items = 0
  items_depth (more_items o a more) = max (depth a) (items_depth more)

  -- the greatest depth of the keys and values
  pub entries_depth : WideEntries → ℕ
  entries_depth no_entries = 0
  entries_depth (more_entries o k v more) = max (max (depth k) (depth v)) (entries_depth more)

-- whether an expression is deeper than the limit
abbrev pub is_too_deep : Wide → Bool
is_too_deep w = nat_lt depth_limit (depth w)
