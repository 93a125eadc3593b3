-- Depths of expressions as clusters store them, worked out by hand, and the refusal of one that is too deep.
use Rattle.std.specs.Prelude.{◌≡◌, ℕ, zero, suc, true, false, None, codes}
use Rattle.cel_reader.specs.declared.operator.BinaryOperator.TheVariants.{Add}
use Rattle.cel_reader.specs.declared.operator.UnaryOperator.TheVariants.{Not}
use Rattle.wide_reader.specs.Tree as tree
use Rattle.wide_reader.specs.Tree.{Wide, no_wides, more_wides, no_items, more_items, no_entries, more_entries}
use Rattle.wide_reader.specs.declared.wide.Access.TheVariants.{Plain, Optional}
use Rattle.wide_reader.specs.declared.wide.Macro.TheVariants.{All}
use Rattle.wide_reader.specs.declared.wide.OptionalMacro.TheVariants.{FlatMap}
use Rattle.wide_reader.specs.declared.wide.PairMacro.TheVariants.{Exists}
use Rattle.wide_policy.specs.Depth.{depth, is_too_deep}
use Rattle.wide_policy.specs.Errors.{wide_error_code, wide_error_place}
use Rattle.wide_policy.specs.declared.expression_error.WideExpressionError.TheVariants.{TooDeep}

-- a, a.b and a.b.c
abbrev pub one : Wide
one = tree.name (codes "a")

abbrev pub two : Wide
two = tree.select one Plain (codes "b")

abbrev pub three : Wide
three = tree.select two Optional (codes "c")

-- a name with this number of selections after it
abbrev pub selections : ℕ → Wide
selections zero = one
selections (suc n) = tree.select (selections n) Plain (codes "a")

pub record DepthRowsHold : Type 0 where
  pub number : depth (tree.uint 1) ≡ 1
  pub root : depth (tree.root (codes "object")) ≡ 1
  pub field : depth three ≡ 3
  pub index : depth (tree.index one Plain three) ≡ 4
  pub indexed : depth (tree.index three Optional one) ≡ 4
  pub tested : depth (tree.has two (codes "c")) ≡ 3
  pub negation : depth (tree.unary Not two) ≡ 3
  pub left_sum : depth (tree.binary Add (tree.binary Add one one) one) ≡ 3
  pub right_sum : depth (tree.binary Add one (tree.binary Add one two)) ≡ 4
  pub condition : depth (tree.ternary three one two) ≡ 4
  pub chosen : depth (tree.ternary one three two) ≡ 4
  pub other : depth (tree.ternary one two three) ≡ 4
  pub no_list : depth (tree.list no_items) ≡ 1
  pub list : depth (tree.list (more_items Plain one (more_items Optional three (more_items Plain two no_items)))) ≡ 4
  pub no_map : depth (tree.map no_entries) ≡ 1
  pub key : depth (tree.map (more_entries Plain three one no_entries)) ≡ 4
  pub entry : depth (tree.map (more_entries Plain one two (more_entries Optional one three no_entries))) ≡ 4
  pub range : depth (tree.fold All three (codes "x") one) ≡ 4
  pub predicate : depth (tree.fold All one (codes "x") two) ≡ 3
  pub filtered : depth (tree.filter_map one (codes "x") two three) ≡ 4
  pub filter : depth (tree.filter_map one (codes "x") three two) ≡ 4
  pub pairs : depth (tree.pair_fold Exists two (codes "k") (codes "v") three) ≡ 4
  pub filtered_pairs : depth (tree.pair_filter_map three (codes "k") (codes "v") one two) ≡ 4
  pub of_optional : depth (tree.optional_fold FlatMap two (codes "x") one) ≡ 3
  pub call : depth (tree.call (codes "f") no_wides) ≡ 1
  pub arguments : depth (tree.call (codes "f") (more_wides one (more_wides three no_wides))) ≡ 4
  pub method : depth (tree.method three (codes "f") no_wides) ≡ 4
  pub argument : depth (tree.method one (codes "f") (more_wides two no_wides)) ≡ 3
  -- 512 levels, and one more
  pub limit : is_too_deep (selections 511) ≡ false
  pub above : is_too_deep (selections 512) ≡ true
  pub code : wide_error_code TooDeep ≡ codes "W10"
  pub place : wide_error_place TooDeep ≡ None
