-- Expressions, and whether they are narrow, worked out by hand.
use Rattle.std.specs.Prelude.{◌≡◌, true, false, [], ◌∷◌, codes}
use Prim.Native.String.{String}
use Rattle.cel_reader.specs.declared.operator.BinaryOperator.TheVariants.{Add, Equal}
use Rattle.wide_reader.specs.Tree as wide
use Rattle.wide_reader.specs.Tree.{Wide, wides}
use Rattle.wide_reader.specs.declared.wide.Access.{TheVariants.Plain, TheVariants.Optional}
use Rattle.wide_reader.specs.declared.wide.Macro.TheVariants as macro
use Rattle.wide_reader.specs.declared.wide.PairMacro.{TheVariants.TransformList}
use Rattle.wide_meaning.specs.Written.{num, str}
use Rattle.wide_widths.specs.Narrow.{NarrowNames, is_narrow}

-- the names of no macro; the variable `short` is narrow, the variable `long` is not
abbrev pub outside : NarrowNames
outside = record { names = []; variables = (codes "short", true) ∷ (codes "long", false) ∷ [] }

-- object.args, object.?ports, variables.short, variables.long, and the name x
abbrev pub args : Wide
args = wide.select (wide.name (codes "object")) Plain (codes "args")

abbrev pub ports : Wide
ports = wide.select (wide.name (codes "object")) Optional (codes "ports")

abbrev pub variable : String → Wide
variable f = wide.select (wide.name (codes "variables")) Plain (codes f)

abbrev pub x : Wide
x = wide.name (codes "x")

-- [a], [], a + b
abbrev pub one : Wide → Wide
one a = wide.list (wide.more_items Plain a wide.no_items)

abbrev pub none : Wide
none = wide.list wide.no_items

abbrev pub sum : Wide → Wide → Wide
sum a b = wide.binary Add a b

pub record NarrowRowsHold : Type 0 where
  pub field_of_root : is_narrow outside args ≡ true
  pub sum_of_fields : is_narrow outside (sum args args) ≡ false
  pub sum_with_text : is_narrow outside (sum args (str "!")) ≡ true
  pub sum_of_sums : is_narrow outside (sum (sum args (str "!")) args) ≡ true
  pub test_of_sums : is_narrow outside (wide.binary Equal (sum args args) args) ≡ true
  pub default_list : is_narrow outside (wide.method ports (codes "orValue") (wides (none ∷ []))) ≡ true
  pub default_sum : is_narrow outside (wide.method ports (codes "orValue") (wides (sum args args ∷ []))) ≡ false
  pub choice : is_narrow outside (wide.ternary (num 1) args (sum args args)) ≡ false
  pub narrow_variable : is_narrow outside (variable "short") ≡ true
  pub other_variable : is_narrow outside (variable "long") ≡ false
  pub field_of_other_variable : is_narrow outside (wide.select (variable "long") Plain (codes "f")) ≡ false
  pub filtered : is_narrow outside (wide.fold macro.Filter args (codes "x") x) ≡ true
  pub filtered_sum : is_narrow outside (wide.fold macro.Filter (sum args args) (codes "x") x) ≡ false
  pub mapped_to_lists : is_narrow outside (wide.fold macro.Map args (codes "x") (one x)) ≡ true
  pub mapped_to_sums : is_narrow outside (wide.fold macro.Map args (codes "x") (sum x x)) ≡ false
  pub items_of_sum : is_narrow outside (wide.fold macro.Map (sum args args) (codes "x") (num 1)) ≡ false
  pub values_of_pairs : is_narrow outside (wide.pair_fold TransformList args (codes "k") (codes "x") x) ≡ true
  pub is_there_one : is_narrow outside (wide.fold macro.Exists (sum args args) (codes "x") x) ≡ true
  pub reversed : is_narrow outside (wide.method args (codes "reverse") (wides [])) ≡ true
  pub reversed_sum : is_narrow outside (wide.method (sum args args) (codes "reverse") (wides [])) ≡ false
  pub slice_of_sum : is_narrow outside (wide.method (sum args args) (codes "slice") (wides (num 0 ∷ num 2 ∷ []))) ≡ false
  pub sorted_sum : is_narrow outside (wide.method (sum args args) (codes "isSorted") (wides [])) ≡ true
  pub unknown_method : is_narrow outside (wide.method args (codes "split") (wides (str "," ∷ []))) ≡ false
