-- Expressions whose ranges are narrow or not, and lengths of tables, worked out by hand.
use Rattle.std.specs.Prelude.{◌≡◌, true, false, [], ◌∷◌, pos, codes}
use Rattle.cel_reader.specs.declared.operator.BinaryOperator.TheVariants.{Add, Equal}
use Rattle.value_store.specs.Value as kind
use Rattle.value_store.specs.Value.{Value, items_of}
use Rattle.cel_macros.specs.Environment.{Roots}
use Rattle.wide_reader.specs.Tree as wide
use Rattle.wide_reader.specs.Tree.{Wide, wides}
use Rattle.wide_reader.specs.declared.wide.Access.{TheVariants.Plain}
use Rattle.wide_reader.specs.declared.wide.Macro.TheVariants as macro
use Rattle.wide_reader.specs.declared.wide.PairMacro.TheVariants as pair
use Rattle.wide_meaning.specs.Written.{num, str}
use Rattle.wide_kinds.specs.declared.kind.Kind.{TheVariants.Value as OfValue}
use Rattle.wide_kinds.specs.declared.kind.ValueKind.TheVariants as value_kind
use Rattle.cel_reader.specs.Tree as tree
use Rattle.wide_translation.specs.Placed.{WideStep}
use Rattle.wide_indices.specs.Narrow.{has_narrow_ranges, policy_has_narrow_ranges, outside}
use Rattle.wide_indices.specs.Tables.{index_tables, table_length}

-- object.args, the names k and v, and variables.l
abbrev pub args : Wide
args = wide.select (wide.name (codes "object")) Plain (codes "args")

abbrev pub k : Wide
k = wide.name (codes "k")

abbrev pub v : Wide
v = wide.name (codes "v")

abbrev pub of_variable : Wide
of_variable = wide.select (wide.name (codes "variables")) Plain (codes "l")

-- a + b, a == b
abbrev pub sum : Wide → Wide → Wide
sum a b = wide.binary Add a b

abbrev pub same : Wide → Wide → Wide
same a b = wide.binary Equal a b

-- r.all(k, v, p), r.transformList(k, v, p, t), r.exists(v, p)
abbrev pub all : Wide → Wide → Wide
all r p = wide.pair_fold pair.All r (codes "k") (codes "v") p

abbrev pub transform : Wide → Wide → Wide → Wide
transform r p t = wide.pair_filter_map r (codes "k") (codes "v") p t

abbrev pub exists : Wide → Wide → Wide
exists r p = wide.fold macro.Exists r (codes "v") p

-- the variable l with this expression
abbrev pub variable : Wide → WideStep
variable e = record { name = codes "l"; wide = e; kind = OfValue value_kind.Dyn; tree = tree.name (codes "l") }

-- three documents, the widest of which has 2 items
abbrev pub narrow_roots : Roots
narrow_roots = record {
  object = kind.map (kind.entry (codes "args") (kind.list (items_of (kind.null ∷ kind.null ∷ []))) kind.no_entries);
  old_object = kind.null;
  params = kind.map kind.no_entries;
  namespace_object = kind.null;
  request = kind.map kind.no_entries;
}

pub record IndexRowsHold : Type 0 where
  pub index_of_field : has_narrow_ranges (outside []) (all args (same k (num 0))) ≡ true
  pub index_of_sum : has_narrow_ranges (outside []) (all (sum args args) (same k (num 0))) ≡ false
  pub value_of_sum : has_narrow_ranges (outside []) (all (sum args args) (same v (num 0))) ≡ true
  pub index_in_transform : has_narrow_ranges (outside []) (transform (sum args args) (same v (num 0)) k) ≡ false
  pub inner_range_of_value : has_narrow_ranges (outside []) (exists args (all v (same k (num 0)))) ≡ true
  pub inner_range_of_sum : has_narrow_ranges (outside []) (exists (sum args args) (all v (same k (num 0)))) ≡ false
  pub index_in_argument :
      has_narrow_ranges (outside []) (wide.call (codes "size") (wides (transform (sum args args) k v ∷ []))) ≡ false
  pub no_macro : has_narrow_ranges (outside []) (sum args args) ≡ true
  pub reversed : has_narrow_ranges (outside []) (wide.method args (codes "reverse") (wides [])) ≡ true
  pub reversed_sum : has_narrow_ranges (outside []) (wide.method (sum args args) (codes "reverse") (wides [])) ≡ false
  pub first_of_sum : has_narrow_ranges (outside []) (wide.method (sum args args) (codes "first") (wides [])) ≡ true
  pub place_in_reversed_sum :
      has_narrow_ranges (outside []) (wide.method (wide.method args (codes "reverse") (wides [])) (codes "indexOf") (wides (sum args args ∷ []))) ≡ true
  pub narrow_variable : policy_has_narrow_ranges [] (variable args ∷ []) (all of_variable (same k (num 0))) ≡ true
  pub variable_of_sum : policy_has_narrow_ranges [] (variable (sum args args) ∷ []) (all of_variable (same k (num 0))) ≡ false
  pub range_in_variable : policy_has_narrow_ranges [] (variable (all (sum args args) k) ∷ []) (str "a") ≡ false
  pub two_indices : index_tables 2
      ≡ kind.map (kind.entry (codes "n") (kind.list (items_of (kind.int (pos 0) ∷ kind.int (pos 1) ∷ []))) kind.no_entries)
  pub at_least_16 : table_length narrow_roots ≡ 16
