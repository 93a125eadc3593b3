-- Translations of macros with two names, of optional entries and of functions of lists, worked out by hand.
use Rattle.std.specs.Prelude.{[], ◌∷◌, codes}
use Rattle.cel_reader.specs.Tree.{binary, ternary, index}
use Rattle.cel_reader.specs.Written as plain
use Rattle.cel_reader.specs.declared.operator.BinaryOperator.TheVariants.{And, Or, Subtract, NotEqual, LessEqual}
use Rattle.wide_reader.specs.Tree as wide
use Rattle.wide_reader.specs.declared.wide.Access.{TheVariants.Plain, TheVariants.Optional}
use Rattle.wide_reader.specs.declared.wide.PairMacro.TheVariants as pair
use Rattle.wide_kinds.specs.declared.kind.ValueKind.TheVariants as kind
use Rattle.wide_meaning.specs.Written.{num, str, name, dot, maybe, method, or_value, list_literal, object_spec}
use Rattle.wide_translation.specs.Carried.{NeedsIndices, OptionalEntry}
use Rattle.wide_translation.specs.Written.{Becomes, BecomesWithTables, WideIsRefused, plain_spec, plain_field}
use Rattle.wide_translation.specs.Written.{is_there, map_a, plain_a, plain_index, item_of, each_index, indices_of}
use Rattle.wide_translation.specs.Written.{let_in, list_in, first_held, second_held, all_in, maybe_entry}
use Rattle.wide_translation.specs.Written.{pair_of_spec, values_of_a, pairs_of_a, pairs, same, plain_same, nothing_in}
use Rattle.wide_translation.specs.Written.{spec_is_list, unless_empty}

pub record FormRowsHold : Type 0 where
  -- object.spec.exists(i, v, v == '')
  pub second_name : Becomes (pairs pair.Exists object_spec "i" "v" (same (name "v") (str ""))) kind.Bool
      (plain.method (ternary spec_is_list plain_spec (each_index plain_spec (index plain_spec plain_index)))
      "exists" (plain.name "v" ∷ plain_same (plain.name "v") (plain.str "") ∷ []))
  -- {'a': 1}.all(k, v, k != 'b')
  pub first_name : Becomes (pairs pair.All map_a "k" "v" (wide.binary NotEqual (name "k") (str "b"))) kind.Bool
      (plain.method plain_a "all" (plain.name "k" ∷ binary NotEqual (plain.name "k") (plain.str "b") ∷ []))
  -- {'a': 1}.transformList(k, v, k == v, v)
  pub two_names : Becomes (wide.pair_filter_map map_a (codes "k") (codes "v") (same (name "k") (name "v")) (name "v")) kind.List
      (plain.method pairs_of_a "map"
      (plain.name "celbpf_p" ∷ plain_same (item_of "celbpf_p" 0) (item_of "celbpf_p" 1) ∷ item_of "celbpf_p" 1 ∷ []))
  -- {'a': 1}.existsOne(k, v, {'a': 1}.all(k, w, k == w || v == w)): the inner k hides the outer one
  pub inner_names : Becomes (pairs pair.ExistsOne map_a "k" "v"
      (pairs pair.All map_a "k" "w" (wide.binary Or (same (name "k") (name "w")) (same (name "v") (name "w"))))) kind.Bool
      (plain.method values_of_a "exists_one" (plain.name "v" ∷
      plain.method pairs_of_a "all" (plain.name "celbpf_ppp" ∷
      binary Or (plain_same (item_of "celbpf_ppp" 0) (item_of "celbpf_ppp" 1))
      (plain_same (plain.name "v") (item_of "celbpf_ppp" 1)) ∷ []) ∷ []))
  -- object.spec.all(k, v, k == v) and [1].exists(i, v, i == 0)
  pub no_indices : WideIsRefused (pairs pair.All object_spec "k" "v" (same (name "k") (name "v"))) NeedsIndices
  pub no_indices_of_list : WideIsRefused (pairs pair.Exists (list_literal (num 1 ∷ [])) "i" "v" (same (name "i") (num 0))) NeedsIndices
  -- with tables: params.max, object.spec.exists(i, v, i == 0) and object.spec.all(k, v, v != k)
  pub wrapped : BecomesWithTables (dot (name "params") "max") kind.Dyn (plain.dot (plain.dot (plain.name "params") "v") "max")
  pub indices : BecomesWithTables (pairs pair.Exists object_spec "i" "v" (same (name "i") (num 0))) kind.Bool
      (plain.method (ternary spec_is_list (indices_of plain_spec) plain_spec)
      "exists" (plain.name "i" ∷ plain_same (plain.name "i") (plain.num 0) ∷ []))
  pub numbered : BecomesWithTables (pairs pair.All object_spec "k" "v" (wide.binary NotEqual (name "v") (name "k"))) kind.Bool
      (plain.method (ternary spec_is_list (each_index (indices_of plain_spec) pair_of_spec) (each_index plain_spec pair_of_spec))
      "all" (plain.name "celbpf_p" ∷ binary NotEqual (item_of "celbpf_p" 1) (item_of "celbpf_p" 0) ∷ []))
  -- {?'replicas': object.spec.?replicas, 'b': 1}, {?object.spec: object.spec.?a}, and four optional entries
  pub optional_entry : Becomes (wide.map (maybe_entry "replicas" (wide.more_entries Plain (str "b") (num 1) wide.no_entries))) kind.Map
      (ternary (is_there "replicas")
      (plain.map_literal ((plain.str "replicas", plain_field "replicas") ∷ (plain.str "b", plain.num 1) ∷ []))
      (plain.map_literal ((plain.str "b", plain.num 1) ∷ [])))
  pub computed_key : WideIsRefused (wide.map (wide.more_entries Optional object_spec (maybe object_spec "a") wide.no_entries)) OptionalEntry
  pub four_entries : WideIsRefused
      (wide.map (maybe_entry "a" (maybe_entry "b" (maybe_entry "c" (maybe_entry "d" wide.no_entries))))) OptionalEntry
  -- object.spec.first().orValue('')
  pub first_item : Becomes (or_value (method object_spec "first" []) (str "")) kind.Dyn
      (let_in "celbpf_a" (list_in "celbpf_a" plain_spec (unless_empty nothing_in (plain.list_literal (item_of "celbpf_a" 0 ∷ []))))
      (unless_empty (plain.str "") (item_of "celbpf_a" 0)))
  -- object.spec.last().value()
  pub last_item : Becomes (method (method object_spec "last" []) "value" []) kind.Dyn
      (index (list_in "celbpf_a" plain_spec (unless_empty nothing_in
      (plain.list_literal (index first_held (binary Subtract (plain.call "size" (first_held ∷ [])) (plain.num 1)) ∷ [])))) (plain.num 0))
  -- object.spec.min()
  pub least : Becomes (method object_spec "min" []) kind.Dyn
      (list_in "celbpf_a" plain_spec (index (plain.method first_held "filter" (plain_index ∷
      plain.method first_held "all" (second_held ∷ binary LessEqual plain_index second_held ∷ []) ∷ [])) (plain.num 0)))
  -- sets.contains(object.spec, [1]) and sets.equivalent(object.spec, [1])
  pub contains : Becomes (method (name "sets") "contains" (object_spec ∷ list_literal (num 1 ∷ []) ∷ [])) kind.Bool
      (list_in "celbpf_a" plain_spec (list_in "celbpf_b" (plain.list_literal (plain.num 1 ∷ [])) (all_in second_held first_held)))
  pub equivalent : Becomes (method (name "sets") "equivalent" (object_spec ∷ list_literal (num 1 ∷ []) ∷ [])) kind.Bool
      (list_in "celbpf_a" plain_spec (list_in "celbpf_b" (plain.list_literal (plain.num 1 ∷ []))
      (binary And (all_in first_held second_held) (all_in second_held first_held))))
