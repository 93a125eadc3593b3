-- Translations with iteration names of roots and of `variables`, worked out by hand.
use Rattle.std.specs.Prelude.{[], ◌∷◌, codes}
use Rattle.cel_reader.specs.Tree.{binary, ternary, index}
use Rattle.cel_reader.specs.Written as plain
use Rattle.cel_reader.specs.declared.operator.BinaryOperator.TheVariants.{And, Add, NotEqual}
use Rattle.wide_reader.specs.Tree as wide
use Rattle.wide_reader.specs.declared.wide.Macro.TheVariants as macro
use Rattle.wide_reader.specs.declared.wide.OptionalMacro.TheVariants as optional
use Rattle.wide_reader.specs.declared.wide.PairMacro.TheVariants as pair
use Rattle.wide_kinds.specs.declared.kind.ValueKind.TheVariants as kind
use Rattle.wide_meaning.specs.Written.{num, str, yes, name, dot, maybe, method, some, has_value, object_spec}
use Rattle.wide_translation.specs.Carried.{TakenName}
use Rattle.wide_translation.specs.Written.{Becomes, BecomesInCondition, BecomesWithTables, BecomesWithVariables, WideIsRefused}
use Rattle.wide_translation.specs.Written.{plain_spec, map_a, plain_a, item_of, values_of_a, pairs_of_a, pairs, same, plain_same}
use Rattle.wide_translation.specs.Written.{nothing_in}

pub record IterationNameRowsHold : Type 0 where
  -- object.spec.exists(request, request == '-v')
  pub root : Becomes (wide.fold macro.Exists object_spec (codes "request") (same (name "request") (str "-v"))) kind.Bool
      (plain.method plain_spec "exists" (plain.name "celbpf_request" ∷ plain_same (plain.name "celbpf_request") (plain.str "-v") ∷ []))
  -- object.spec.all(object, object == .object): with a dot the root
  pub dotted : Becomes (wide.fold macro.All object_spec (codes "object") (same (name "object") (wide.root (codes "object")))) kind.Bool
      (plain.method plain_spec "all" (plain.name "celbpf_object" ∷ plain_same (plain.name "celbpf_object") (plain.name "object") ∷ []))
  -- object.spec.all(object, true) && object == 1: behind the macro the root
  pub behind : Becomes
      (wide.binary And (wide.fold macro.All object_spec (codes "object") yes) (same (name "object") (num 1))) kind.Bool
      (binary And (plain.method plain_spec "all" (plain.name "celbpf_object" ∷ plain.yes ∷ []))
      (plain_same (plain.name "object") (plain.num 1)))
  -- object.spec.all(object, object.all(object, object == oldObject))
  pub nested : Becomes
      (wide.fold macro.All object_spec (codes "object")
      (wide.fold macro.All (name "object") (codes "object") (same (name "object") (name "oldObject")))) kind.Bool
      (plain.method plain_spec "all" (plain.name "celbpf_object" ∷
      plain.method (plain.name "celbpf_object") "all" (plain.name "celbpf_object" ∷
      plain_same (plain.name "celbpf_object") (plain.name "oldObject") ∷ []) ∷ []))
  -- object.spec.exists(variables, variables.m == .variables.m): a field of the item, and a variable
  pub variables : BecomesWithVariables
      (wide.fold macro.Exists object_spec (codes "variables")
      (same (dot (name "variables") "m") (dot (wide.root (codes "variables")) "m"))) kind.Bool
      (plain.method plain_spec "exists" (plain.name "celbpf_variables" ∷
      plain_same (plain.dot (plain.name "celbpf_variables") "m") (plain.dot (plain.name "variables") "m") ∷ []))
  -- with tables: object.spec.map(params, params == .params, params)
  pub params : BecomesWithTables
      (wide.filter_map object_spec (codes "params") (same (name "params") (wide.root (codes "params"))) (name "params")) kind.List
      (plain.method plain_spec "map" (plain.name "celbpf_params" ∷
      plain_same (plain.name "celbpf_params") (plain.dot (plain.name "params") "v") ∷ plain.name "celbpf_params" ∷ []))
  -- in a match condition: object.spec.all(namespaceObject, namespaceObject == .namespaceObject)
  pub namespace : BecomesInCondition
      (wide.fold macro.All object_spec (codes "namespaceObject")
      (same (name "namespaceObject") (wide.root (codes "namespaceObject")))) kind.Bool
      (plain.method plain_spec "all" (plain.name "celbpf_namespaceObject" ∷
      plain_same (plain.name "celbpf_namespaceObject") (plain.call "dyn" (plain.nothing ∷ [])) ∷ []))
  -- {'a': 1}.all(object, v, object != 'b')
  pub first_name : Becomes (pairs pair.All map_a "object" "v" (wide.binary NotEqual (name "object") (str "b"))) kind.Bool
      (plain.method plain_a "all" (plain.name "celbpf_object" ∷ binary NotEqual (plain.name "celbpf_object") (plain.str "b") ∷ []))
  -- {'a': 1}.exists(k, params, params == 1)
  pub second_name : Becomes (pairs pair.Exists map_a "k" "params" (same (name "params") (num 1))) kind.Bool
      (plain.method values_of_a "exists" (plain.name "celbpf_params" ∷ plain_same (plain.name "celbpf_params") (plain.num 1) ∷ []))
  -- {'a': 1}.exists(object, variables, object == variables)
  pub two_names : Becomes (pairs pair.Exists map_a "object" "variables" (same (name "object") (name "variables"))) kind.Bool
      (plain.method pairs_of_a "exists" (plain.name "celbpf_p" ∷
      plain_same (item_of "celbpf_p" 0) (item_of "celbpf_p" 1) ∷ []))
  -- optional.of(1).optMap(request, request).value()
  pub of_value : Becomes
      (method (wide.optional_fold optional.Map (some (num 1)) (codes "request") (name "request")) "value" []) kind.Dyn
      (index (plain.method (plain.list_literal (plain.num 1 ∷ [])) "map"
      (plain.name "celbpf_request" ∷ plain.name "celbpf_request" ∷ [])) (plain.num 0))
  -- optional.of(object).optFlatMap(object, object.?a).hasValue()
  pub of_optional_value : Becomes
      (has_value (wide.optional_fold optional.FlatMap (some (name "object")) (codes "object") (maybe (name "object") "a"))) kind.Bool
      (binary NotEqual
      (index (binary Add (plain.method (plain.list_literal (plain.name "object" ∷ [])) "map" (plain.name "celbpf_object" ∷
      ternary (binary And (binary NotEqual (plain.name "celbpf_object") plain.nothing)
      (plain.call "has" (plain.dot (plain.name "celbpf_object") "a" ∷ [])))
      (plain.list_literal (plain.dot (plain.name "celbpf_object") "a" ∷ [])) nothing_in ∷ []))
      (plain.list_literal (nothing_in ∷ []))) (plain.num 0)) nothing_in)
  -- object.all(celbpf_x, true), and object.all(k, celbpf_object, true)
  pub taken_name : WideIsRefused (wide.fold macro.All (name "object") (codes "celbpf_x") yes) (TakenName (codes "celbpf_x"))
  pub taken_second : WideIsRefused (pairs pair.All (name "object") "k" "celbpf_object" yes) (TakenName (codes "celbpf_object"))
