-- Translations worked out by hand.
use Rattle.std.specs.Prelude.{[], ◌∷◌, codes}
use Rattle.cel_reader.specs.Tree.{binary, ternary, index}
use Rattle.cel_reader.specs.Written as plain
use Rattle.cel_reader.specs.declared.operator.BinaryOperator.TheVariants.{And, Add, Equal, NotEqual, Less, LessEqual}
use Rattle.cel_reader.specs.declared.operator.BinaryOperator.TheVariants.{In}
use Rattle.wide_reader.specs.Tree as wide
use Rattle.wide_reader.specs.declared.wide.Macro.TheVariants as macro
use Rattle.wide_kinds.specs.declared.kind.ValueKind.TheVariants as kind
use Rattle.wide_meaning.specs.Written.{num, str, name, dot, maybe, maybe_item, has, call, method, or_value, list_literal}
use Rattle.wide_meaning.specs.Written.{object_spec}
use Rattle.wide_translation.specs.Carried.{UnknownName, OptionalValue, UnsignedInt}
use Rattle.wide_translation.specs.FormRows.{FormRowsHold}
use Rattle.wide_translation.specs.IndexRows.{OptionalIndexRowsHold}
use Rattle.wide_translation.specs.NameRows.{IterationNameRowsHold}
use Rattle.wide_translation.specs.ListMethodRows.{ListMethodRowsHold}
use Rattle.wide_translation.specs.Written.{Becomes, BecomesInCondition, BecomesWithVariables, WideIsRefused, plain_spec, plain_field, is_there}
use Rattle.wide_translation.specs.Written.{field_or_nothing}

pub record TranslationRowsHold : Type 0 where
  -- object.spec.?replicas.orValue(1) <= 5
  pub value_or : Becomes (wide.binary LessEqual (or_value (maybe object_spec "replicas") (num 1)) (num 5)) kind.Bool
      (binary LessEqual (ternary (is_there "replicas") (plain_field "replicas") (plain.num 1)) (plain.num 5))
  -- object.spec.?a == object.spec.?b
  pub equal : Becomes (wide.binary Equal (maybe object_spec "a") (maybe object_spec "b")) kind.Bool
      (binary Equal (field_or_nothing "a") (field_or_nothing "b"))
  -- object.spec[?0].orValue('')
  pub item_or : Becomes (or_value (maybe_item object_spec (num 0)) (str "")) kind.Dyn
      (ternary
      (ternary (binary Equal plain_spec plain.nothing) plain.no
      (binary Less (plain.num 0) (plain.call "size" (binary Add plain_spec (plain.list_literal []) ∷ []))))
      (index plain_spec (plain.num 0)) (plain.str ""))
  -- has(object.spec.`a-b`)
  pub quoted : Becomes (has object_spec "a-b") kind.Bool
      (binary And (binary NotEqual plain_spec plain.nothing)
      (ternary (plain.call "has" (plain_field "a" ∷ []))
      (binary In (plain.str "a-b") plain_spec)
      (binary In (plain.str "a-b") plain_spec)))
  -- string(object.spec) + 'm'
  pub as_text : Becomes (wide.binary Add (call "string" (object_spec ∷ [])) (str "m")) kind.String
      (binary Add
      (ternary (binary Equal plain_spec plain.yes) (plain.str "true")
      (ternary (binary Equal plain_spec plain.no) (plain.str "false") (plain.call "string" (plain_spec ∷ []))))
      (plain.str "m"))
  -- 1 in []
  pub in_nothing : Becomes (wide.binary In (num 1) (list_literal [])) kind.Bool plain.no
  -- 1 < 2u, and 1u + 1u
  pub compared : Becomes (wide.binary Less (num 1) (wide.uint 2)) kind.Bool (binary Less (plain.num 1) (plain.num 2))
  pub added : WideIsRefused (wide.binary Add (wide.uint 1) (wide.uint 1)) UnsignedInt
  -- [object.?a], object.spec.map(x, object.?a) and object.?a == 1
  pub optional_item : WideIsRefused (list_literal (maybe (name "object") "a" ∷ [])) OptionalValue
  pub optional_result : WideIsRefused (wide.fold macro.Map object_spec (codes "x") (maybe (name "object") "a")) OptionalValue
  pub optional_operand : WideIsRefused (wide.binary Equal (maybe (name "object") "a") (num 1)) OptionalValue
  -- authorizer, url('a') and object.orValue(1)
  pub unknown_name : WideIsRefused (name "authorizer") (UnknownName (codes "authorizer"))
  pub unknown_function : WideIsRefused (call "url" (str "a" ∷ [])) (UnknownName (codes "url"))
  pub no_optional_value : WideIsRefused (or_value (name "object") (num 1)) (UnknownName (codes "orValue"))
  -- namespaceObject and .namespaceObject in a match condition, and namespaceObject elsewhere
  pub no_namespace : BecomesInCondition (name "namespaceObject") kind.Dyn (plain.call "dyn" (plain.nothing ∷ []))
  pub no_root : BecomesInCondition (wide.root (codes "namespaceObject")) kind.Dyn (plain.call "dyn" (plain.nothing ∷ []))
  pub namespace : Becomes (name "namespaceObject") kind.Dyn (plain.name "namespaceObject")
  -- has(variables.m.f), and variables.l[?2].hasValue()
  pub known_map : BecomesWithVariables (has (dot (name "variables") "m") "f") kind.Bool
      (plain.call "has" (plain.dot (plain.dot (plain.name "variables") "m") "f" ∷ []))
  pub known_list : BecomesWithVariables (method (maybe_item (dot (name "variables") "l") (num 2)) "hasValue" []) kind.Bool
      (binary Less (plain.num 2)
      (plain.call "size" (binary Add (plain.dot (plain.name "variables") "l") (plain.list_literal []) ∷ [])))
  -- iteration names of roots
  pub names : IterationNameRowsHold
  -- macros with two names, lists and optional entries
  pub forms : FormRowsHold
  -- computed indices
  pub indices : OptionalIndexRowsHold
  -- methods of lists that use the table of indices
  pub list_methods : ListMethodRowsHold
