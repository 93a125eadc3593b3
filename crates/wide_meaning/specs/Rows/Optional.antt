-- Optional values, worked out by hand.
use Rattle.std.specs.Prelude.{pos, [], ◌∷◌, codes}
use Rattle.cel_reader.specs.declared.operator.BinaryOperator.TheVariants.{Equal, NotEqual, Multiply}
use Rattle.value_store.specs.Value.{null, int, text, list, map, items_of}
use Rattle.cel_macros.specs.Written.{entries_of}
use Rattle.wide_reader.specs.Tree.{binary, ternary, root, select, optional_fold, list as list_of, map as map_of, no_items, more_items, no_entries, more_entries}
use Rattle.wide_reader.specs.declared.wide.Access.{TheVariants.Plain, TheVariants.Optional}
use Rattle.wide_reader.specs.declared.wide.OptionalMacro.TheVariants as optional
use Rattle.wide_meaning.specs.Outcome.{failed, plain, absent, present}
use Rattle.wide_meaning.specs.Written.{num, neg, str, yes, wrong, name, dot, maybe, item, maybe_item, has, method, some, none, or_value, has_value, WideGives, is_true, is_false, number, word, object_spec, labels, missing}

-- meanings in the environment of `Written`
pub record OptionalRows : Type 0 where
  -- object.spec.?replicas.orValue(1)
  pub value_there : WideGives (or_value (maybe object_spec "replicas") (num 1)) (number (pos 3))
  -- object.spec.?missing.orValue(1)
  pub value_missing : WideGives (or_value missing (num 1)) (number (pos 1))
  -- object.spec.?missing.deep.orValue('d')
  pub field_of_none : WideGives (or_value (dot missing "deep") (str "d")) (word "d")
  -- oldObject.?spec.hasValue()
  pub field_of_null : WideGives (has_value (maybe (name "oldObject") "spec")) is_false
  -- object.missing.?x.hasValue()
  pub field_of_error : WideGives (has_value (maybe (dot (name "object") "missing") "x")) failed
  -- object.spec.args.?x.hasValue()
  pub field_of_list : WideGives (has_value (maybe (dot object_spec "args") "x")) failed
  -- object.spec.args[?-1].hasValue()
  pub index_below_0 : WideGives (has_value (maybe_item (dot object_spec "args") (neg 1))) is_false
  -- object.spec.args[?1]
  pub index_inside : WideGives (maybe_item (dot object_spec "args") (num 1)) (present (text (codes "--x=1")))
  -- object.spec.args[?2]
  pub index_outside : WideGives (maybe_item (dot object_spec "args") (num 2)) absent
  -- object.spec.args[?'a']
  pub index_is_no_int : WideGives (maybe_item (dot object_spec "args") (str "a")) failed
  -- object.metadata.labels[?1]
  pub key_is_no_text : WideGives (maybe_item labels (num 1)) failed
  -- object.spec.image[?0]
  pub index_of_text : WideGives (maybe_item (dot object_spec "image") (num 0)) failed
  -- object.metadata.labels[?'app'] == optional.of('shop')
  pub optional_values_equal : WideGives (binary Equal (maybe_item labels (str "app")) (some (str "shop"))) is_true
  -- object.metadata.labels[?object.spec.note].hasValue()
  pub key_is_null : WideGives (has_value (maybe_item labels (dot object_spec "note"))) failed
  -- object.spec.?missing[object.nothing].hasValue()
  pub index_of_none : WideGives (has_value (item missing (dot (name "object") "nothing"))) is_false
  -- object.missing[?-1].hasValue()
  pub index_of_error : WideGives (has_value (maybe_item (dot (name "object") "missing") (neg 1))) failed
  -- object.spec.note[?object.nothing].hasValue()
  pub index_is_error : WideGives (has_value (maybe_item (dot object_spec "note") (dot (name "object") "nothing"))) failed
  -- object.?spec.replicas
  pub field_of_some : WideGives (dot (maybe (name "object") "spec") "replicas") (present (int (pos 3)))
  -- object.spec.?args[0]
  pub index_of_some : WideGives (item (maybe object_spec "args") (num 0)) (present (text (codes "-v")))
  -- object.spec.?a == object.spec.?b
  pub both_missing : WideGives (binary Equal (maybe object_spec "a") (maybe object_spec "b")) is_true
  -- object.spec.?a != object.spec.?replicas
  pub one_missing : WideGives (binary NotEqual (maybe object_spec "a") (maybe object_spec "replicas")) is_true
  -- object.spec.?note == optional.none()
  pub null_is_a_value : WideGives (binary Equal (maybe object_spec "note") none) is_false
  -- object.missing.?x == optional.none()
  pub equal_to_error : WideGives (binary Equal (maybe (dot (name "object") "missing") "x") none) failed
  -- object.spec.?note.value()
  pub value_of_some : WideGives (method (maybe object_spec "note") "value" []) (plain null)
  -- object.spec.?missing.value()
  pub value_of_none : WideGives (method missing "value" []) failed
  -- object.spec.?replicas.optMap(r, r * 2).orValue(0)
  pub mapped : WideGives (or_value (optional_fold optional.Map (maybe object_spec "replicas") (codes "r") (binary Multiply (name "r") (num 2))) (num 0)) (number (pos 6))
  -- object.spec.?missing.optMap(r, 1 / 0).orValue(0)
  pub none_is_not_mapped : WideGives (or_value (optional_fold optional.Map missing (codes "r") wrong) (num 0)) (number (pos 0))
  -- object.spec.?replicas.optMap(r, 1 / 0).orValue(0)
  pub mapped_to_error : WideGives (or_value (optional_fold optional.Map (maybe object_spec "replicas") (codes "r") wrong) (num 0)) failed
  -- object.metadata.?labels.optFlatMap(l, l.?app).orValue('')
  pub mapped_flat : WideGives (or_value (optional_fold optional.FlatMap (maybe (dot (name "object") "metadata") "labels") (codes "l") (maybe (name "l") "app")) (str "")) (word "shop")
  -- object.spec.?replicas.orValue(object.nothing)
  pub default_unused : WideGives (or_value (maybe object_spec "replicas") (dot (name "object") "nothing")) (number (pos 3))
  -- object.spec.?missing.orValue(object.nothing)
  pub default_is_error : WideGives (or_value missing (dot (name "object") "nothing")) failed
  -- object.spec.replicas.orValue(1)
  pub no_optional_value : WideGives (or_value (dot object_spec "replicas") (num 1)) failed
  -- object.spec.?missing.or(optional.of(1)) and object.spec.?replicas.or(optional.of(1 / 0))
  pub or_of_none : WideGives (method missing "or" (some (num 1) ∷ [])) (present (int (pos 1)))
  pub or_of_some : WideGives (method (maybe object_spec "replicas") "or" (some wrong ∷ [])) (present (int (pos 3)))
  -- object.spec.sel.?a.?b[object.nothing].or(optional.of('x')).value()
  pub chained : WideGives (method (method (item (maybe (maybe (dot object_spec "sel") "a") "b") (dot (name "object") "nothing")) "or" (some (str "x") ∷ [])) "value" []) (word "x")
  -- optional.ofNonZeroValue(object.spec.sel).hasValue()
  pub zero_value : WideGives (has_value (method (name "optional") "ofNonZeroValue" (dot object_spec "sel" ∷ []))) is_false
  -- optional.ofNonZeroValue(object.spec.replicas)
  pub other_value : WideGives (method (name "optional") "ofNonZeroValue" (dot object_spec "replicas" ∷ [])) (present (int (pos 3)))
  -- optional.of(1 / 0)
  pub some_error : WideGives (some wrong) failed
  -- [?object.spec.?a, object.spec.replicas]
  pub optional_item : WideGives (list_of (more_items Optional (maybe object_spec "a") (more_items Plain (dot object_spec "replicas") no_items))) (plain (list (items_of (int (pos 3) ∷ []))))
  -- [?object.missing.?a]
  pub item_is_error : WideGives (list_of (more_items Optional (maybe (dot (name "object") "missing") "a") no_items)) failed
  -- {?'a': object.spec.?a, ?'r': object.spec.?replicas}
  pub optional_entries : WideGives (map_of (more_entries Optional (str "a") (maybe object_spec "a") (more_entries Optional (str "r") (maybe object_spec "replicas") no_entries))) (plain (map (entries_of ((codes "r", int (pos 3)) ∷ []))))
  -- has(oldObject.spec), has(object.metadata.labels.`team/a`), has(object.spec.?missing.a) and has(object.spec.image.a)
  pub has_of_null : WideGives (has (name "oldObject") "spec") is_false
  pub has_quoted : WideGives (has labels "team/a") is_true
  pub has_of_none : WideGives (has missing "a") is_false
  pub has_of_text : WideGives (has (dot object_spec "image") "a") failed
  -- true ? object.spec.?missing : object.?spec
  pub chosen : WideGives (ternary yes missing (maybe (name "object") "spec")) absent
  -- variables.missing.hasValue() and .variables.one
  pub optional_variable : WideGives (has_value (dot (name "variables") "missing")) is_false
  pub dotted_variable : WideGives (select (root (codes "variables")) Plain (codes "one")) (number (pos 1))
