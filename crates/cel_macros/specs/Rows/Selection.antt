-- Names, fields and indices, worked out by hand.
use Rattle.std.specs.Prelude.{pos, [], ◌∷◌}
use Rattle.cel_reader.specs.Tree.{index, binary}
use Rattle.cel_reader.specs.declared.operator.BinaryOperator.TheVariants.{Or, And, LessEqual, Equal, Add}
use Rattle.value_store.specs.Value.{error}
use Rattle.cel_reader.specs.Written.{num, neg, str, yes, nothing, name, dot, call, list_literal, map_literal}
use Rattle.cel_macros.specs.Written.{variable, is_true, is_false, number, word, Means}

-- meanings of names, fields and indices, in the review of `Written`
pub record SelectionRows : Type 0 where
  -- object.spec.on && true
  pub stored_true : Means (binary And (dot (dot (name "object") "spec") "on") yes) is_true
  -- object.spec.replicas <= 3
  pub field : Means (binary LessEqual (dot (dot (name "object") "spec") "replicas") (num 3)) is_false
  -- object.status
  pub field_missing : Means (dot (name "object") "status") error
  -- oldObject.a
  pub field_of_null : Means (dot (name "oldObject") "a") error
  -- has(object.spec.on)
  pub has_field : Means (call "has" ((dot (dot (name "object") "spec") "on") ∷ [])) is_true
  -- has(object.spec.off)
  pub has_missing : Means (call "has" ((dot (dot (name "object") "spec") "off") ∷ [])) is_false
  -- has({'a':null}.a)
  pub has_null_value : Means (call "has" ((dot (map_literal (((str "a"), nothing) ∷ [])) "a") ∷ [])) is_true
  -- has([1].a)
  pub has_on_list : Means (call "has" ((dot (list_literal ((num 1) ∷ [])) "a") ∷ [])) error
  -- [5, 6][1]
  pub index_of_list : Means (index (list_literal ((num 5) ∷ (num 6) ∷ [])) (num 1)) (number (pos 6))
  -- [5][1]
  pub index_out_of_range : Means (index (list_literal ((num 5) ∷ [])) (num 1)) error
  -- [5][-1]
  pub index_negative : Means (index (list_literal ((num 5) ∷ [])) (neg 1)) error
  -- object['spec']['replicas']
  pub index_by_key : Means (index (index (name "object") (str "spec")) (str "replicas")) (number (pos 5))
  -- {'a':1}[0]
  pub index_of_map_by_int : Means (index (map_literal (((str "a"), (num 1)) ∷ [])) (num 0)) error
  -- variables.one + 1
  pub variable_read : Means (binary Add (variable "one") (num 1)) (number (pos 2))
  -- variables.wrong == 1 || true
  pub variable_error : Means (binary Or (binary Equal (variable "wrong") (num 1)) yes) is_true
  -- variables.other
  pub variable_unknown : Means (variable "other") error
  -- x
  pub name_unknown : Means (name "x") error
  -- oldObject == null
  pub root_old_object : Means (binary Equal (name "oldObject") nothing) is_true
  -- params.limit
  pub root_params : Means (dot (name "params") "limit") (number (pos 3))
  -- namespaceObject.name
  pub root_namespace_object : Means (dot (name "namespaceObject") "name") (word "default")
  -- request.uid
  pub root_request : Means (dot (name "request") "uid") (word "u1")
  -- has(object.status.phase)
  pub has_of_missing : Means (call "has" ((dot (dot (name "object") "status") "phase") ∷ [])) error
  -- has(object)
  pub has_of_no_selection : Means (call "has" ((name "object") ∷ [])) error
  -- {'a':1}['b']
  pub key_missing : Means (index (map_literal (((str "a"), (num 1)) ∷ [])) (str "b")) error
  -- [5]['a']
  pub index_of_list_by_text : Means (index (list_literal ((num 5) ∷ [])) (str "a")) error
  -- 'abc'[0]
  pub index_of_text : Means (index (str "abc") (num 0)) error
  -- (1).a
  pub field_of_int : Means (dot (num 1) "a") error
  -- variables
  pub variables_alone : Means (name "variables") error
  -- has(variables.one)
  pub has_of_variable : Means (call "has" (variable "one" ∷ [])) error
