-- Expressions without optional values, worked out by hand.
use Rattle.std.specs.Prelude.{pos, [], ◌∷◌, codes}
use Rattle.cel_reader.specs.declared.operator.BinaryOperator.TheVariants.{Equal, NotEqual, In, Or, And, Less, Add}
use Rattle.cel_reader.specs.declared.operator.UnaryOperator.TheVariants.{Not, Negate}
use Rattle.value_store.specs.Value.{int, text, list, items_of}
use Rattle.wide_reader.specs.Tree.{uint, root, select, unary, binary, ternary, fold, filter_map, pair_fold, pair_filter_map}
use Rattle.wide_reader.specs.declared.wide.Access.{TheVariants.Plain}
use Rattle.wide_reader.specs.declared.wide.Macro.TheVariants as macro
use Rattle.wide_reader.specs.declared.wide.PairMacro.TheVariants as pair
use Rattle.wide_meaning.specs.Outcome.{failed, plain, present}
use Rattle.wide_meaning.specs.Written.{num, neg, str, yes, no, nothing, wrong, name, dot, maybe, item, has, call, method, or_value, list_literal, map_literal, WideGives, is_true, is_false, number, word, object_spec, labels}

-- meanings in the environment of `Written`
pub record PlainRows : Type 0 where
  -- .object.spec.replicas == 3
  pub dotted_root : WideGives (binary Equal (dot (select (root (codes "object")) Plain (codes "spec")) "replicas") (num 3)) is_true
  -- object.spec.args.exists(request, request == '-v')
  pub hidden_root : WideGives (fold macro.Exists (dot object_spec "args") (codes "request") (binary Equal (name "request") (str "-v"))) is_true
  -- object.spec.args.exists(request, .request == '-v')
  pub root_behind : WideGives (fold macro.Exists (dot object_spec "args") (codes "request") (binary Equal (root (codes "request")) (str "-v"))) is_false
  -- [object.spec].exists(variables, variables.replicas == 3)
  pub hidden_variables : WideGives (fold macro.Exists (list_literal (object_spec ∷ [])) (codes "variables") (binary Equal (dot (name "variables") "replicas") (num 3))) is_true
  -- variables.one, variables.wrong and other
  pub variable : WideGives (dot (name "variables") "one") (number (pos 1))
  pub wrong_variable : WideGives (dot (name "variables") "wrong") failed
  pub unknown_name : WideGives (name "other") failed
  -- 1 < 2u
  pub unsigned : WideGives (binary Less (num 1) (uint 2)) is_true
  -- has(params.none) || params.max == 5
  pub absent_field : WideGives (binary Or (has (name "params") "none") (binary Equal (dot (name "params") "max") (num 5))) is_true
  -- 1 / 0 == 1 && false, and 1 / 0 == 1 || false
  pub and_absorbs : WideGives (binary And (binary Equal wrong (num 1)) no) is_false
  pub or_does_not : WideGives (binary Or (binary Equal wrong (num 1)) no) failed
  -- !true and -'a'
  pub negated : WideGives (unary Not yes) is_false
  pub negated_text : WideGives (unary Negate (str "a")) failed
  -- false ? 1 / 0 : 7
  pub one_branch : WideGives (ternary no wrong (num 7)) (number (pos 7))
  -- 1 == 'a' and null != null
  pub kinds_differ : WideGives (binary Equal (num 1) (str "a")) is_false
  pub nulls : WideGives (binary NotEqual nothing nothing) is_false
  -- 1 == object.spec.?replicas
  pub value_and_optional : WideGives (binary Equal (num 1) (maybe object_spec "replicas")) is_false
  -- object.nothing in [], object.nothing in [1] and 1 in [1]
  pub in_nothing : WideGives (binary In (dot (name "object") "nothing") (list_literal [])) is_false
  pub error_in_list : WideGives (binary In (dot (name "object") "nothing") (list_literal (num 1 ∷ []))) failed
  pub in_list : WideGives (binary In (num 1) (list_literal (num 1 ∷ []))) is_true
  -- [1, 1 / 0] and {'a': 1, 'a': 2}
  pub list_with_error : WideGives (list_literal (num 1 ∷ wrong ∷ [])) failed
  pub repeated_key : WideGives (map_literal ((str "a", num 1) ∷ (str "a", num 2) ∷ [])) failed
  -- {'a': 1}['a'] and {'a': 1}.b
  pub entry : WideGives (item (map_literal ((str "a", num 1) ∷ [])) (str "a")) (number (pos 1))
  pub absent_entry : WideGives (dot (map_literal ((str "a", num 1) ∷ [])) "b") failed
  -- string(object.spec.paused), string(object.spec.note) and string(-12)
  pub bool_as_text : WideGives (call "string" (dot object_spec "paused" ∷ [])) (word "false")
  pub null_as_text : WideGives (call "string" (dot object_spec "note" ∷ [])) failed
  pub int_as_text : WideGives (call "string" (neg 12 ∷ [])) (word "-12")
  -- bool('True'), bool(false), bool('yes') and bool(1)
  pub text_as_bool : WideGives (call "bool" (str "True" ∷ [])) is_true
  pub bool_as_bool : WideGives (call "bool" (no ∷ [])) is_false
  pub other_text : WideGives (call "bool" (str "yes" ∷ [])) failed
  pub int_as_bool : WideGives (call "bool" (num 1 ∷ [])) failed
  -- size('é'), dyn(1) and 'abc'.size()
  pub size : WideGives (call "size" (str "abc" ∷ [])) (number (pos 3))
  pub dynamic : WideGives (call "dyn" (num 1 ∷ [])) (number (pos 1))
  pub size_method : WideGives (method (str "abc") "size" []) (number (pos 3))
  -- 'abc'.startsWith('b'), 'abc'.endsWith('c') and 'abc'.contains('b')
  pub starts : WideGives (method (str "abc") "startsWith" (str "b" ∷ [])) is_false
  pub ends : WideGives (method (str "abc") "endsWith" (str "c" ∷ [])) is_true
  pub within : WideGives (method (str "abc") "contains" (str "b" ∷ [])) is_true
  -- sets.contains([1, 2], [2]), sets.intersects([1], [2]) and sets.equivalent([1, 2], [2, 1, 1])
  pub sets_contain : WideGives (method (name "sets") "contains" (list_literal (num 1 ∷ num 2 ∷ []) ∷ list_literal (num 2 ∷ []) ∷ [])) is_true
  pub sets_meet : WideGives (method (name "sets") "intersects" (list_literal (num 1 ∷ []) ∷ list_literal (num 2 ∷ []) ∷ [])) is_false
  pub sets_same : WideGives (method (name "sets") "equivalent" (list_literal (num 1 ∷ num 2 ∷ []) ∷ list_literal (num 2 ∷ num 1 ∷ num 1 ∷ []) ∷ [])) is_true
  -- object.spec.args.first().orValue(''), [].last().orValue(0) and 'a'.first().orValue(0)
  pub first : WideGives (or_value (method (dot object_spec "args") "first" []) (str "")) (word "-v")
  pub last : WideGives (or_value (method (list_literal []) "last" []) (num 0)) (number (pos 0))
  pub first_of_text : WideGives (or_value (method (str "a") "first" []) (num 0)) failed
  -- [1, 2].last() and {'a': 1}.last()
  pub last_of_two : WideGives (method (list_literal (num 1 ∷ num 2 ∷ [])) "last" []) (present (int (pos 2)))
  pub last_of_map : WideGives (method (map_literal ((str "a", num 1) ∷ [])) "last" []) failed
  -- [3, 1, 2].min(), ['a', 'b'].max(), [].min(), [1, 'a'].max() and 1.max()
  pub least : WideGives (method (list_literal (num 3 ∷ num 1 ∷ num 2 ∷ [])) "min" []) (number (pos 1))
  pub greatest : WideGives (method (list_literal (str "a" ∷ str "b" ∷ [])) "max" []) (word "b")
  pub least_of_none : WideGives (method (list_literal []) "min" []) failed
  pub no_order : WideGives (method (list_literal (num 1 ∷ str "a" ∷ [])) "max" []) failed
  pub greatest_of_int : WideGives (method (num 1) "max" []) failed
  -- object.spec.ports.map(p, p.?name.orValue('-'))
  pub mapped : WideGives (fold macro.Map (dot object_spec "ports") (codes "p") (or_value (maybe (name "p") "name") (str "-"))) (plain (list (items_of (text (codes "http") ∷ text (codes "-") ∷ []))))
  -- object.spec.ports.exists(p, p.?name == object.metadata.?name)
  pub optional_in_macro : WideGives (fold macro.Exists (dot object_spec "ports") (codes "p") (binary Equal (maybe (name "p") "name") (maybe (dot (name "object") "metadata") "name"))) is_false
  -- [1, 2].map(x, x == 2, x + 1)
  pub filtered : WideGives (filter_map (list_literal (num 1 ∷ num 2 ∷ [])) (codes "x") (binary Equal (name "x") (num 2)) (binary Add (name "x") (num 1))) (plain (list (items_of (int (pos 3) ∷ []))))
  -- object.metadata.labels.all(k, v, k != v) and existsOne(k, v, v == 'x')
  pub all_entries : WideGives (pair_fold pair.All labels (codes "k") (codes "v") (binary NotEqual (name "k") (name "v"))) is_true
  pub one_entry : WideGives (pair_fold pair.ExistsOne labels (codes "k") (codes "v") (binary Equal (name "v") (str "x"))) is_true
  -- object.spec.args.exists(i, a, i == 1 && a.startsWith('--'))
  pub some_item : WideGives (pair_fold pair.Exists (dot object_spec "args") (codes "i") (codes "a") (binary And (binary Equal (name "i") (num 1)) (method (name "a") "startsWith" (str "--" ∷ [])))) is_true
  -- object.metadata.labels.transformList(k, v, k + '=' + v)
  pub transformed : WideGives (pair_fold pair.TransformList labels (codes "k") (codes "v") (binary Add (binary Add (name "k") (str "=")) (name "v"))) (plain (list (items_of (text (codes "app=shop") ∷ text (codes "team/a=x") ∷ []))))
  -- object.metadata.labels.transformList(k, v, v == 'x', k)
  pub transformed_where : WideGives (pair_filter_map labels (codes "k") (codes "v") (binary Equal (name "v") (str "x")) (name "k")) (plain (list (items_of (text (codes "team/a") ∷ []))))
  -- 'a'.all(i, v, true)
  pub no_range : WideGives (pair_fold pair.All (str "a") (codes "i") (codes "v") yes) failed
