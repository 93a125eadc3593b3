-- Meanings of wide expressions in the environment of `wide_meaning` (`Written`), worked by hand (cel-spec; cel-go, optional
-- values and macros of two names; Kubernetes, library/lists.go).
use Rattle.std.specs.Prelude.{◌≡◌, ℕ, true, false, pos, negsuc, List, [], ◌∷◌, codes}
use Rattle.cel_reader.specs.declared.operator.BinaryOperator.TheVariants.{Equal, NotEqual, In, Greater, Add}
use Rattle.cel_reader.specs.declared.operator.UnaryOperator.TheVariants.{Not, Negate}
use Rattle.value_store.specs.Value.{Value, null, boolean, int, text, list, map, items_of}
use Rattle.cel_macros.specs.Written.{entries_of}
use Rattle.wide_reader.specs.Tree.{Wide, unary, binary, ternary, fold, pair_fold, optional_fold}
use Rattle.wide_reader.specs.Tree.{list as list_of, map as map_of, uint, root, no_items, more_items, no_entries, more_entries}
use Rattle.wide_reader.specs.declared.wide.Access.{TheVariants.Plain, TheVariants.Optional}
use Rattle.wide_reader.specs.declared.wide.Macro.{Macro}
use Rattle.wide_reader.specs.declared.wide.Macro.TheVariants as macro
use Rattle.wide_reader.specs.declared.wide.OptionalMacro.TheVariants as optional
use Rattle.wide_reader.specs.declared.wide.PairMacro.{PairMacro}
use Rattle.wide_meaning.specs.Meaning.{wide_meaning}
use Rattle.wide_meaning.specs.Outcome.{Outcome, failed, plain, absent, present}
use Rattle.wide_meaning.specs.Written.{num, neg, str, yes, no, nothing, wrong, name, dot, maybe, item, maybe_item, has, call}
use Rattle.wide_meaning.specs.Written.{method, some, none}
use Rattle.wide_meaning.specs.Written.{or_value, has_value, list_literal, map_literal, WideGives, is_true, is_false, number, word}
use Rattle.wide_meaning.specs.Written.{review, object_spec, labels, missing}

-- ---- short notation

-- the fields `args`, `note` and `replicas` of object.spec
abbrev pub args : Wide
args = dot object_spec "args"

abbrev pub note : Wide
note = dot object_spec "note"

abbrev pub replicas : Wide
replicas = maybe object_spec "replicas"

-- the iteration names x, k and v
abbrev pub x : Wide
x = name "x"

abbrev pub k : Wide
k = name "k"

abbrev pub v : Wide
v = name "v"

-- [1, 2, 3]
abbrev pub three : Wide
three = list_literal (num 1 ∷ num 2 ∷ num 3 ∷ [])

-- a > b, a == b
abbrev pub above : Wide → Wide → Wide
above a b = binary Greater a b

abbrev pub same : Wide → Wide → Wide
same a b = binary Equal a b

-- r.all(x, p) and its kin
abbrev pub over : Macro → Wide → Wide → Wide
over m r p = fold m r (codes "x") p

-- r.all(k, v, p) and its kin
abbrev pub pairs_over : PairMacro → Wide → Wide → Wide
pairs_over m r p = pair_fold m r (codes "k") (codes "v") p

-- optional.ofNonZeroValue(a), and r.exists(variables, p)
abbrev pub non_zero : Wide → Wide
non_zero a = method (name "optional") "ofNonZeroValue" (a ∷ [])

abbrev pub over_variables : Wide → Wide → Wide
over_variables r p = fold macro.Exists r (codes "variables") p

-- the map of these entries
abbrev pub entries : List (List ℕ × Value) → Value
entries es = map (entries_of es)

-- the list of these values
abbrev pub values : List Value → Outcome
values vs = plain (list (items_of vs))

-- the meaning is left to the calls that the definitions leave open
abbrev pub WideLeaves : Wide → Type 0
WideLeaves e = wide_meaning (λ other env. word "left open") e review ≡ word "left open"

-- the meaning is this one, and not left to those calls
abbrev pub WideAnswers : Wide → Outcome → Type 0
WideAnswers e x = wide_meaning (λ other env. word "left open") e review ≡ x

-- ---- accesses

-- fields, items, entries and names
pub record AccessRowsStand : Type 0 where
  -- object.spec.note[?0], object.spec.note[?'a'] and object.spec.note[?true]
  pub item_of_null : WideGives (maybe_item note (num 0)) absent
  pub entry_of_null : WideGives (maybe_item note (str "a")) absent
  pub bool_of_null : WideGives (maybe_item note yes) failed
  -- object.spec.args[?true], object.metadata.labels[?true] and object.metadata.labels[?'none']
  pub bool_of_list : WideGives (maybe_item args yes) failed
  pub bool_of_map : WideGives (maybe_item labels yes) failed
  pub entry_missing : WideGives (maybe_item labels (str "none")) absent
  -- object.spec.args[?0] and object.spec.args[?1 / 0]
  pub first_item : WideGives (maybe_item args (num 0)) (present (text (codes "-v")))
  pub wrong_index : WideGives (maybe_item args wrong) failed
  -- object.spec.args[0], object.spec.args[2] and object.spec.image[0]
  pub plain_item : WideGives (item args (num 0)) (word "-v")
  pub no_item : WideGives (item args (num 2)) failed
  pub item_of_text : WideGives (item (dot object_spec "image") (num 0)) failed
  -- object.spec.?args[1 / 0], object.spec.?args[2], object.spec.?args[-1] and object.spec.?note[0]
  pub wrong_index_of_some : WideGives (item (maybe object_spec "args") wrong) failed
  pub no_item_of_some : WideGives (item (maybe object_spec "args") (num 2)) absent
  pub index_below_0_of_some : WideGives (item (maybe object_spec "args") (neg 1)) absent
  pub item_of_some_null : WideGives (item (maybe object_spec "note") (num 0)) absent
  -- object.spec.args[object.spec.?replicas] and object.spec.?args[object.spec.?missing]
  pub optional_index : WideGives (item args replicas) failed
  pub optional_index_of_some : WideGives (item (maybe object_spec "args") missing) failed
  -- object.spec.note.?a, object.spec.?note.a, object.spec.?image.a and object.spec.?sel.a
  pub field_of_null : WideGives (maybe note "a") absent
  pub field_of_some_null : WideGives (dot (maybe object_spec "note") "a") absent
  pub field_of_some_text : WideGives (dot (maybe object_spec "image") "a") failed
  pub no_field_of_some : WideGives (dot (maybe object_spec "sel") "a") absent
  -- object.spec.note.a, object.spec.?missing.?a and object.spec.?replicas.?a
  pub plain_field_of_null : WideGives (dot note "a") failed
  pub field_of_none : WideGives (maybe missing "a") absent
  pub field_of_some_int : WideGives (maybe replicas "a") failed
  -- has(object.spec.note), has(object.spec.?sel.a), has(object.spec.?args.a), has(object.?spec.note) and has(object.none.a)
  pub has_null : WideGives (has object_spec "note") is_true
  pub has_nothing : WideGives (has (maybe object_spec "sel") "a") is_false
  pub has_of_list : WideGives (has (maybe object_spec "args") "a") failed
  pub has_of_some : WideGives (has (maybe (name "object") "spec") "note") is_true
  pub has_of_error : WideGives (has (dot (name "object") "none") "a") failed
  -- oldObject, namespaceObject, params.max, request.operation and .other
  pub old_object : WideGives (name "oldObject") (plain null)
  pub namespace : WideGives (name "namespaceObject") (plain null)
  pub params : WideGives (dot (name "params") "max") (number (pos 5))
  pub operation : WideGives (dot (name "request") "operation") (word "CREATE")
  pub unknown_root : WideGives (root (codes "other")) failed
  -- variables.none, variables.?one, variables, variables.missing and .variables.missing.hasValue()
  pub unknown_variable : WideGives (dot (name "variables") "none") failed
  pub optional_access : WideGives (maybe (name "variables") "one") failed
  pub variables_alone : WideGives (name "variables") failed
  pub missing_variable : WideGives (dot (name "variables") "missing") absent
  -- object.one and object.spec.replicas.one, which are no variables
  pub no_variable : WideGives (dot (name "object") "one") failed
  pub no_variable_of_field : WideGives (dot (dot object_spec "replicas") "one") failed
  -- [{'one': 2}].exists(variables, variables.one == 2) and [1].exists(variables, .variables.one == 1)
  pub hidden_variables :
      WideGives
      (over_variables (list_literal (map_literal ((str "one", num 2) ∷ []) ∷ [])) (same (dot (name "variables") "one") (num 2))) is_true
  pub dotted_variables :
      WideGives (over_variables (list_literal (num 7 ∷ [])) (same (dot (root (codes "variables")) "one") (num 1))) is_true

-- ---- operators and literals

-- operators, conditionals, and literals of lists and maps
pub record WideOperatorRowsStand : Type 0 where
  -- 1 == 1, 1 == 2, 1 != 2, 1 == 1 / 0 and 1 / 0 != 1
  pub equal : WideGives (same (num 1) (num 1)) is_true
  pub unequal : WideGives (same (num 1) (num 2)) is_false
  pub not_equal : WideGives (binary NotEqual (num 1) (num 2)) is_true
  pub right_is_error : WideGives (same (num 1) wrong) failed
  pub left_is_error : WideGives (binary NotEqual wrong (num 1)) failed
  -- object.spec.?missing == 1 / 0 and optional.of(1) == 1 / 0
  pub none_and_error : WideGives (same missing wrong) failed
  pub some_and_error : WideGives (same (some (num 1)) wrong) failed
  -- object.spec.?missing == 1, 1 == object.spec.?missing and optional.of(1) == 1
  pub none_and_value : WideGives (same missing (num 1)) is_false
  pub value_and_none : WideGives (same (num 1) missing) is_false
  pub some_and_value : WideGives (same (some (num 1)) (num 1)) is_false
  -- optional.none() == optional.none(), optional.none() == optional.of(1), optional.of(1) == optional.none(), optional.of(1) ==
  -- optional.of(1) and optional.of(1) == optional.of(2)
  pub two_none : WideGives (same none none) is_true
  pub none_and_some : WideGives (same none (some (num 1))) is_false
  pub some_and_none : WideGives (same (some (num 1)) none) is_false
  pub some_and_some : WideGives (same (some (num 1)) (some (num 1))) is_true
  pub some_and_other : WideGives (same (some (num 1)) (some (num 2))) is_false
  -- [] == [], [1] == [], [1] + [] and 2 in [1]
  pub empty_lists : WideGives (same (list_literal []) (list_literal [])) is_true
  pub list_and_empty : WideGives (same (list_literal (num 1 ∷ [])) (list_literal [])) is_false
  pub sum_with_empty : WideGives (binary Add (list_literal (num 1 ∷ [])) (list_literal [])) (values (int (pos 1) ∷ []))
  pub not_in_list : WideGives (binary In (num 2) (list_literal (num 1 ∷ []))) is_false
  -- 'a' in {} and 1 / 0 in {}
  pub key_of_no_entry : WideGives (binary In (str "a") (map_literal [])) is_false
  pub error_in_map : WideGives (binary In wrong (map_literal [])) failed
  -- optional.of(1) + 1, -optional.of(1), !1 and -3
  pub sum_of_optional : WideGives (binary Add (some (num 1)) (num 1)) failed
  pub negated_optional : WideGives (unary Negate (some (num 1))) failed
  pub not_of_int : WideGives (unary Not (num 1)) failed
  pub negated : WideGives (unary Negate (num 3)) (number (negsuc 2))
  -- true ? 7 : 1 / 0, 1 ? 2 : 3, 1 / 0 ? 2 : 3 and optional.of(true) ? 2 : 3
  pub first_branch : WideGives (ternary yes (num 7) wrong) (number (pos 7))
  pub int_as_condition : WideGives (ternary (num 1) (num 2) (num 3)) failed
  pub error_as_condition : WideGives (ternary wrong (num 2) (num 3)) failed
  pub optional_condition : WideGives (ternary (some yes) (num 2) (num 3)) failed
  -- [?1], [optional.of(1)], [?optional.of(2), 1] and [?optional.none(), 1 / 0]
  pub value_as_optional_item : WideGives (list_of (more_items Optional (num 1) no_items)) failed
  pub optional_as_item : WideGives (list_literal (some (num 1) ∷ [])) failed
  pub some_item :
      WideGives (list_of (more_items Optional (some (num 2)) (more_items Plain (num 1) no_items))) (values (int (pos 2) ∷ int (pos 1) ∷ []))
  pub later_error : WideGives (list_of (more_items Optional none (more_items Plain wrong no_items))) failed
  -- {?'a': 1}, {'a': optional.of(1)}, {1: 2}, {?1: optional.none()}, {?1 / 0: optional.none()} and {?'a': 1 / 0}
  pub value_as_optional_entry : WideGives (map_of (more_entries Optional (str "a") (num 1) no_entries)) failed
  pub optional_as_entry : WideGives (map_literal ((str "a", some (num 1)) ∷ [])) failed
  pub int_as_key : WideGives (map_literal ((num 1, num 2) ∷ [])) failed
  pub int_as_key_of_none : WideGives (map_of (more_entries Optional (num 1) none no_entries)) failed
  pub error_as_key_of_none : WideGives (map_of (more_entries Optional wrong none no_entries)) failed
  pub error_as_entry : WideGives (map_of (more_entries Optional (str "a") wrong no_entries)) failed
  -- {?1: optional.of(2)}, {'b': 1, 'a': 2}, {?'a': optional.of(1), 'a': 2} and {}
  pub int_as_key_of_some : WideGives (map_of (more_entries Optional (num 1) (some (num 2)) no_entries)) failed
  pub two_entries :
      WideGives (map_literal ((str "b", num 1) ∷ (str "a", num 2) ∷ []))
      (plain (entries ((codes "a", int (pos 2)) ∷ (codes "b", int (pos 1)) ∷ [])))
  pub repeated_key :
      WideGives (map_of (more_entries Optional (str "a") (some (num 1)) (more_entries Plain (str "a") (num 2) no_entries))) failed
  pub no_entry : WideGives (map_literal []) (plain (entries []))
  -- [], true, null and 18446744073709551615u
  pub no_item : WideGives (list_literal []) (values [])
  pub true_literal : WideGives yes (plain (boolean true))
  pub null_literal : WideGives nothing (plain null)
  pub greatest_unsigned : WideGives (uint 18446744073709551615) (number (pos 18446744073709551615))

-- ---- functions and methods

-- functions and methods of one operand or two, and those of other numbers, which are left open
pub record FunctionRowsStand : Type 0 where
  -- bool of each text that denotes one (Go, strconv.ParseBool), of '' and of null
  pub one : WideGives (call "bool" (str "1" ∷ [])) is_true
  pub small_t : WideGives (call "bool" (str "t" ∷ [])) is_true
  pub large_t : WideGives (call "bool" (str "T" ∷ [])) is_true
  pub small_true : WideGives (call "bool" (str "true" ∷ [])) is_true
  pub large_true : WideGives (call "bool" (str "TRUE" ∷ [])) is_true
  pub title_true : WideGives (call "bool" (str "True" ∷ [])) is_true
  pub zero : WideGives (call "bool" (str "0" ∷ [])) is_false
  pub small_f : WideGives (call "bool" (str "f" ∷ [])) is_false
  pub large_f : WideGives (call "bool" (str "F" ∷ [])) is_false
  pub small_false : WideGives (call "bool" (str "false" ∷ [])) is_false
  pub large_false : WideGives (call "bool" (str "FALSE" ∷ [])) is_false
  pub title_false : WideGives (call "bool" (str "False" ∷ [])) is_false
  pub empty_text : WideGives (call "bool" (str "" ∷ [])) failed
  pub null_as_bool : WideGives (call "bool" (nothing ∷ [])) failed
  pub true_as_bool : WideGives (call "bool" (yes ∷ [])) is_true
  -- string(true), string('a'), string([]), dyn(1 / 0), size(1) and size({'a': 1})
  pub true_as_text : WideGives (call "string" (yes ∷ [])) (word "true")
  pub text_as_text : WideGives (call "string" (str "a" ∷ [])) (word "a")
  pub list_as_text : WideGives (call "string" (list_literal [] ∷ [])) failed
  pub error_stays : WideGives (call "dyn" (wrong ∷ [])) failed
  pub size_of_int : WideGives (call "size" (num 1 ∷ [])) failed
  pub size_of_map : WideGives (call "size" (map_literal ((str "a", num 1) ∷ []) ∷ [])) (number (pos 1))
  pub size_of_list : WideGives (method three "size" []) (number (pos 3))
  -- size(), string(1, 2), f(1), size(optional.of(1)) and 'a'.f()
  pub no_operand : WideLeaves (call "size" [])
  pub two_operands : WideLeaves (call "string" (num 1 ∷ num 2 ∷ []))
  pub unknown_function : WideLeaves (call "f" (num 1 ∷ []))
  pub size_of_optional : WideGives (call "size" (some (num 1) ∷ [])) failed
  pub unknown_method : WideLeaves (method (str "a") "f" [])
  -- 'abc'.startsWith('a'), 'abc'.endsWith('b'), 'abc'.contains('d'), 'abc'.startsWith(1) and 'abc'.startsWith()
  pub starts : WideGives (method (str "abc") "startsWith" (str "a" ∷ [])) is_true
  pub ends_otherwise : WideGives (method (str "abc") "endsWith" (str "b" ∷ [])) is_false
  pub without : WideGives (method (str "abc") "contains" (str "d" ∷ [])) is_false
  pub starts_with_int : WideGives (method (str "abc") "startsWith" (num 1 ∷ [])) failed
  pub starts_with_nothing : WideLeaves (method (str "abc") "startsWith" [])
  pub size_of_two : WideLeaves (method (str "abc") "size" (num 1 ∷ []))
  -- sets.contains([2], [1, 2]), sets.contains([1], []), sets.contains([], [1]) and sets.contains(1, [1])
  pub not_contained :
      WideGives (method (name "sets") "contains" (list_literal (num 2 ∷ []) ∷ list_literal (num 1 ∷ num 2 ∷ []) ∷ [])) is_false
  pub nothing_contained : WideGives (method (name "sets") "contains" (list_literal (num 1 ∷ []) ∷ list_literal [] ∷ [])) is_true
  pub contained_in_nothing : WideGives (method (name "sets") "contains" (list_literal [] ∷ list_literal (num 1 ∷ []) ∷ [])) is_false
  pub contained_in_int : WideGives (method (name "sets") "contains" (num 1 ∷ list_literal (num 1 ∷ []) ∷ [])) failed
  pub contained_int : WideGives (method (name "sets") "contains" (list_literal (num 1 ∷ []) ∷ num 1 ∷ [])) failed
  pub contained_map : WideGives (method (name "sets") "contains" (list_literal [] ∷ map_literal [] ∷ [])) failed
  -- sets.intersects([1, 2], [2, 3]), sets.intersects([1, 2], [3]), sets.intersects([], []), sets.equivalent([1], [1, 2]),
  -- sets.equivalent([1, 2], [1]) and sets.equivalent([], [])
  pub meeting :
      WideGives (method (name "sets") "intersects" (list_literal (num 1 ∷ num 2 ∷ []) ∷ list_literal (num 2 ∷ num 3 ∷ []) ∷ [])) is_true
  pub apart : WideGives (method (name "sets") "intersects" (list_literal (num 1 ∷ num 2 ∷ []) ∷ list_literal (num 3 ∷ []) ∷ [])) is_false
  pub both_empty : WideGives (method (name "sets") "intersects" (list_literal [] ∷ list_literal [] ∷ [])) is_false
  pub fewer : WideGives (method (name "sets") "equivalent" (list_literal (num 1 ∷ []) ∷ list_literal (num 1 ∷ num 2 ∷ []) ∷ [])) is_false
  pub more : WideGives (method (name "sets") "equivalent" (list_literal (num 1 ∷ num 2 ∷ []) ∷ list_literal (num 1 ∷ []) ∷ [])) is_false
  pub none_and_none : WideGives (method (name "sets") "equivalent" (list_literal [] ∷ list_literal [] ∷ [])) is_true
  -- sets.contains([1]), sets.of(1), optional.contains([], []) and object.contains('a'), a method of what is no text
  pub one_set : WideLeaves (method (name "sets") "contains" (list_literal (num 1 ∷ []) ∷ []))
  pub one_set_of_two : WideLeaves (method (name "sets") "intersects" (list_literal (num 1 ∷ []) ∷ []))
  pub three_sets : WideLeaves (method (name "sets") "equivalent" (three ∷ three ∷ three ∷ []))
  pub no_set : WideLeaves (method (name "sets") "of" (num 1 ∷ []))
  pub no_optional : WideLeaves (method (name "optional") "equivalent" (three ∷ three ∷ []))
  pub method_of_object : WideGives (method (name "object") "contains" (str "a" ∷ [])) failed
  -- [1].first() and [].first(), {'a': 1}.first(), [7].last(), ['a', 'b', 'c'].last() and [1].last(1)
  pub first : WideGives (method (list_literal (num 1 ∷ num 2 ∷ [])) "first" []) (present (int (pos 1)))
  pub first_of_none : WideGives (method (list_literal []) "first" []) absent
  pub first_of_map : WideGives (method (map_literal ((str "a", num 1) ∷ [])) "first" []) failed
  pub last_of_none : WideGives (method (list_literal []) "last" []) absent
  pub last_of_one : WideGives (method (list_literal (num 7 ∷ [])) "last" []) (present (int (pos 7)))
  pub last_of_three : WideGives (method three "last" []) (present (int (pos 3)))
  pub last_of_two_operands : WideLeaves (method three "last" (num 1 ∷ []))
  -- [1, 3, 2].max(), [1, 3, 2].min(), ['b', 'a'].min(), {}.min(), optional.of([1]).max() and [1].max(1)
  pub greatest : WideGives (method (list_literal (num 1 ∷ num 3 ∷ num 2 ∷ [])) "max" []) (number (pos 3))
  pub least : WideGives (method (list_literal (num 3 ∷ num 1 ∷ num 2 ∷ [])) "min" []) (number (pos 1))
  pub least_text : WideGives (method (list_literal (str "b" ∷ str "a" ∷ [])) "min" []) (word "a")
  pub least_of_map : WideGives (method (map_literal []) "min" []) failed
  pub greatest_of_optional : WideGives (method (some three) "max" []) failed
  pub greatest_of_two_operands : WideLeaves (method three "max" (num 1 ∷ []))
  pub least_of_two_operands : WideLeaves (method three "min" (num 1 ∷ []))

-- the names of functions and methods
pub record NameRowsStand : Type 0 where
  pub size_function : WideAnswers (call "size" (str "ab" ∷ [])) (number (pos 2))
  pub string_function : WideAnswers (call "string" (num 1 ∷ [])) (word "1")
  pub dyn_function : WideAnswers (call "dyn" (num 1 ∷ [])) (number (pos 1))
  pub bool_function : WideAnswers (call "bool" (str "t" ∷ [])) is_true
  pub size_method : WideAnswers (method (str "ab") "size" []) (number (pos 2))
  pub starts_with : WideAnswers (method (str "ab") "startsWith" (str "a" ∷ [])) is_true
  pub ends_with : WideAnswers (method (str "ab") "endsWith" (str "b" ∷ [])) is_true
  pub contains : WideAnswers (method (str "ab") "contains" (str "ab" ∷ [])) is_true
  pub has_a_value : WideAnswers (method none "hasValue" []) is_false
  pub value_of_some : WideAnswers (method (some (num 1)) "value" []) (number (pos 1))
  pub value_or : WideAnswers (method none "orValue" (num 1 ∷ [])) (number (pos 1))
  pub or_other : WideAnswers (method none "or" (none ∷ [])) absent
  pub first_item : WideAnswers (method three "first" []) (present (int (pos 1)))
  pub last_item : WideAnswers (method three "last" []) (present (int (pos 3)))
  pub least : WideAnswers (method three "min" []) (number (pos 1))
  pub greatest : WideAnswers (method three "max" []) (number (pos 3))
  pub of_value : WideAnswers (some (num 1)) (present (int (pos 1)))
  pub no_value : WideAnswers none absent
  pub of_non_zero : WideAnswers (non_zero (num 0)) absent
  pub set_contains : WideAnswers (method (name "sets") "contains" (three ∷ three ∷ [])) is_true
  pub set_intersects : WideAnswers (method (name "sets") "intersects" (three ∷ three ∷ [])) is_true
  pub set_equivalent : WideAnswers (method (name "sets") "equivalent" (three ∷ three ∷ [])) is_true

-- ---- optional values

pub record OptionalValueRowsStand : Type 0 where
  -- optional.ofNonZeroValue of null, false, 0, '', [] and {}
  pub of_null : WideGives (non_zero nothing) absent
  pub of_false : WideGives (non_zero no) absent
  pub of_zero : WideGives (non_zero (num 0)) absent
  pub of_no_text : WideGives (non_zero (str "")) absent
  pub of_no_item : WideGives (non_zero (list_literal [])) absent
  pub of_no_entry : WideGives (non_zero (map_literal [])) absent
  -- and of true, -1, 'a', [0], {'a': 0} and 1 / 0
  pub of_true : WideGives (non_zero yes) (present (boolean true))
  pub of_less : WideGives (non_zero (neg 1)) (present (int (negsuc 0)))
  pub of_text : WideGives (non_zero (str "a")) (present (text (codes "a")))
  pub of_item :
      WideGives (non_zero (list_literal (num 0 ∷ []))) (present (list (items_of (int (pos 0) ∷ []))))
  pub of_entry :
      WideGives (non_zero (map_literal ((str "a", num 0) ∷ []))) (present (entries ((codes "a", int (pos 0)) ∷ [])))
  pub of_wrong : WideGives (non_zero wrong) failed
  -- optional.of(1), optional.of(optional.none()), optional.of(optional.of(1)), optional.none(), and numbers of operands
  pub some_value : WideGives (some (num 1)) (present (int (pos 1)))
  pub some_null : WideGives (some nothing) (present null)
  pub some_none : WideGives (some none) failed
  pub some_some : WideGives (some (some (num 1))) failed
  pub no_value : WideGives none absent
  pub of_nothing : WideLeaves (method (name "optional") "of" [])
  pub none_of_one : WideLeaves (method (name "optional") "none" (num 1 ∷ []))
  pub non_zero_of_two : WideLeaves (method (name "optional") "ofNonZeroValue" (num 1 ∷ num 2 ∷ []))
  -- object.?spec.hasValue(), 1.hasValue(), (1 / 0).hasValue(), 1.value(), optional.of(7).value(), optional.none().value()
  pub has_value_of_some : WideGives (has_value (maybe (name "object") "spec")) is_true
  pub has_value_of_int : WideGives (has_value (num 1)) failed
  pub has_value_of_error : WideGives (has_value wrong) failed
  pub value_of_int : WideGives (method (num 1) "value" []) failed
  pub value_of_some : WideGives (method (some (num 7)) "value" []) (number (pos 7))
  pub value_of_none : WideGives (method none "value" []) failed
  pub value_of_error : WideGives (method wrong "value" []) failed
  -- (1 / 0).orValue(1), optional.none().orValue(2), 1.or(optional.of(2)), optional.none().or(optional.none()), (1 / 0).or(..)
  pub default_of_error : WideGives (or_value wrong (num 1)) failed
  pub default_of_none : WideGives (or_value none (num 2)) (number (pos 2))
  pub or_of_int : WideGives (method (num 1) "or" (some (num 2) ∷ [])) failed
  pub or_of_two_none : WideGives (method none "or" (none ∷ [])) absent
  pub or_of_error : WideGives (method wrong "or" (some (num 2) ∷ [])) failed
  pub or_of_nothing : WideLeaves (method none "or" [])
  pub value_of_two_operands : WideLeaves (method none "value" (num 1 ∷ []))
  pub has_value_of_two_operands : WideLeaves (method none "hasValue" (num 1 ∷ []))
  pub default_of_nothing : WideLeaves (method none "orValue" [])
  -- optMap and optFlatMap of none, 1 and 1 / 0
  pub mapped_none : WideGives (optional_fold optional.Map none (codes "x") x) absent
  pub mapped_int : WideGives (optional_fold optional.Map (num 1) (codes "x") x) failed
  pub mapped_error : WideGives (optional_fold optional.Map wrong (codes "x") x) failed
  pub flat_none : WideGives (optional_fold optional.FlatMap none (codes "x") (some x)) absent
  pub flat_int : WideGives (optional_fold optional.FlatMap (num 1) (codes "x") (some x)) failed
  pub flat_error : WideGives (optional_fold optional.FlatMap wrong (codes "x") (some x)) failed
  -- optional.of(3).optMap(x, x), optional.of(3).optMap(x, optional.none()), optional.of(3).optFlatMap(x, optional.none()) and
  -- optional.of(3).optFlatMap(x, optional.of(x + 1))
  pub mapped : WideGives (optional_fold optional.Map (some (num 3)) (codes "x") x) (present (int (pos 3)))
  pub mapped_to_none : WideGives (optional_fold optional.Map (some (num 3)) (codes "x") none) failed
  pub flat_to_none : WideGives (optional_fold optional.FlatMap (some (num 3)) (codes "x") none) absent
  pub flat_to_some :
      WideGives (optional_fold optional.FlatMap (some (num 3)) (codes "x") (some (binary Add x (num 1)))) (present (int (pos 4)))
  pub flat_to_error : WideGives (optional_fold optional.FlatMap (some (num 3)) (codes "x") wrong) failed
