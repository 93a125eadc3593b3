-- Meanings of macros of one name and of two, worked by hand (cel-spec, Macros; cel-go, ext/comprehensions.go).
use Rattle.std.specs.Prelude.{true, false, pos, [], ◌∷◌, codes}
use Rattle.cel_reader.specs.declared.operator.BinaryOperator.TheVariants.{And, Add}
use Rattle.value_store.specs.Value.{boolean, int, text}
use Rattle.wide_reader.specs.Tree.{binary, ternary, filter_map, pair_filter_map}
use Rattle.wide_reader.specs.declared.wide.Macro.TheVariants as macro
use Rattle.wide_reader.specs.declared.wide.PairMacro.TheVariants as pair
use Rattle.wide_meaning.specs.Outcome.{failed}
use Rattle.wide_meaning.specs.Written.{num, str, yes, no, wrong, maybe}
use Rattle.wide_meaning.specs.Written.{some}
use Rattle.wide_meaning.specs.Written.{list_literal, map_literal, WideGives, is_true, is_false}
use Rattle.wide_meaning.specs.Written.{object_spec, labels}
use Rattle.wide_rows.specs.MeaningRows.{x, k, v, three, above, same, over, pairs_over, values}

-- macros of one name and of two
pub record MacroMeaningRowsStand : Type 0 where
  -- [1, 2, 3]: all, exists, exists_one, filter and map
  pub all : WideGives (over macro.All three (above x (num 0))) is_true
  pub not_all : WideGives (over macro.All three (above x (num 1))) is_false
  pub exists : WideGives (over macro.Exists three (above x (num 1))) is_true
  pub exists_none : WideGives (over macro.Exists three (above x (num 3))) is_false
  pub exists_one : WideGives (over macro.ExistsOne three (above x (num 2))) is_true
  pub exists_two : WideGives (over macro.ExistsOne three (above x (num 1))) is_false
  pub filtered : WideGives (over macro.Filter three (above x (num 1))) (values (int (pos 2) ∷ int (pos 3) ∷ []))
  pub mapped : WideGives (over macro.Map three (above x (num 1))) (values (boolean false ∷ boolean true ∷ boolean true ∷ []))
  -- 1.all(x, true), object.spec.?args.all(x, true), {'a': 1}.all(x, x == 'a') and [1, 2].all(x, [3].all(x, x == 3))
  pub over_int : WideGives (over macro.All (num 1) yes) failed
  pub over_optional : WideGives (over macro.All (maybe object_spec "args") yes) failed
  pub over_map : WideGives (over macro.All (map_literal ((str "a", num 1) ∷ [])) (same x (str "a"))) is_true
  pub inner_hides : WideGives (over macro.All three (over macro.All (list_literal (num 7 ∷ [])) (same x (num 7)))) is_true
  pub optional_predicate : WideGives (over macro.All three (some yes)) failed
  -- [1, 2, 3].map(x, x > 1, x + 1), 1.map(x, true, x), [1].map(x, 1, x) and [1].map(x, true, 1 / 0)
  pub mapped_where :
      WideGives (filter_map three (codes "x") (above x (num 1)) (binary Add x (num 1))) (values (int (pos 3) ∷ int (pos 4) ∷ []))
  pub filter_map_of_int : WideGives (filter_map (num 1) (codes "x") yes x) failed
  pub int_as_predicate : WideGives (filter_map three (codes "x") (num 1) x) failed
  pub error_as_transform : WideGives (filter_map three (codes "x") yes wrong) failed
  pub no_transform : WideGives (filter_map three (codes "x") no wrong) (values [])
  -- [1, 2, 3] with the names k and v: all, exists, exists_one and transformList
  pub all_pairs : WideGives (pairs_over pair.All three (above v k)) is_true
  pub not_all_pairs : WideGives (pairs_over pair.All three (above k (num 0))) is_false
  pub some_pair : WideGives (pairs_over pair.Exists three (binary And (same k (num 2)) (same v (num 3)))) is_true
  pub no_pair : WideGives (pairs_over pair.Exists three (same k v)) is_false
  pub one_pair : WideGives (pairs_over pair.ExistsOne three (above k (num 1))) is_true
  pub two_pairs : WideGives (pairs_over pair.ExistsOne three (above k (num 0))) is_false
  pub list_of_keys : WideGives (pairs_over pair.TransformList three k) (values (int (pos 0) ∷ int (pos 1) ∷ int (pos 2) ∷ []))
  pub list_of_values : WideGives (pairs_over pair.TransformList three v) (values (int (pos 1) ∷ int (pos 2) ∷ int (pos 3) ∷ []))
  pub list_with_error : WideGives (pairs_over pair.TransformList three wrong) failed
  -- object.metadata.labels.transformList(k, v, k) and (k, v, v); 1, null and optional values as ranges
  pub keys_of_map : WideGives (pairs_over pair.TransformList labels k) (values (text (codes "app") ∷ text (codes "team/a") ∷ []))
  pub values_of_map : WideGives (pairs_over pair.TransformList labels v) (values (text (codes "shop") ∷ text (codes "x") ∷ []))
  pub pairs_of_int : WideGives (pairs_over pair.All (num 1) yes) failed
  pub pairs_of_error : WideGives (pairs_over pair.Exists wrong yes) failed
  pub pairs_of_optional : WideGives (pairs_over pair.All (some three) yes) failed
  pub optional_pair_predicate : WideGives (pairs_over pair.All three (some yes)) failed
  -- [1, 2, 3].transformList(k, v, k > 0, v), .transformList(k, v, v > 1, k), .transformList(k, v, 1, v), 1.transformList(..)
  pub pairs_where : WideGives (pair_filter_map three (codes "k") (codes "v") (above k (num 0)) v) (values (int (pos 2) ∷ int (pos 3) ∷ []))
  pub keys_where : WideGives (pair_filter_map three (codes "k") (codes "v") (above v (num 2)) k) (values (int (pos 2) ∷ []))
  pub pairs_where_int : WideGives (pair_filter_map three (codes "k") (codes "v") (num 1) v) failed
  pub one_predicate_is_error : WideGives (pair_filter_map three (codes "k") (codes "v") (ternary (above k (num 1)) wrong no) v) failed
  pub pairs_where_of_int : WideGives (pair_filter_map (num 1) (codes "k") (codes "v") yes v) failed
  pub error_in_list : WideGives (pair_filter_map three (codes "k") (codes "v") yes wrong) failed
  pub nothing_where : WideGives (pair_filter_map three (codes "k") (codes "v") no wrong) (values [])
