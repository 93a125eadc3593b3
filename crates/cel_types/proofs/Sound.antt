-- The value of an accepted expression has its type, or is the error.
use Rattle.cel_types.proofs.Prelude.{arith, Bool, List, [], ◌∷◌, list_all, no_trees, more_trees, ValueOrError, error, Environment, bind, name_value, values_in, entries_in, list_literal, map_literal, function_named, test_named, macro_named, is_map, is_has, is_variables, name_of, field_name, range_of, selected, meaning, meanings, entry_meanings, operand_meaning, Typing, typed, refused, NoOverload, row, Scope, name_type, within, selected_type, typing, typings, entry_typings, key_typings, operand_typing, is_text_key, FitsType, FitsScope, IsSound, ℕ}
use Rattle.cel_reader.specs.Tree as tree
use Rattle.cel_types.specs.declared.cel_type.CelType.TheVariants as type
use Rattle.cel_types.proofs.TypedRows.{row_fits, with_types_fit, list_fits, map_fits, literal_fits, unary_fits, binary_fits, ternary_fits, index_fits, method_fits, text_test_fits, call_fits, fold_fits, fold_map_fits}

name_fits : (n : List ℕ) (items : List (List ℕ)) (x : ValueOrError) → FitsType (name_type n items) x
unfolding name_type
name_fits n items x = grind arith

select_fits : (b : Bool) (f : List ℕ) (a : Typing) (s : Scope) (x : ValueOrError) (env : Environment) → FitsScope s env → FitsType (selected_type b f a s) (selected b f x env)
select_fits b f a s x env h = grind arith

pub is_sound : IsSound
unfolding typing meaning
is_sound (tree.literal l) s env h = literal_fits l
is_sound (tree.name n) s env h = name_fits n s.items (name_value n env)
is_sound (tree.select a f) s env h = select_fits (is_variables a) f (typing a s) s (meaning a env) env h
is_sound (tree.index a k) s env h = index_fits (typing a s) (typing k s) (meaning (tree.index a k) env)
is_sound (tree.unary op a) s env h = unary_fits op (typing a s) (meaning a env)
is_sound (tree.binary op a b) s env h = binary_fits op (typing a s) (typing b s) (meaning a env) (meaning b env) (is_sound a s env h) (is_sound b s env h)
is_sound (tree.ternary c a b) s env h = ternary_fits (typing c s) (typing a s) (typing b s) (meaning c env) (meaning a env) (meaning b env) (is_sound a s env h) (is_sound b s env h)
is_sound (tree.list items) s env h = with_types_fit (typings items s) (typed type.List) (list_literal (meanings items env)) (list_fits (values_in (meanings items env)))
is_sound (tree.map es) s env h =
    with_types_fit (entry_typings es s) (row (list_all is_text_key (key_typings es s)) type.Map) (map_literal (entry_meanings es env)) (row_fits (list_all is_text_key (key_typings es s)) type.Map (map_literal (entry_meanings es env)) (map_fits (entries_in (entry_meanings es env))))
is_sound (tree.call n no_trees) s env h = tt
is_sound (tree.call n (more_trees a no_trees)) s env h = call_fits (is_has n) (field_name a) (function_named n) (operand_typing a s) (typing a s) (operand_meaning a env) (meaning a env)
is_sound (tree.call n (more_trees a (more_trees b more))) s env h = with_types_fit (typing a s ∷ typing b s ∷ typings more s) (refused NoOverload) error tt
is_sound (tree.method a n no_trees) s env h = method_fits (function_named n) (typing a s) (meaning a env)
is_sound (tree.method a n (more_trees b no_trees)) s env h = text_test_fits (test_named n) (typing a s) (typing b s) (meaning a env) (meaning b env)
is_sound (tree.method a n (more_trees x (more_trees p no_trees))) s env h =
    fold_fits (macro_named n) (name_of x) (typing a s) (λ i. typing p (within i s)) (typing a s ∷ typing x s ∷ typing p s ∷ []) (λ i v. meaning p (bind i v env)) (range_of (meaning a env))
is_sound (tree.method a n (more_trees x (more_trees p (more_trees t no_trees)))) s env h =
    fold_map_fits (is_map n) (name_of x) (typing a s) (λ i. typing p (within i s)) (λ i. typing t (within i s)) (typing a s ∷ typing x s ∷ typing p s ∷ typing t s ∷ []) (λ i v. meaning p (bind i v env)) (λ i v. meaning t (bind i v env)) (range_of (meaning a env))
is_sound (tree.method a n (more_trees x (more_trees p (more_trees t (more_trees u more))))) s env h =
    with_types_fit (typing a s ∷ typing x s ∷ typing p s ∷ typing t s ∷ typing u s ∷ typings more s) (refused NoOverload) error tt
