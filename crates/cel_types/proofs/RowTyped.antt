-- The type or the fault of a node, given the types of its parts; it is the type of each row for them.
use Rattle.cel_types.proofs.Prelude.{◌≡◌, ℕ, Bool, true, false, ◌&&◌, List, [], ◌∷◌, Option, Some, refl, ap, ◌∙◌, if◌then◌else◌, Contains, arith, AllByRecursion, Tree, no_trees, more_trees, BinaryOperator, Function, Size, String, Dyn, function_named, test_named, Macro, macro_named, is_map, is_has, is_variables, name_of, field_name, CelType, TypeFault, UnknownName, NoOverload, MisplacedVariables, Typing, typed, refused, allowed, agree, known_of, both_allowed, row, Scope, name_type, variable_type, literal_type, field_row, index_row, unary_row, binary_row, order_row, member_row, ternary_row, function_row, method_row, test_row, macro_row, map_row, map_literal_row, call_type, MayBe, known, dynamic, MayBeOne, MayBothBeOne, MayAgree, HasTextKeys, no_keys, next_key, IsRow, a_name, a_variable, a_field, a_has, an_item, an_entry, a_not, a_negation, a_sum, an_arithmetic, an_equality, an_order, a_member, a_key, a_logic, a_choice, a_map, a_size, a_size_method, a_string, a_dyn, a_test, a_quantifier, a_filter, a_transform, a_filtered_transform, All-contains, All-from_recursion, list_any_at, cause}
use Rattle.std.specs.Option.{option_map_or}
use Rattle.cel_reader.specs.Tree as tree
use Rattle.cel_reader.specs.declared.operator.BinaryOperator.TheVariants as binary
use Rattle.cel_types.specs.declared.cel_type.CelType.TheVariants as type

-- ---- the type or the fault of a node, given the types of its parts

abbrev pub on_none : Typing → TypeFault → List CelType → Typing
on_none r y [] = r
on_none r y _ = refused y

abbrev pub on_one : (CelType → Typing) → List CelType → Typing
on_one f (x ∷ []) = f x
on_one f _ = refused NoOverload

abbrev pub on_two : (CelType → CelType → Typing) → List CelType → Typing
on_two f (x ∷ y ∷ []) = f x y
on_two f _ = refused NoOverload

abbrev pub on_three : (CelType → CelType → CelType → Typing) → List CelType → Typing
on_three f (x ∷ y ∷ z ∷ []) = f x y z
on_three f _ = refused NoOverload

abbrev pub select_node : Bool → List ℕ → Scope → List CelType → Typing
select_node true f s ts = on_none (variable_type f s.variables) MisplacedVariables ts
select_node false f s ts = on_one field_row ts

abbrev pub fold_node : Option Macro → Option (List ℕ) → List CelType → Typing
fold_node (Some m) (Some i) ts = on_two (macro_row m) ts
fold_node _ _ ts = refused NoOverload

abbrev pub fold_map_node : Bool → Option (List ℕ) → List CelType → Typing
fold_map_node true (Some i) ts = on_three map_row ts
fold_map_node _ _ ts = refused NoOverload

abbrev pub text_keys : List CelType → Bool
text_keys [] = true
text_keys (k ∷ []) = false
text_keys (k ∷ v ∷ more) = allowed (type.String ∷ []) k && text_keys more

abbrev pub node : Scope → Tree → List CelType → Typing
node s (tree.literal l) ts = on_none (typed (literal_type l)) NoOverload ts
node s (tree.name n) ts = on_none (name_type n s.items) (cause (tree.name n)) ts
node s (tree.select a f) ts = select_node (is_variables a) f s ts
node s (tree.index a k) ts = on_two index_row ts
node s (tree.unary o a) ts = on_one (unary_row o) ts
node s (tree.binary o a b) ts = on_two (binary_row o) ts
node s (tree.ternary c a b) ts = on_three ternary_row ts
node s (tree.list items) ts = typed type.List
node s (tree.map es) ts = map_literal_row (text_keys ts)
node s (tree.call n (more_trees a no_trees)) ts = on_one (λ x. call_type (is_has n) (field_name a) (function_named n) (typed x) (typed x)) ts
node s (tree.method a n no_trees) ts = on_one (method_row (function_named n)) ts
node s (tree.method a n (more_trees b no_trees)) ts = on_two (test_row (test_named n)) ts
node s (tree.method a n (more_trees x (more_trees p no_trees))) ts = fold_node (macro_named n) (name_of x) ts
node s (tree.method a n (more_trees x (more_trees p (more_trees t no_trees)))) ts = fold_map_node (is_map n) (name_of x) ts
node s _ ts = refused NoOverload

-- ---- the condition of a row, as a test

allowed_of : (ks : List CelType) {x : CelType} → MayBeOne ks x → allowed ks x ≡ true
allowed_of ks m = grind (arith, list_any_at)

may : {k x : CelType} → MayBe k x → allowed (k ∷ []) x ≡ true
may {k} m = allowed_of (k ∷ []) (k, (0, omega arith, refl), m)

agree_of : {x y : CelType} → MayAgree x y → agree x y ≡ true
agree_of m = grind arith

both_of : (ks : List CelType) {x y : CelType} → MayBothBeOne ks x y → (both_allowed ks x y && agree x y) ≡ true
both_of ks m = grind (arith, allowed_of, agree_of)

both : {k x y : CelType} → MayBe k x → MayBe k y → both_allowed (k ∷ []) x y ≡ true
both l m = λ j. may l j && may m j

one_typed : {b : Bool} (t : CelType) → b ≡ true → row b t ≡ typed t
one_typed t h = ap (λ b. row b t) h

two_typed : {a b : Bool} (t : CelType) → a ≡ true → b ≡ true → row (a && b) t ≡ typed t
two_typed t h k = λ j. row (h j && k j) t

keys_of : {ts : List CelType} → HasTextKeys ts → text_keys ts ≡ true
keys_of no_keys = refl
keys_of (next_key m more) = λ j. may m j && keys_of more j

-- `has` is not a function
no_has : (n : List ℕ) (f : Function) (b : Bool) → is_has n ≡ b → function_named n ≡ Some f → b ≡ false
unfolding is_has function_named
no_has n f b e h = grind arith

item_typed : {x y : CelType} → MayBe type.List x → MayBe type.Int y → index_row x y ≡ typed type.Dyn
item_typed m n = grind (arith, may)

entry_typed : {x y : CelType} → MayBe type.Map x → MayBe type.String y → index_row x y ≡ typed type.Dyn
entry_typed m n = grind (arith, may)

member_typed : {y : CelType} (x : CelType) → MayBe type.List y → member_row x y ≡ typed type.Bool
member_typed x known = refl
member_typed x dynamic = refl

key_typed : {x y : CelType} → MayBe type.String x → MayBe type.Map y → member_row x y ≡ typed type.Bool
key_typed m known = one_typed type.Bool (may m)
key_typed m dynamic = refl

called : (n : List ℕ) (f : Function) (a : Tree) (x : CelType) → function_named n ≡ Some f
    → call_type (is_has n) (field_name a) (function_named n) (typed x) (typed x) ≡ function_row (Some f) x
called n f a x h = λ j. call_type (no_has n f (is_has n) refl h j) (field_name a) (h j) (typed x) (typed x)

-- an operator of a group has the group's row
grouped : (os : List BinaryOperator) (x y : CelType) (r : Typing) → AllByRecursion (λ o. binary_row o x y ≡ r) os → {o : BinaryOperator} → Contains os o
    → binary_row o x y ≡ r
grouped os x y r h {o} c = All-contains (λ p. binary_row p x y ≡ r) os o (All-from_recursion (λ p. binary_row p x y ≡ r) os h) c

-- the type of a row is that of its node
pub row_typed : (s : Scope) {e : Tree} {ts : List CelType} {t : CelType} → IsRow s e ts t → node s e ts ≡ typed t
unfolding is_variables name_type variable_type
row_typed s (a_name {n} v k) = λ j. if v j then refused MisplacedVariables else (if k j then typed type.Dyn else refused UnknownName)
row_typed s (a_variable {a} {v = f} {t} v h) = (λ j. select_node (v j) f s []) ∙ ap (λ o. option_map_or typed o (refused MisplacedVariables)) h
row_typed s (a_field {a} {f} {x} v m) = (λ j. select_node (v j) f s (x ∷ [])) ∙ one_typed type.Dyn (may m)
row_typed s (a_has {n} {a} {f} {x} h m) = (λ j. call_type (h j) (Some f) (function_named n) (typed x) (typed x)) ∙ one_typed type.Bool (may m)
row_typed s (an_item l m) = item_typed l m
row_typed s (an_entry l m) = entry_typed l m
row_typed s (a_not m) = one_typed type.Bool (may m)
row_typed s (a_negation m) = one_typed type.Int (may m)
row_typed s (a_sum {a} {b} {x} {y} m) = one_typed (known_of x y) (both_of (type.Int ∷ type.String ∷ type.List ∷ []) m)
row_typed s (an_arithmetic {o} {a} {b} {x} {y} c l m) = grind (arith, grouped, one_typed, both)
row_typed s (an_equality {o} {a} {b} {x} {y} c m) = grind (arith, grouped, one_typed, agree_of)
row_typed s (an_order {o} {a} {b} {x} {y} c m) =
    grouped (binary.Less ∷ binary.LessEqual ∷ binary.GreaterEqual ∷ binary.Greater ∷ []) x y (order_row x y) (refl, (refl, (refl, (refl, tt)))) c
    ∙ one_typed type.Bool (both_of (type.Int ∷ type.String ∷ type.Bool ∷ []) m)
row_typed s (a_member {a} {b} {x} m) = member_typed x m
row_typed s (a_key l m) = key_typed l m
row_typed s (a_logic {o} {a} {b} {x} {y} c l m) = grind (arith, grouped, one_typed, both)
row_typed s (a_choice c m) = two_typed _ (may c) (agree_of m)
row_typed s (a_map h) = one_typed type.Map (keys_of h)
row_typed s (a_size {n} {a} {x} h m) = called n Size a x h ∙ one_typed type.Int (allowed_of (type.String ∷ type.List ∷ type.Map ∷ []) m)
row_typed s (a_size_method {n} {a} {x} h m) = (λ j. method_row (h j) x) ∙ one_typed type.Int (allowed_of (type.String ∷ type.List ∷ type.Map ∷ []) m)
row_typed s (a_string {n} {a} {x} h m) = called n String a x h ∙ one_typed type.String (allowed_of (type.Int ∷ type.String ∷ []) m)
row_typed s (a_dyn {n} {a} {x} h) = called n Dyn a x h
row_typed s (a_test {n} {f} {a} {b} {x} {y} h l m) = (λ j. test_row (h j) x y) ∙ one_typed type.Bool (both l m)
row_typed s (a_quantifier {n} {i} {m} {a} {p} {r} {x} h c o q) = grind (arith, two_typed, allowed_of, may)
row_typed s (a_filter {n} {i} {a} {p} {r} {x} h o q) = grind (arith, two_typed, allowed_of, may)
row_typed s (a_transform {n} {i} {a} {t} {r} {x} h o) =
    (λ j. fold_node (h j) (Some i) (r ∷ x ∷ [])) ∙ two_typed type.List (allowed_of (type.List ∷ type.Map ∷ []) o) refl
row_typed s (a_filtered_transform {n} {i} {a} {p} {t} {r} {x} {y} h o q) = grind (arith, two_typed, allowed_of, may)
row_typed s _ = refl
