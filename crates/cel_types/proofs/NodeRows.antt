-- A node whose parts have types has a row of the table for them; otherwise its fault is its cause.
use Rattle.cel_types.proofs.Prelude.{◌≡◌, ◌⊎◌, ℕ, Bool, true, false, ◌&&◌, List, [], ◌∷◌, Option, Some, refl, Contains, suc, arith, list_any, Tree, no_trees, more_trees, BinaryOperator, Function, TextTest, function_named, test_named, Macro, All, Exists, ExistsOne, Filter, Map, macro_named, is_map, is_has, is_variables, name_of, field_name, CelType, NoOverload, Typing, typed, refused, same_type, allowed, agree, both_allowed, row, Scope, name_type, variable_type, literal_type, index_row, binary_row, ternary_row, function_row, method_row, test_row, is_range, macro_row, call_type, MayBe, known, dynamic, MayBeOne, MayBothBeOne, MayAgree, HasTextKeys, no_keys, next_key, IsRow, a_literal, a_name, a_variable, a_field, a_has, an_item, an_entry, a_not, a_negation, a_sum, an_arithmetic, an_equality, an_order, a_member, a_key, a_logic, a_choice, a_list, a_map, a_size, a_size_method, a_string, a_dyn, a_test, a_quantifier, a_filter, a_transform, a_filtered_transform, cause}
use Rattle.cel_reader.specs.Tree as tree
use Rattle.cel_reader.specs.declared.operator.BinaryOperator.TheVariants as binary
use Rattle.cel_reader.specs.declared.operator.UnaryOperator.TheVariants as unary
use Rattle.cel_types.specs.declared.cel_type.CelType.TheVariants as type
use Rattle.cel_types.proofs.TypedRows.{same_is}
use Rattle.cel_types.proofs.RowTyped.{on_none, select_node, fold_node, fold_map_node, text_keys, node}

-- ---- what a test shows about a row's types

here : {A : Type 0} (x : A) (xs : List A) → Contains (x ∷ xs) x
here x xs = (0, omega arith, refl)

there : {A : Type 0} (x y : A) (xs : List A) → Contains xs y → Contains (x ∷ xs) y
there x y xs h = (suc h.0, omega arith, h.2)

left : (a b : Bool) → (a && b) ≡ true → a ≡ true
left a b h = grind arith

right : (a b : Bool) → (a && b) ≡ true → b ≡ true
right a b h = grind arith

any_in : (ks : List CelType) (x : CelType) → list_any (same_type x) ks ≡ true → Contains ks x
any_in [] x h = grind arith
any_in (k ∷ ks) x h = grind (arith, here k ks, there k x ks, same_is x k, any_in ks x)

one : (k : CelType) (ks : List CelType) (x : CelType) → allowed (k ∷ ks) x ≡ true → MayBeOne (k ∷ ks) x
one k ks type.Dyn h = (k, here k ks, dynamic)
one k ks x h = (x, any_in (k ∷ ks) x h, known)

may : (k x : CelType) → allowed (k ∷ []) x ≡ true → MayBe k x
may k x h = grind (arith, known, dynamic, same_is x k, same_is x type.Dyn)

dyn_may : (k x : CelType) → x ≡ type.Dyn → MayBe k x
dyn_may k x e = grind (arith, dynamic)

agreeing : (x y : CelType) → agree x y ≡ true → (x ≡ y) ⊎ ((x ≡ type.Dyn) ⊎ (y ≡ type.Dyn))
agreeing x y h = grind arith

any : (x y : CelType) → agree x y ≡ true → MayAgree x y
any type.Dyn y h = (y, dynamic, known)
any x type.Dyn h = (x, known, dynamic)
any x y h = (x, known, grind (arith, known, same_is x y))

two : (k : CelType) (ks : List CelType) (x y : CelType) → (both_allowed (k ∷ ks) x y && agree x y) ≡ true → MayBothBeOne (k ∷ ks) x y
two k ks x y h = grind (arith, left, one, right, agreeing, dyn_may)

both : (k x y : CelType) → both_allowed (k ∷ []) x y ≡ true → MayBe k x × MayBe k y
both k x y h = grind (arith, may, left, right)

keys : (ts : List CelType) → text_keys ts ≡ true → HasTextKeys ts
keys [] h = no_keys
keys (k ∷ []) h = absurd (cc)
keys (k ∷ v ∷ more) h = grind (arith, next_key, may, left, right, keys more)

-- ---- each node

abbrev call_of : List ℕ → Tree → Tree
call_of n a = tree.call n (more_trees a no_trees)

abbrev method_of : Tree → List ℕ → Tree
method_of a n = tree.method a n no_trees

abbrev method_with : Tree → List ℕ → Tree → Tree
method_with a n b = tree.method a n (more_trees b no_trees)

abbrev folded : Tree → List ℕ → Tree → Tree → Tree
folded a n x p = tree.method a n (more_trees x (more_trees p no_trees))

abbrev folded_map : Tree → List ℕ → Tree → Tree → Tree → Tree
folded_map a n x p t = tree.method a n (more_trees x (more_trees p (more_trees t no_trees)))

abbrev pub Answered : Scope → Tree → List CelType → Typing → Type 0
Answered s e ts (typed t) = IsRow s e ts t
Answered s e ts (refused y) = y ≡ cause e

literal_rows : (s : Scope) (l : tree.Literal) (ts : List CelType) → Answered s (tree.literal l) ts (on_none (typed (literal_type l)) NoOverload ts)
literal_rows s l ts = grind (arith, a_literal)

name_rows : (s : Scope) (n : List ℕ) (ts : List CelType) → Answered s (tree.name n) ts (on_none (name_type n s.items) (cause (tree.name n)) ts)
unfolding name_type is_variables
name_rows s n ts = grind (arith, a_name)

selection_rows : (s : Scope) (a : Tree) (f : List ℕ) (ts : List CelType) (v : Bool) → is_variables a ≡ v
    → Answered s (tree.select a f) ts (select_node v f s ts)
unfolding variable_type
selection_rows s a f ts v ev = grind (arith, a_variable, a_field, may)

index_rows : (s : Scope) (a k : Tree) (x y : CelType) → Answered s (tree.index a k) (x ∷ y ∷ []) (index_row x y)
index_rows s a k x y = grind (arith, an_item, an_entry, may, one, dynamic, known)

module _ (s : Scope) (a b : Tree) (x y : CelType) where
  logic : (o : BinaryOperator) → Contains (binary.And ∷ binary.Or ∷ []) o
      → Answered s (tree.binary o a b) (x ∷ y ∷ []) (row (both_allowed (type.Bool ∷ []) x y) type.Bool)
  logic o i = grind (arith, a_logic, both type.Bool x y)

  order : (o : BinaryOperator) → Contains (binary.Less ∷ binary.LessEqual ∷ binary.GreaterEqual ∷ binary.Greater ∷ []) o
      → Answered s (tree.binary o a b) (x ∷ y ∷ []) (row (both_allowed (type.Int ∷ type.String ∷ type.Bool ∷ []) x y && agree x y) type.Bool)
  order o i = grind (arith, an_order, two type.Int (type.String ∷ type.Bool ∷ []) x y)

  equality : (o : BinaryOperator) → Contains (binary.Equal ∷ binary.NotEqual ∷ []) o → Answered s (tree.binary o a b) (x ∷ y ∷ []) (row (agree x y) type.Bool)
  equality o i = grind (arith, an_equality, any)

  arithmetic : (o : BinaryOperator) → Contains (binary.Subtract ∷ binary.Multiply ∷ binary.Divide ∷ binary.Remainder ∷ []) o
      → Answered s (tree.binary o a b) (x ∷ y ∷ []) (row (both_allowed (type.Int ∷ []) x y) type.Int)
  arithmetic o i = grind (arith, an_arithmetic, both type.Int x y)

  binary_rows : (o : BinaryOperator) → Answered s (tree.binary o a b) (x ∷ y ∷ []) (binary_row o x y)
  binary_rows binary.Or = logic binary.Or (1, omega arith, refl)
  binary_rows binary.And = logic binary.And (0, omega arith, refl)
  binary_rows binary.Less = order binary.Less (0, omega arith, refl)
  binary_rows binary.LessEqual = order binary.LessEqual (1, omega arith, refl)
  binary_rows binary.GreaterEqual = order binary.GreaterEqual (2, omega arith, refl)
  binary_rows binary.Greater = order binary.Greater (3, omega arith, refl)
  binary_rows binary.Equal = equality binary.Equal (0, omega arith, refl)
  binary_rows binary.NotEqual = equality binary.NotEqual (1, omega arith, refl)
  binary_rows binary.In = grind (arith, a_member, a_key, may, known, dynamic)
  binary_rows binary.Add = grind (arith, a_sum, two type.Int (type.String ∷ type.List ∷ []) x y)
  binary_rows binary.Subtract = arithmetic binary.Subtract (0, omega arith, refl)
  binary_rows binary.Multiply = arithmetic binary.Multiply (1, omega arith, refl)
  binary_rows binary.Divide = arithmetic binary.Divide (2, omega arith, refl)
  binary_rows binary.Remainder = arithmetic binary.Remainder (3, omega arith, refl)

choice_rows : (s : Scope) (c a b : Tree) (x y z : CelType) → Answered s (tree.ternary c a b) (x ∷ y ∷ z ∷ []) (ternary_row x y z)
choice_rows s c a b x y z = grind (arith, a_choice, may, any, left, right)

function_rows : (s : Scope) (n : List ℕ) (a : Tree) (x : CelType) (g : Option Function) → function_named n ≡ g
    → Answered s (call_of n a) (x ∷ []) (function_row g x)
function_rows s n a x g e = grind (arith, a_size, a_string, a_dyn, one type.String (type.List ∷ type.Map ∷ []) x, one type.Int (type.String ∷ []) x)

call_rows : (s : Scope) (n : List ℕ) (a : Tree) (x : CelType) (b : Bool) → is_has n ≡ b
    → Answered s (call_of n a) (x ∷ []) (call_type b (field_name a) (function_named n) (typed x) (typed x))
call_rows s n a x b e = grind (arith, a_has, may, function_rows s n a x (function_named n) refl)

method_rows : (s : Scope) (n : List ℕ) (a : Tree) (x : CelType) (g : Option Function) → function_named n ≡ g
    → Answered s (method_of a n) (x ∷ []) (method_row g x)
method_rows s n a x g e = grind (arith, a_size_method, one type.String (type.List ∷ type.Map ∷ []) x)

test_rows : (s : Scope) (n : List ℕ) (a b : Tree) (x y : CelType) (f : Option TextTest) → test_named n ≡ f
    → Answered s (method_with a n b) (x ∷ y ∷ []) (test_row f x y)
test_rows s n a b x y f e = grind (arith, a_test, both)

module _ (s : Scope) (n i : List ℕ) (a p : Tree) (r x : CelType) where
  quantified : (m : Macro) → macro_named n ≡ Some m → Contains (All ∷ Exists ∷ ExistsOne ∷ []) m
      → Answered s (folded a n (tree.name i) p) (r ∷ x ∷ []) (row (is_range r && allowed (type.Bool ∷ []) x) type.Bool)
  quantified m e c = grind (arith, a_quantifier, one type.List (type.Map ∷ []) r, may, left, right)

  macro_rows : (m : Macro) → macro_named n ≡ Some m → Answered s (folded a n (tree.name i) p) (r ∷ x ∷ []) (macro_row m r x)
  macro_rows All e = quantified All e (0, omega arith, refl)
  macro_rows Exists e = quantified Exists e (1, omega arith, refl)
  macro_rows ExistsOne e = quantified ExistsOne e (2, omega arith, refl)
  macro_rows Filter e = grind (arith, a_filter, one type.List (type.Map ∷ []) r, may, left, right)
  macro_rows Map e = grind (arith, a_transform, one type.List (type.Map ∷ []) r, left)

fold_rows : (s : Scope) (n : List ℕ) (a x p : Tree) (ts : List CelType) (m : Option Macro) → macro_named n ≡ m
    → Answered s (folded a n x p) ts (fold_node m (name_of x) ts)
fold_rows s n a (tree.name i) p (r ∷ (x ∷ [])) (Some m) e = macro_rows s n i a p r x m e
fold_rows s n a _ p _ (Some m) e = refl
fold_rows s n a x p ts _ e = refl

fold_map_rows : (s : Scope) (n : List ℕ) (a x p t : Tree) (ts : List CelType) (b : Bool) → is_map n ≡ b
    → Answered s (folded_map a n x p t) ts (fold_map_node b (name_of x) ts)
fold_map_rows s n a (tree.name i) p t (r ∷ (x ∷ (y ∷ []))) true e = grind (arith, a_filtered_transform, one type.List (type.Map ∷ []) r, may, left, right)
fold_map_rows s n a _ p t _ true e = refl
fold_map_rows s n a x p t ts false e = refl

pub node_rows : (s : Scope) (e : Tree) (ts : List CelType) → Answered s e ts (node s e ts)
node_rows s (tree.literal l) ts = literal_rows s l ts
node_rows s (tree.name n) ts = name_rows s n ts
node_rows s (tree.select a f) ts = selection_rows s a f ts (is_variables a) refl
node_rows s (tree.index a k) ts = grind (arith, index_rows s a k)
node_rows s (tree.unary unary.Not a) ts = grind (arith, a_not, may)
node_rows s (tree.unary unary.Negate a) ts = grind (arith, a_negation, may)
node_rows s (tree.binary o a b) ts = grind (arith, binary_rows s a b)
node_rows s (tree.ternary c a b) ts = grind (arith, choice_rows s c a b)
node_rows s (tree.list items) ts = a_list
node_rows s (tree.map es) ts = grind (arith, a_map, keys ts)
node_rows s (tree.call n (more_trees a no_trees)) (x ∷ []) = call_rows s n a x (is_has n) refl
node_rows s (tree.method a n no_trees) (x ∷ []) = method_rows s n a x (function_named n) refl
node_rows s (tree.method a n (more_trees b no_trees)) (x ∷ (y ∷ [])) = test_rows s n a b x y (test_named n) refl
node_rows s (tree.method a n (more_trees x (more_trees p no_trees))) ts = fold_rows s n a x p ts (macro_named n) refl
node_rows s (tree.method a n (more_trees x (more_trees p (more_trees t no_trees)))) ts = fold_map_rows s n a x p t ts (is_map n) refl
node_rows s _ _ = refl
