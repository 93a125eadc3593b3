-- Functions and methods of lists.
use Rattle.std.proofs.Common.{◌≡◌, ℕ, Bool, true, false, ◌&&◌, ◌||◌, List, [], ◌∷◌, pos, map as mapped, refl, ap, ◌∙◌}
use Rattle.cel_reader.specs.Tree as tree
use Rattle.cel_reader.specs.Tree.{Tree}
use Rattle.cel_reader.specs.declared.operator.BinaryOperator.{BinaryOperator}
use Rattle.cel_reader.specs.declared.operator.BinaryOperator.TheVariants as operator
use Rattle.value_store.specs.Lookup.{has_item}
use Rattle.value_store.specs.Value.{Value, ValueOrError, error, value, null, boolean, int, text, list, map, Items}
use Rattle.value_store.specs.Value.{no_items, item, items_join, list_of}
use Rattle.cel_macros.specs.Arithmetic.{sum_of, difference_of}
use Rattle.cel_macros.specs.Comparison.{equal_of, member_of}
use Rattle.cel_macros.specs.Environment.{Environment, bind}
use Rattle.cel_macros.specs.Functions.{size_of}
unfoldable use Rattle.cel_macros.specs.Functions.{function_named}
use Rattle.cel_macros.specs.Literals.{list_literal}
use Rattle.cel_macros.specs.Logic.{Truth, truth, and_of, ternary_of}
use Rattle.cel_macros.specs.Macros.{range_of, all_of, exists_of, macro_of}
unfoldable use Rattle.cel_macros.specs.Macros.{is_has, is_variables}
use Rattle.cel_macros.specs.Meaning.{binary_of}
unfoldable use Rattle.cel_macros.specs.Meaning.{meaning, meanings}
use Rattle.cel_macros.specs.Selection.{index_of}
use Rattle.cel_macros.specs.declared.macros.Macro.TheVariants as plain_macro
use Rattle.wide_meaning.specs.Functions.{first_item, last_item, item_of, extreme_of, contained, meeting, on_lists}
use Rattle.wide_meaning.specs.Functions.{sets_in}
use Rattle.wide_meaning.specs.Outcome.{Outcome, outcome_of, plain_part, some_of}
use Rattle.wide_meaning.specs.Ranges.{over_items}
use Rattle.wide_kinds.specs.declared.kind.ValueKind.{ValueKind}
use Rattle.wide_kinds.specs.declared.kind.ValueKind.TheVariants as kind
use Rattle.wide_kinds.specs.Fitting.{FitsKind, IsOptionalOf}
use Rattle.wide_translation.specs.Carried.{plain, guarded, listed, Translation, taken, refused}
use Rattle.wide_translation.specs.Forms.{empty_tree, one_tree, macro_tree, first_tree, held, is_empty_tree}
use Rattle.wide_translation.specs.Holds.{list_part, IsPlain, IsListed, WideHolds}
use Rattle.wide_translation.specs.Lists.{each, second, list_let, first_list_tree, end_tree, last_list_tree}
use Rattle.wide_translation.specs.Lists.{extreme_tree, contained_tree, meeting_tree, equivalent_tree, sets_tree}
use Rattle.wide_translation.specs.Lists.{sets_translation}
use Rattle.wide_translation.specs.Names.{held_name, index_name, second_name}
use Rattle.wide_translation.specs.Translated.{with_plain}
use Rattle.wide_translation.proofs.Environments.{this_name, other_name}
use Rattle.wide_translation.proofs.FieldsHold.{plain_holds}
use Rattle.wide_translation.proofs.Steps.{on_value, macro_means, let_means, held_is}

-- ---- lists

-- what follows from a list; the error for all else
abbrev pub on_items : (Items → ValueOrError) → ValueOrError → ValueOrError
on_items f (value (list is)) = f is
on_items f _ = error

join_nothing : (is : Items) → items_join is no_items ≡ is
join_nothing no_items = refl
join_nothing (item v more) = ap (item v) (join_nothing more)

list_only : (f : Value → ValueOrError) (x : ValueOrError) → on_value f (sum_of x (value (list no_items))) ≡ on_items (λ is. f (list is)) x
list_only f error = refl
list_only f (value null) = refl
list_only f (value (boolean b)) = refl
list_only f (value (int z)) = refl
list_only f (value (text s)) = refl
list_only f (value (list is)) = ap (λ js. f (list js)) (join_nothing is)
list_only f (value (map es)) = refl

pub list_let_means : (n : List ℕ) (a b : Tree) (env : Environment) → meaning (list_let n a b) env ≡ on_items (λ is. meaning b (bind n (list is) env)) (meaning a env)
unfolding meaning meanings
list_let_means n a b env = let_means n (tree.binary operator.Add a empty_tree) b env ∙ list_only (λ v. meaning b (bind n v env)) (meaning a env)

-- ---- the first and the last item

one_list : (y : ValueOrError) → list_literal (y ∷ []) ≡ list_part (some_of (outcome_of y))
one_list error = refl
one_list (value v) = refl

first_of_items : (x : ValueOrError)
    → on_items (λ is. ternary_of (equal_of (value (list is)) (value (list no_items))) (value (list no_items)) (list_literal (index_of (value (list is)) (value (int (pos 0))) ∷ []))) x
    ≡ list_part (item_of first_item x)
first_of_items error = refl
first_of_items (value null) = refl
first_of_items (value (boolean b)) = refl
first_of_items (value (int z)) = refl
first_of_items (value (text s)) = refl
first_of_items (value (list no_items)) = refl
first_of_items (value (list (item v more))) = refl
first_of_items (value (map es)) = refl

last_of_items : (x : ValueOrError)
    → on_items (λ is. ternary_of (equal_of (value (list is)) (value (list no_items))) (value (list no_items))
    (list_literal (index_of (value (list is)) (difference_of (size_of (value (list is))) (value (int (pos 1)))) ∷ []))) x
    ≡ list_part (item_of last_item x)
last_of_items error = refl
last_of_items (value null) = refl
last_of_items (value (boolean b)) = refl
last_of_items (value (int z)) = refl
last_of_items (value (text s)) = refl
last_of_items (value (list no_items)) = refl
last_of_items (value (list (item v more))) =
    one_list (index_of (value (list (item v more))) (difference_of (size_of (value (list (item v more)))) (value (int (pos 1)))))
last_of_items (value (map es)) = refl

some_kind : (y : ValueOrError) → IsOptionalOf kind.Dyn (some_of (outcome_of y))
some_kind error = tt
some_kind (value v) = refl

first_kind : (x : ValueOrError) → IsOptionalOf kind.Dyn (item_of first_item x)
first_kind error = tt
first_kind (value null) = tt
first_kind (value (boolean b)) = tt
first_kind (value (int z)) = tt
first_kind (value (text s)) = tt
first_kind (value (list no_items)) = tt
first_kind (value (list (item v more))) = refl
first_kind (value (map es)) = tt

last_kind : (x : ValueOrError) → IsOptionalOf kind.Dyn (item_of last_item x)
last_kind error = tt
last_kind (value null) = tt
last_kind (value (boolean b)) = tt
last_kind (value (int z)) = tt
last_kind (value (text s)) = tt
last_kind (value (list no_items)) = tt
last_kind (value (list (item v more))) = some_kind (index_of (value (list (item v more))) (difference_of (size_of (value (list (item v more)))) (value (int (pos 1)))))
last_kind (value (map es)) = tt

end_means : (is : Items) (env : Environment) → meaning (end_tree held) (bind held_name (list is) env)
    ≡ index_of (value (list is)) (difference_of (size_of (value (list is))) (value (int (pos 1))))
unfolding meaning is_has function_named
end_means is env = λ j. index_of (held_is (list is) env j) (difference_of (size_of (held_is (list is) env j)) (value (int (pos 1))))

pub first_holds : (k : ValueKind) (a : Tree) (x : Outcome) (env : Environment) → IsPlain k a x env → IsListed kind.Dyn (first_list_tree a) (item_of first_item (plain_part x)) env
unfolding meaning meanings
first_holds k a x env h = record {
  list = list_let_means held_name a (tree.ternary (is_empty_tree held) empty_tree (one_tree (first_tree held))) env
      ∙ (λ j. on_items (λ is. ternary_of (equal_of (held_is (list is) env j) (value (list no_items))) (value (list no_items))
      (list_literal (index_of (held_is (list is) env j) (value (int (pos 0))) ∷ []))) (h.means j))
      ∙ first_of_items (plain_part x);
  kind = first_kind (plain_part x);
}

pub last_holds : (k : ValueKind) (a : Tree) (x : Outcome) (env : Environment) → IsPlain k a x env → IsListed kind.Dyn (last_list_tree a) (item_of last_item (plain_part x)) env
unfolding meaning meanings
last_holds k a x env h = record {
  list = list_let_means held_name a (tree.ternary (is_empty_tree held) empty_tree (one_tree (end_tree held))) env
      ∙ (λ j. on_items (λ is. ternary_of (equal_of (held_is (list is) env j) (value (list no_items))) (value (list no_items))
      (list_literal (end_means is env j ∷ []))) (h.means j))
      ∙ last_of_items (plain_part x);
  kind = last_kind (plain_part x);
}

-- ---- the least and the greatest item

-- the environment of the parts below: the lists, and an item of each
held_below : (is : Items) (v : Value) (env : Environment) → meaning held (bind index_name v (bind held_name (list is) env)) ≡ value (list is)
unfolding meaning
held_below is v env = other_name index_name held_name v (bind held_name (list is) env) refl ∙ held_is (list is) env

compared : (op : BinaryOperator) (is : Items) (v w : Value) (env : Environment)
    → meaning (tree.binary op each second) (bind second_name w (bind index_name v (bind held_name (list is) env))) ≡ binary_of op (value v) (value w)
unfolding meaning
compared op is v w env = λ j.
    binary_of op ((other_name second_name index_name w (bind index_name v (bind held_name (list is) env)) refl ∙ this_name index_name v (bind held_name (list is) env)) j)
    (this_name second_name w (bind index_name v (bind held_name (list is) env)) j)

with_each : (op : BinaryOperator) (is : Items) (v : Value) (env : Environment)
    → meaning (macro_tree plain_macro.All second_name held (tree.binary op each second)) (bind index_name v (bind held_name (list is) env))
    ≡ macro_of plain_macro.All (λ w. binary_of op (value v) (value w)) (list_of is)
with_each op is v env =
    macro_means plain_macro.All second_name held (tree.binary op each second) (bind index_name v (bind held_name (list is) env))
    ∙ (λ j. over_items plain_macro.All (λ w. compared op is v w env j) (range_of (held_below is v env j)))

extreme_body : (op : BinaryOperator) (is : Items) (env : Environment)
    → meaning (first_tree (macro_tree plain_macro.Filter index_name held (macro_tree plain_macro.All second_name held (tree.binary op each second)))) (bind held_name (list is) env)
    ≡ index_of (macro_of plain_macro.Filter (λ v. macro_of plain_macro.All (λ w. binary_of op (value v) (value w)) (list_of is)) (list_of is)) (value (int (pos 0)))
unfolding meaning
extreme_body op is env =
    (λ j. index_of (macro_means plain_macro.Filter index_name held (macro_tree plain_macro.All second_name held (tree.binary op each second)) (bind held_name (list is) env) j) (value (int (pos 0))))
    ∙ (λ j. index_of (over_items plain_macro.Filter (λ v. with_each op is v env j) (range_of (held_is (list is) env j))) (value (int (pos 0))))

extreme_of_items : (op : BinaryOperator) (x : ValueOrError)
    → on_items (λ is. index_of (macro_of plain_macro.Filter (λ v. macro_of plain_macro.All (λ w. binary_of op (value v) (value w)) (list_of is)) (list_of is)) (value (int (pos 0)))) x
    ≡ extreme_of (binary_of op) x
extreme_of_items op error = refl
extreme_of_items op (value null) = refl
extreme_of_items op (value (boolean b)) = refl
extreme_of_items op (value (int z)) = refl
extreme_of_items op (value (text s)) = refl
extreme_of_items op (value (list is)) = refl
extreme_of_items op (value (map es)) = refl

any_kind : (x : ValueOrError) → FitsKind kind.Dyn x
any_kind error = tt
any_kind (value v) = refl

pub extreme_holds : (op : BinaryOperator) (k : ValueKind) (a : Tree) (x : Outcome) (env : Environment) → IsPlain k a x env
    → IsPlain kind.Dyn (extreme_tree op a) (outcome_of (extreme_of (binary_of op) (plain_part x))) env
unfolding is_variables
extreme_holds op k a x env h =
    plain_holds kind.Dyn (extreme_tree op a) (extreme_of (binary_of op) (plain_part x)) env
    (list_let_means held_name a (first_tree (macro_tree plain_macro.Filter index_name held (macro_tree plain_macro.All second_name held (tree.binary op each second)))) env
    ∙ (λ j. on_items (λ is. extreme_body op is env j) (h.means j))
    ∙ extreme_of_items op (plain_part x))
    (any_kind (extreme_of (binary_of op) (plain_part x))) refl

-- ---- sets

all_step : (b c : Bool) (ts : List Truth) → all_of ts ≡ value (boolean c) → all_of (truth (value (boolean b)) ∷ ts) ≡ value (boolean (b && c))
all_step true c ts h = h
all_step false c ts h = refl

some_step : (b c : Bool) (ts : List Truth) → exists_of ts ≡ value (boolean c) → exists_of (truth (value (boolean b)) ∷ ts) ≡ value (boolean (b || c))
some_step true c ts h = refl
some_step false c ts h = h

all_contained : (xs ys : Items) → macro_of plain_macro.All (λ v. member_of (value v) (value (list ys))) (list_of xs) ≡ value (boolean (contained xs ys))
all_contained no_items ys = refl
all_contained (item v more) ys =
    all_step (has_item v ys) (contained more ys) (mapped (λ w. truth (member_of (value w) (value (list ys)))) (list_of more)) (all_contained more ys)

some_meets : (xs ys : Items) → macro_of plain_macro.Exists (λ v. member_of (value v) (value (list ys))) (list_of xs) ≡ value (boolean (meeting xs ys))
some_meets no_items ys = refl
some_meets (item v more) ys =
    some_step (has_item v ys) (meeting more ys) (mapped (λ w. truth (member_of (value w) (value (list ys)))) (list_of more)) (some_meets more ys)

both_known : (a b : Bool) → and_of (value (boolean a)) (value (boolean b)) ≡ value (boolean (a && b))
both_known true true = refl
both_known true false = refl
both_known false b = refl

-- the environment of a test of two lists
abbrev of_lists : Items → Items → Environment → Environment
of_lists xs ys env = bind second_name (list ys) (bind held_name (list xs) env)

held_of : (xs ys : Items) (env : Environment) → meaning held (of_lists xs ys env) ≡ value (list xs)
unfolding meaning
held_of xs ys env = other_name second_name held_name (list ys) (bind held_name (list xs) env) refl ∙ held_is (list xs) env

second_of : (xs ys : Items) (env : Environment) → meaning second (of_lists xs ys env) ≡ value (list ys)
unfolding meaning
second_of xs ys env = this_name second_name (list ys) (bind held_name (list xs) env)

-- a name that the macro does not bind keeps its list
each_is : (v : Value) (env : Environment) → meaning each (bind index_name v env) ≡ value v
unfolding meaning
each_is v env = this_name index_name v env

held_inside : (v : Value) (xs ys : Items) (env : Environment) → meaning held (bind index_name v (of_lists xs ys env)) ≡ value (list xs)
unfolding meaning
held_inside v xs ys env = other_name index_name held_name v (of_lists xs ys env) refl ∙ held_of xs ys env

second_inside : (v : Value) (xs ys : Items) (env : Environment) → meaning second (bind index_name v (of_lists xs ys env)) ≡ value (list ys)
unfolding meaning
second_inside v xs ys env = other_name index_name second_name v (of_lists xs ys env) refl ∙ second_of xs ys env

first_in_second : (xs ys : Items) (env : Environment) → meaning (contained_tree held second) (of_lists xs ys env) ≡ value (boolean (contained xs ys))
unfolding meaning
first_in_second xs ys env =
    macro_means plain_macro.All index_name held (tree.binary operator.In each second) (of_lists xs ys env)
    ∙ (λ j. over_items plain_macro.All (λ v. member_of (each_is v (of_lists xs ys env) j) (second_inside v xs ys env j)) (range_of (held_of xs ys env j)))
    ∙ all_contained xs ys

second_in_first : (xs ys : Items) (env : Environment) → meaning (contained_tree second held) (of_lists xs ys env) ≡ value (boolean (contained ys xs))
unfolding meaning
second_in_first xs ys env =
    macro_means plain_macro.All index_name second (tree.binary operator.In each held) (of_lists xs ys env)
    ∙ (λ j. over_items plain_macro.All (λ v. member_of (each_is v (of_lists xs ys env) j) (held_inside v xs ys env j)) (range_of (second_of xs ys env j)))
    ∙ all_contained ys xs

first_meets_second : (xs ys : Items) (env : Environment) → meaning (meeting_tree held second) (of_lists xs ys env) ≡ value (boolean (meeting xs ys))
unfolding meaning
first_meets_second xs ys env =
    macro_means plain_macro.Exists index_name held (tree.binary operator.In each second) (of_lists xs ys env)
    ∙ (λ j. over_items plain_macro.Exists (λ v. member_of (each_is v (of_lists xs ys env) j) (second_inside v xs ys env j)) (range_of (held_of xs ys env j)))
    ∙ some_meets xs ys

each_in_other : (xs ys : Items) (env : Environment) → meaning (equivalent_tree held second) (of_lists xs ys env) ≡ value (boolean (contained xs ys && contained ys xs))
unfolding meaning
each_in_other xs ys env = (λ j. and_of (first_in_second xs ys env j) (second_in_first xs ys env j)) ∙ both_known (contained xs ys) (contained ys xs)

on_two : (f : Items → Items → Bool) (x y : ValueOrError) → on_items (λ xs. on_items (λ ys. value (boolean (f xs ys))) y) x ≡ on_lists f x y
on_two f error y = refl
on_two f (value null) y = refl
on_two f (value (boolean b)) y = refl
on_two f (value (int z)) y = refl
on_two f (value (text s)) y = refl
on_two f (value (map es)) y = refl
on_two f (value (list xs)) error = refl
on_two f (value (list xs)) (value null) = refl
on_two f (value (list xs)) (value (boolean b)) = refl
on_two f (value (list xs)) (value (int z)) = refl
on_two f (value (list xs)) (value (text s)) = refl
on_two f (value (list xs)) (value (map es)) = refl
on_two f (value (list xs)) (value (list ys)) = refl

bool_kind : (f : Items → Items → Bool) (x y : ValueOrError) → FitsKind kind.Bool (on_lists f x y)
bool_kind f error y = tt
bool_kind f (value null) y = tt
bool_kind f (value (boolean b)) y = tt
bool_kind f (value (int z)) y = tt
bool_kind f (value (text s)) y = tt
bool_kind f (value (map es)) y = tt
bool_kind f (value (list xs)) error = tt
bool_kind f (value (list xs)) (value null) = tt
bool_kind f (value (list xs)) (value (boolean b)) = tt
bool_kind f (value (list xs)) (value (int z)) = tt
bool_kind f (value (list xs)) (value (text s)) = tt
bool_kind f (value (list xs)) (value (map es)) = tt
bool_kind f (value (list xs)) (value (list ys)) = refl

-- what a tree means of two lists
abbrev pub IsTest : Tree → (Items → Items → Bool) → Type 0
IsTest test f = (xs ys : Items) (env : Environment) → meaning test (of_lists xs ys env) ≡ value (boolean (f xs ys))

-- The second list is the same in each environment in which the name that the translation binds has a value.
sets_hold : (test : Tree) (f : Items → Items → Bool) (k j : ValueKind) (a b : Tree) (x y : Outcome) (env : Environment) → IsTest test f → IsPlain k a x env
    → ((v : Value) → IsPlain j b y (bind held_name v env)) → IsPlain kind.Bool (sets_tree test a b) (sets_in f x y) env
unfolding is_variables
sets_hold test f k j a b x y env q h i =
    plain_holds kind.Bool (sets_tree test a b) (on_lists f (plain_part x) (plain_part y)) env
    (list_let_means held_name a (list_let second_name b test) env
    ∙ (λ l. on_items (λ xs. list_let_means second_name b test (bind held_name (list xs) env) l) (meaning a env))
    ∙ (λ l. on_items (λ xs. on_items (λ ys. q xs ys env l) ((i (list xs)).means l)) (h.means l))
    ∙ on_two f (plain_part x) (plain_part y))
    (bool_kind f (plain_part x) (plain_part y)) refl

sets_second : (test : Tree) (f : Items → Items → Bool) (k : ValueKind) (a : Tree) (u : Translation) (x y : Outcome) (env : Environment) → IsTest test f → IsPlain k a x env
    → ((v : Value) → WideHolds u y (bind held_name v env)) → WideHolds (with_plain u (λ j b. taken (plain kind.Bool (sets_tree test a b)))) (sets_in f x y) env
sets_second test f k a (refused e) x y env q h i = tt
sets_second test f k a (taken (guarded j g b)) x y env q h i = tt
sets_second test f k a (taken (listed j l)) x y env q h i = tt
sets_second test f k a (taken (plain j b)) x y env q h i = sets_hold test f k j a b x y env q h i

pub sets_holds : (test : Tree) (f : Items → Items → Bool) (t u : Translation) (x y : Outcome) (env : Environment) → IsTest test f → WideHolds t x env
    → ((v : Value) → WideHolds u y (bind held_name v env)) → WideHolds (sets_translation test t u) (sets_in f x y) env
sets_holds test f (refused e) u x y env q h i = tt
sets_holds test f (taken (guarded k g a)) u x y env q h i = tt
sets_holds test f (taken (listed k l)) u x y env q h i = tt
sets_holds test f (taken (plain k a)) u x y env q h i = sets_second test f k a u x y env q h i

pub contains_test : IsTest (contained_tree second held) (λ xs ys. contained ys xs)
contains_test xs ys env = second_in_first xs ys env

pub meets_test : IsTest (meeting_tree held second) meeting
meets_test xs ys env = first_meets_second xs ys env

pub equivalent_test : IsTest (equivalent_tree held second) (λ xs ys. contained xs ys && contained ys xs)
equivalent_test xs ys env = each_in_other xs ys env
