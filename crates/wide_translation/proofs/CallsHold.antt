-- Functions and methods.
use Rattle.std.proofs.Common.{◌≡◌, ℕ, Bool, true, false, List, [], ◌∷◌, Option, Some, None, codes, pos, if◌then◌else◌}
use Rattle.std.proofs.Common.{refl, ap, ◌∙◌}
use Rattle.std.specs.Option.{option_map_or}
use Rattle.cel_reader.specs.Tree as tree
use Rattle.cel_reader.specs.Tree.{Tree, no_trees, more_trees}
use Rattle.value_store.specs.Value.{Value, ValueOrError, error, value, null, boolean, int, text, list, map, no_items}
use Rattle.cel_macros.specs.Comparison.{equal_of}
use Rattle.cel_macros.specs.Environment.{Environment, bind}
use Rattle.cel_macros.specs.Functions.{size_of, string_of, test_name, text_test_of}
unfoldable use Rattle.cel_macros.specs.Functions.{function_named, test_named}
use Rattle.cel_macros.specs.Logic.{ternary_of}
unfoldable use Rattle.cel_macros.specs.Macros.{is_variables, is_has}
use Rattle.cel_macros.specs.declared.text_test.TextTest.{TextTest, TheVariants.StartsWith, TheVariants.EndsWith}
use Rattle.cel_macros.specs.declared.text_test.TextTest.{TheVariants.Contains}
use Rattle.cel_macros.specs.Selection.{index_of}
unfoldable use Rattle.cel_macros.specs.Meaning.{meaning, meanings}
use Rattle.wide_meaning.specs.declared.function.Function.{Function}
use Rattle.wide_meaning.specs.declared.function.Function.TheVariants as function
use Rattle.wide_meaning.specs.declared.function.Method.{Method}
use Rattle.wide_meaning.specs.declared.function.Method.TheVariants as method
use Rattle.wide_meaning.specs.declared.function.Qualified.{Qualified}
use Rattle.cel_reader.specs.declared.operator.BinaryOperator.TheVariants as operator
use Rattle.cel_macros.specs.Comparison.{less_equal_of, greater_equal_of}
use Rattle.wide_meaning.specs.Functions.{text_of, function_in, first_item, last_item, item_of, extreme_of, method_in}
use Rattle.wide_meaning.specs.Meaning.{called, method_called}
use Rattle.wide_meaning.specs.Outcome.{Outcome, failed, plain as of_value, absent, present, outcome_of, plain_part}
use Rattle.wide_meaning.specs.Outcome.{value_in, value_or}
use Rattle.wide_kinds.specs.declared.kind.ValueKind.{ValueKind}
use Rattle.wide_kinds.specs.declared.kind.ValueKind.TheVariants as kind
use Rattle.wide_kinds.specs.Kinds.{joined_kind}
use Rattle.wide_kinds.specs.Fitting.{FitsKind, IsOfKind, IsOptionalOf}
use Rattle.wide_translation.specs.Carried.{Carried, plain, guarded, listed, Translation, taken, refused}
use Rattle.wide_translation.specs.Forms.{call_tree, text_tree, first_tree, let_tree, held, is_empty_tree, is_simple}
use Rattle.wide_translation.specs.Holds.{guard_part, value_part, list_part, IsPlain, Carries, WideHolds}
use Rattle.wide_translation.specs.Indexed.{CoversIf}
use Rattle.wide_translation.specs.Names.{held_name, second_name}
use Rattle.wide_translation.specs.Pairs.{table_tree}
use Rattle.wide_translation.specs.Translated.{once, string_tree, function_carried, call_translation, value_carried}
use Rattle.wide_translation.specs.Translated.{or_value_carried, test_translation, method_carried, method_of, method_translation}
use Rattle.wide_translation.specs.Translated.{with_plain}
use Rattle.wide_translation.specs.Uses.{is_by_place}
use Rattle.wide_translation.proofs.FieldsHold.{part_fits, plain_holds, with_holds, on_plain_holds, with_plain_holds}
use Rattle.wide_translation.proofs.FieldsHold.{has_value_holds}
use Rattle.wide_translation.proofs.OperatorsHold.{first_kind, second_kind}
use Rattle.wide_meaning.specs.Functions.{bool_of}
use Rattle.wide_translation.specs.Translated.{bool_of_kind}
use Rattle.wide_translation.proofs.FormsHold.{bool_means, bool_kind, bool_free}
use Rattle.wide_translation.specs.Lists.{first_list_tree, last_list_tree, extreme_tree}
use Rattle.wide_translation.proofs.ListsHold.{first_holds, last_holds, extreme_holds}
use Rattle.wide_translation.proofs.ListMethodForms.{method_or_holds}
use Rattle.wide_translation.proofs.OptionalHold.{AllHold, or_holds, qualified_holds}
use Rattle.wide_translation.proofs.Steps.{MeansBy, once_means, on_value, let_means, held_is}

-- ---- functions

size_kind : (x : ValueOrError) → FitsKind kind.Int (size_of x)
size_kind (value (text s)) = refl
size_kind (value (list is)) = refl
size_kind (value (map es)) = refl
size_kind (value null) = tt
size_kind (value (boolean b)) = tt
size_kind (value (int z)) = tt
size_kind error = tt

text_kind : (x : ValueOrError) → FitsKind kind.String (text_of x)
text_kind (value (boolean true)) = refl
text_kind (value (boolean false)) = refl
text_kind (value (int z)) = refl
text_kind (value (text s)) = refl
text_kind (value null) = tt
text_kind (value (list is)) = tt
text_kind (value (map es)) = tt
text_kind error = tt

any_kind : (x : ValueOrError) → FitsKind kind.Dyn x
any_kind error = tt
any_kind (value v) = refl

-- a value of any kind as a text
abbrev chosen_text : ValueOrError → ValueOrError
chosen_text x = ternary_of (equal_of x (value (boolean true))) (value (text (codes "true"))) (ternary_of (equal_of x (value (boolean false))) (value (text (codes "false"))) (string_of x))

chosen_is_text : (x : ValueOrError) → chosen_text x ≡ text_of x
chosen_is_text (value (boolean true)) = refl
chosen_is_text (value (boolean false)) = refl
chosen_is_text (value (int z)) = refl
chosen_is_text (value (text s)) = refl
chosen_is_text (value null) = refl
chosen_is_text (value (list is)) = refl
chosen_is_text (value (map es)) = refl
chosen_is_text error = refl

text_means : MeansBy text_tree text_of
unfolding meaning is_has function_named
text_means a env h = chosen_is_text (meaning a env)

int_as_text : (x : ValueOrError) → FitsKind kind.Int x → string_of x ≡ text_of x
int_as_text error f = refl
int_as_text (value (int z)) f = refl
int_as_text (value null) f = absurd (cc)
int_as_text (value (boolean b)) f = absurd (cc)
int_as_text (value (text s)) f = absurd (cc)
int_as_text (value (list is)) f = absurd (cc)
int_as_text (value (map es)) f = absurd (cc)

text_as_text : (x : ValueOrError) → FitsKind kind.String x → string_of x ≡ text_of x
text_as_text error f = refl
text_as_text (value (text s)) f = refl
text_as_text (value null) f = absurd (cc)
text_as_text (value (boolean b)) f = absurd (cc)
text_as_text (value (int z)) f = absurd (cc)
text_as_text (value (list is)) f = absurd (cc)
text_as_text (value (map es)) f = absurd (cc)

bool_as_text : (x : ValueOrError) → FitsKind kind.Bool x → ternary_of x (value (text (codes "true"))) (value (text (codes "false"))) ≡ text_of x
bool_as_text error f = refl
bool_as_text (value (boolean true)) f = refl
bool_as_text (value (boolean false)) f = refl
bool_as_text (value null) f = absurd (cc)
bool_as_text (value (int z)) f = absurd (cc)
bool_as_text (value (text s)) f = absurd (cc)
bool_as_text (value (list is)) f = absurd (cc)
bool_as_text (value (map es)) f = absurd (cc)

once_text : (t : Tree) (x : ValueOrError) (env : Environment) → meaning t env ≡ x → is_variables t ≡ false → meaning (once t text_tree) env ≡ text_of x
once_text t x env m v = once_means text_tree text_of t env text_means refl v ∙ ap text_of m

string_means : (k : ValueKind) (t : Tree) (x : ValueOrError) (env : Environment) → meaning t env ≡ x → FitsKind k x → is_variables t ≡ false
    → meaning (string_tree k t) env ≡ text_of x
unfolding meaning is_has function_named
string_means kind.Int t x env m f v = ap string_of m ∙ int_as_text x f
string_means kind.String t x env m f v = ap string_of m ∙ text_as_text x f
string_means kind.Bool t x env m f v = ap (λ y. ternary_of y (value (text (codes "true"))) (value (text (codes "false")))) m ∙ bool_as_text x f
string_means kind.Null t x env m f v = once_text t x env m v
string_means kind.List t x env m f v = once_text t x env m v
string_means kind.Map t x env m f v = once_text t x env m v
string_means kind.Dyn t x env m f v = once_text t x env m v

once_free_by : (b : Bool) (t : Tree) → is_variables (if b then text_tree t else let_tree held_name t (text_tree held)) ≡ false
unfolding is_variables
once_free_by true t = refl
once_free_by false t = refl

string_free : (k : ValueKind) (t : Tree) → is_variables (string_tree k t) ≡ false
unfolding is_variables
string_free kind.Int t = refl
string_free kind.String t = refl
string_free kind.Bool t = refl
string_free kind.Null t = once_free_by (is_simple t) t
string_free kind.List t = once_free_by (is_simple t) t
string_free kind.Map t = once_free_by (is_simple t) t
string_free kind.Dyn t = once_free_by (is_simple t) t

function_holds : (f : Function) (k : ValueKind) (t : Tree) (x : Outcome) (env : Environment) → IsPlain k t x env
    → WideHolds (function_carried f k t) (outcome_of (function_in f (plain_part x))) env
unfolding meaning is_has function_named is_variables
function_holds function.Size k t x env h = plain_holds kind.Int (call_tree (codes "size") t) (size_of (plain_part x)) env (ap size_of h.means) (size_kind (plain_part x)) refl
function_holds function.String k t x env h =
    plain_holds kind.String (string_tree k t) (text_of (plain_part x)) env (string_means k t (plain_part x) env h.means (part_fits k x h.kind) h.free) (text_kind (plain_part x)) (string_free k t)
function_holds function.Dyn k t x env h = plain_holds kind.Dyn (call_tree (codes "dyn") t) (plain_part x) env h.means (any_kind (plain_part x)) refl
function_holds function.Bool k t x env h =
    plain_holds kind.Bool (bool_of_kind k t) (bool_of (plain_part x)) env (bool_means k t (plain_part x) env h.means (part_fits k x h.kind) h.free) (bool_kind (plain_part x)) (bool_free k t)

pub call_holds : (f : Option Function) (n : List ℕ) (ts : List Translation) (xs : List Outcome) (r : Outcome) (env : Environment) → AllHold ts xs env
    → WideHolds (call_translation f n ts) (called f xs r) env
call_holds None n ts xs r env h = tt
call_holds (Some f) n [] xs r env h = tt
call_holds (Some f) n (t ∷ u ∷ ts) xs r env h = tt
call_holds (Some f) n (t ∷ []) (x ∷ []) r env h =
    with_plain_holds t (function_carried f) x (outcome_of (function_in f (plain_part x))) env h.0 (λ k a i. function_holds f k a x env i)
call_holds (Some f) n (t ∷ []) [] r env h = absurd h
call_holds (Some f) n (t ∷ []) (x ∷ y ∷ ys) r env h = absurd h.1

-- ---- values of optional values

value_is : (o : Outcome) → value_part o ≡ plain_part (value_in o)
value_is failed = refl
value_is (of_value v) = refl
value_is absent = refl
value_is (present v) = refl

value_kind : (k : ValueKind) (o : Outcome) → IsOptionalOf k o → IsOfKind k (value_in o)
value_kind k failed h = tt
value_kind k absent h = tt
value_kind k (present v) h = h
value_kind k (of_value v) h = absurd h

first_is : (o : Outcome) → index_of (list_part o) (value (int (pos 0))) ≡ plain_part (value_in o)
first_is failed = refl
first_is (of_value v) = refl
first_is absent = refl
first_is (present v) = refl

value_holds : (c : Carried) (x : Outcome) (env : Environment) → Carries c x env → WideHolds (value_carried c) (value_in x) env
unfolding meaning is_variables
value_holds (plain k t) x env h = tt
value_holds (guarded k g v) x env h = record { means = h.value ∙ value_is x; kind = value_kind k x h.kind; free = h.free }
value_holds (listed k l) x env h = record { means = ap (λ y. index_of y (value (int (pos 0)))) h.list ∙ first_is x; kind = value_kind k x h.kind; free = refl }

guarded_or : (k j : ValueKind) (x y : Outcome) → IsOptionalOf k x → ternary_of (guard_part x) (value_part x) (plain_part y) ≡ plain_part (value_or x y)
guarded_or k j failed y h = refl
guarded_or k j absent y h = refl
guarded_or k j (present v) y h = refl
guarded_or k j (of_value v) y h = absurd h

listed_or : (k j : ValueKind) (x y : Outcome) → IsOptionalOf k x
    → on_value (λ v. ternary_of (equal_of (value v) (value (list no_items))) (plain_part y) (index_of (value v) (value (int (pos 0))))) (list_part x) ≡ plain_part (value_or x y)
listed_or k j failed y h = refl
listed_or k j absent y h = refl
listed_or k j (present v) y h = refl
listed_or k j (of_value v) y h = absurd h

or_kind : (k j : ValueKind) (x y : Outcome) → IsOptionalOf k x → IsOfKind j y → IsOfKind (joined_kind k j) (value_or x y)
or_kind k j failed y f g = tt
or_kind k j absent y f g = second_kind k j y g
or_kind k j (present v) y f g = first_kind k j (of_value v) f
or_kind k j (of_value v) y f g = absurd f

-- The default is the same in each environment in which the name that the translation binds has a value.
pub or_value_holds : (c : Carried) (j : ValueKind) (d : Tree) (x y : Outcome) (env : Environment) → Carries c x env → IsPlain j d y env
    → ((v : Value) → meaning d (bind held_name v env) ≡ plain_part y) → WideHolds (or_value_carried c j d) (value_or x y) env
unfolding meaning meanings is_variables
or_value_holds (plain k t) j d x y env h i s = tt
or_value_holds (guarded k g v) j d x y env h i s = record {
  means = (λ l. ternary_of (h.guard l) (h.value l) (i.means l)) ∙ guarded_or k j x y h.kind;
  kind = or_kind k j x y h.kind i.kind;
  free = refl;
}
or_value_holds (listed k l) j d x y env h i s =
    let body : Tree = tree.ternary (is_empty_tree held) d (first_tree held) in
    record {
      means = let_means held_name l body env
          ∙ (λ m. on_value (λ v. ternary_of (equal_of (held_is v env m) (value (list no_items))) (s v m) (index_of (held_is v env m) (value (int (pos 0))))) (h.list m))
          ∙ listed_or k j x y h.kind;
      kind = or_kind k j x y h.kind i.kind;
      free = refl;
    }

-- ---- methods

test_kind : (t : TextTest) (x y : ValueOrError) → FitsKind kind.Bool (text_test_of (Some t) x y)
test_kind t (value (text a)) (value (text b)) = refl
test_kind t _ _ = tt

test_means : (t : TextTest) (a b : Tree) (env : Environment) → meaning (tree.method a (test_name t) (more_trees b no_trees)) env ≡ text_test_of (Some t) (meaning a env) (meaning b env)
unfolding meaning test_named
test_means StartsWith a b env = refl
test_means EndsWith a b env = refl
test_means Contains a b env = refl

tests : (t : TextTest) (k j : ValueKind) (a b : Tree) (x y : Outcome) (env : Environment) → IsPlain k a x env → IsPlain j b y env
    → IsPlain kind.Bool (tree.method a (test_name t) (more_trees b no_trees)) (outcome_of (text_test_of (Some t) (plain_part x) (plain_part y))) env
unfolding is_variables
tests t k j a b x y env h i =
    plain_holds kind.Bool (tree.method a (test_name t) (more_trees b no_trees)) (text_test_of (Some t) (plain_part x) (plain_part y)) env
    (test_means t a b env ∙ (λ l. text_test_of (Some t) (h.means l) (i.means l))) (test_kind t (plain_part x) (plain_part y)) refl

test_holds : (t : TextTest) (c : Carried) (d : Translation) (x y : Outcome) (env : Environment) → Carries c x env → WideHolds d y env
    → WideHolds (test_translation t c d) (outcome_of (text_test_of (Some t) (plain_part x) (plain_part y))) env
test_holds t c d x y env h i =
    let o : Outcome = outcome_of (text_test_of (Some t) (plain_part x) (plain_part y)) in
    on_plain_holds c (λ k a. with_plain d (λ j b. taken (plain kind.Bool (tree.method a (test_name t) (more_trees b no_trees))))) x o env h
    (λ k a r. with_plain_holds d (λ j b. taken (plain kind.Bool (tree.method a (test_name t) (more_trees b no_trees)))) y o env i
    (λ j b q. tests t k j a b x y env r q))

size_holds : (k : ValueKind) (t : Tree) (x : Outcome) (env : Environment) → IsPlain k t x env → IsPlain kind.Int (tree.method t (codes "size") no_trees) (outcome_of (size_of (plain_part x))) env
unfolding meaning function_named is_variables
size_holds k t x env h = plain_holds kind.Int (tree.method t (codes "size") no_trees) (size_of (plain_part x)) env (ap size_of h.means) (size_kind (plain_part x)) refl

or_value_of : (c : Carried) (t : Translation) (x y : Outcome) (env : Environment) → Carries c x env → WideHolds t y env
    → ((v : Value) → WideHolds t y (bind held_name v env)) → WideHolds (with_plain t (or_value_carried c)) (value_or x y) env
or_value_of c (refused e) x y env h i s = tt
or_value_of c (taken (plain j d)) x y env h i s = or_value_holds c j d x y env h i (λ v. (s v).means)
or_value_of c (taken (guarded j g v)) x y env h i s = tt
or_value_of c (taken (listed j l)) x y env h i s = tt

pub method_holds : (m : Method) (c : Carried) (x : Outcome) (ts : List Translation) (xs : List Outcome) (r : Outcome) (env : Environment)
    → Carries c x env → AllHold ts xs env → ((v : Value) → AllHold ts xs (bind held_name v env)) → WideHolds (method_carried m c ts) (method_in m x xs r) env
method_holds method.Size c x [] [] r env h i s = on_plain_holds c (λ k a. taken (plain kind.Int (tree.method a (codes "size") no_trees))) x (outcome_of (size_of (plain_part x))) env h (λ k a q. size_holds k a x env q)
method_holds method.Size c x [] (y ∷ ys) r env h i s = absurd i
method_holds method.Size c x (t ∷ ts) ys r env h i s = tt
method_holds method.StartsWith c x [] ys r env h i s = tt
method_holds method.StartsWith c x (t ∷ []) (y ∷ []) r env h i s = test_holds StartsWith c t x y env h i.0
method_holds method.StartsWith c x (t ∷ []) [] r env h i s = absurd i
method_holds method.StartsWith c x (t ∷ []) (y ∷ z ∷ zs) r env h i s = absurd i.1
method_holds method.StartsWith c x (t ∷ u ∷ ts) ys r env h i s = tt
method_holds method.EndsWith c x [] ys r env h i s = tt
method_holds method.EndsWith c x (t ∷ []) (y ∷ []) r env h i s = test_holds EndsWith c t x y env h i.0
method_holds method.EndsWith c x (t ∷ []) [] r env h i s = absurd i
method_holds method.EndsWith c x (t ∷ []) (y ∷ z ∷ zs) r env h i s = absurd i.1
method_holds method.EndsWith c x (t ∷ u ∷ ts) ys r env h i s = tt
method_holds method.Contains c x [] ys r env h i s = tt
method_holds method.Contains c x (t ∷ []) (y ∷ []) r env h i s = test_holds Contains c t x y env h i.0
method_holds method.Contains c x (t ∷ []) [] r env h i s = absurd i
method_holds method.Contains c x (t ∷ []) (y ∷ z ∷ zs) r env h i s = absurd i.1
method_holds method.Contains c x (t ∷ u ∷ ts) ys r env h i s = tt
method_holds method.HasValue c x [] [] r env h i s = has_value_holds c x env h
method_holds method.HasValue c x [] (y ∷ ys) r env h i s = absurd i
method_holds method.HasValue c x (t ∷ ts) ys r env h i s = tt
method_holds method.Value c x [] [] r env h i s = value_holds c x env h
method_holds method.Value c x [] (y ∷ ys) r env h i s = absurd i
method_holds method.Value c x (t ∷ ts) ys r env h i s = tt
method_holds method.OrValue c x [] ys r env h i s = tt
method_holds method.OrValue c x (t ∷ []) (y ∷ []) r env h i s = or_value_of c t x y env h i.0 (λ v. (s v).0)
method_holds method.OrValue c x (t ∷ []) [] r env h i s = absurd i
method_holds method.OrValue c x (t ∷ []) (y ∷ z ∷ zs) r env h i s = absurd i.1
method_holds method.OrValue c x (t ∷ u ∷ ts) ys r env h i s = tt
method_holds method.Or c x [] ys r env h i s = tt
method_holds method.Or c x (t ∷ []) (y ∷ []) r env h i s = or_holds c t x y env h i.0 (λ v. (s v).0)
method_holds method.Or c x (t ∷ []) [] r env h i s = absurd i
method_holds method.Or c x (t ∷ []) (y ∷ z ∷ zs) r env h i s = absurd i.1
method_holds method.Or c x (t ∷ u ∷ ts) ys r env h i s = tt
method_holds method.First c x [] [] r env h i s =
    on_plain_holds c (λ k a. taken (listed kind.Dyn (first_list_tree a))) x (item_of first_item (plain_part x)) env h (λ k a q. first_holds k a x env q)
method_holds method.First c x [] (y ∷ ys) r env h i s = absurd i
method_holds method.First c x (t ∷ ts) ys r env h i s = tt
method_holds method.Last c x [] [] r env h i s =
    on_plain_holds c (λ k a. taken (listed kind.Dyn (last_list_tree a))) x (item_of last_item (plain_part x)) env h (λ k a q. last_holds k a x env q)
method_holds method.Last c x [] (y ∷ ys) r env h i s = absurd i
method_holds method.Last c x (t ∷ ts) ys r env h i s = tt
method_holds method.Min c x [] [] r env h i s =
    on_plain_holds c (λ k a. taken (plain kind.Dyn (extreme_tree operator.LessEqual a))) x (outcome_of (extreme_of less_equal_of (plain_part x))) env h
    (λ k a q. extreme_holds operator.LessEqual k a x env q)
method_holds method.Min c x [] (y ∷ ys) r env h i s = absurd i
method_holds method.Min c x (t ∷ ts) ys r env h i s = tt
method_holds method.Max c x [] [] r env h i s =
    on_plain_holds c (λ k a. taken (plain kind.Dyn (extreme_tree operator.GreaterEqual a))) x (outcome_of (extreme_of greater_equal_of (plain_part x))) env h
    (λ k a q. extreme_holds operator.GreaterEqual k a x env q)
method_holds method.Max c x [] (y ∷ ys) r env h i s = absurd i
method_holds method.Max c x (t ∷ ts) ys r env h i s = tt
method_holds method.IsSorted c x ts xs r env h i s = tt
method_holds method.Distinct c x ts xs r env h i s = tt
method_holds method.Reverse c x ts xs r env h i s = tt
method_holds method.Slice c x ts xs r env h i s = tt
method_holds method.IndexOf c x ts xs r env h i s = tt
method_holds method.LastIndexOf c x ts xs r env h i s = tt

-- the table of indices is y
module _ (y : ValueOrError) where
  pub method_called_holds : (b : Bool) (q : Option Qualified) (m : Option Method) (n : List ℕ) (t : Translation) (x : Outcome) (ts : List Translation) (xs : List Outcome) (r : Outcome) (env : Environment)
      → (b ≡ true → CoversIf (option_map_or is_by_place m false) y (plain_part x)) → meaning table_tree env ≡ y → WideHolds t x env → AllHold ts xs env
      → ((v : Value) → AllHold ts xs (bind held_name v env)) → ((v w : Value) → AllHold ts xs (bind second_name w (bind held_name v env)))
      → WideHolds (method_translation b q m n t ts) (method_called q m x xs r) env
  method_called_holds b (Some q) m n t x ts xs r env k l h i s d = qualified_holds q n ts xs r env i s
  method_called_holds b None None n t x ts xs r env k l h i s d = tt
  method_called_holds b None (Some m) n t x ts xs r env k l h i s d =
      with_holds t (λ c. method_of b m c ts) x (method_in m x xs r) env h
      (λ c g. method_or_holds y b m c x ts xs (method_carried m c ts) r env k l g s d (method_holds m c x ts xs r env g i s))
