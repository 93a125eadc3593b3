-- Literals and the results of operators are of the kinds that they are given.
use Rattle.std.proofs.Common.{◌≡◌, ℕ, ℤ, ◌+ℤ◌, ◌-ℤ◌, ◌*ℤ◌, neg_ℤ, int_div, int_rem, Bool, true, false, not, List, ◌++◌, Option, Some, None, option_map, refl, if◌then◌else◌}
use Rattle.cel_reader.specs.Tree as tree
use Rattle.cel_reader.specs.declared.operator.BinaryOperator.{BinaryOperator}
use Rattle.cel_reader.specs.declared.operator.BinaryOperator.TheVariants as binary
use Rattle.cel_reader.specs.declared.operator.UnaryOperator.{UnaryOperator, TheVariants.Not, TheVariants.Negate}
use Rattle.value_store.specs.Value.{Value, ValueOrError, error, value, null, boolean, int, text, list, Items, items_join}
use Rattle.value_store.specs.Equality.{equal}
use Rattle.value_store.specs.Order.{less}
use Rattle.value_store.specs.Lookup.{member}
use Rattle.cel_macros.specs.Arithmetic.{fits, int_or_error, int_part, on_ints, is_zero, quotient, remainder, negation_of, sum_of}
use Rattle.cel_macros.specs.Comparison.{truth_or_error, on_values}
use Rattle.cel_macros.specs.Literals.{literal_of}
use Rattle.cel_macros.specs.Logic.{Truth, Yes, No, Other, of_truth, conjunction, disjunction, truth, not_of}
use Rattle.cel_macros.specs.Meaning.{unary_of, binary_of}
use Rattle.wide_kinds.specs.declared.kind.ValueKind.{ValueKind}
use Rattle.wide_kinds.specs.declared.kind.ValueKind.TheVariants as kind
use Rattle.wide_kinds.specs.Kinds.{literal_kind, unary_kind, binary_kind, sum_kind, addable, joined_kind}
use Rattle.wide_kinds.specs.Fitting.{has_kind, FitsKind}
use Rattle.wide_kinds.specs.Laws.{KindsHold}

truth_fits : (t : Truth) → FitsKind kind.Bool (of_truth t)
truth_fits Yes = refl
truth_fits No = refl
truth_fits Other = tt

test_fits : (o : Option Bool) → FitsKind kind.Bool (truth_or_error o)
test_fits (Some b) = refl
test_fits None = tt

compared_fits : (f : Value → Value → Option Bool) (x y : ValueOrError) → FitsKind kind.Bool (on_values f x y)
compared_fits f (value a) (value b) = test_fits (f a b)
compared_fits f (value a) error = tt
compared_fits f error y = tt

int_if : (b : Bool) (z : ValueOrError) → FitsKind kind.Int z → FitsKind kind.Int (if b then z else error)
int_if true z h = h
int_if false z h = tt

int_fits : (z : ℤ) → FitsKind kind.Int (int_or_error z)
int_fits z = int_if (fits z) (value (int z)) refl

error_or : (b : Bool) (z : ValueOrError) → FitsKind kind.Int z → FitsKind kind.Int (if b then error else z)
error_or true z h = tt
error_or false z h = h

ints_fit : (f : ℤ → ℤ → ValueOrError) (x y : Option ℤ) → ((a b : ℤ) → FitsKind kind.Int (f a b)) → FitsKind kind.Int (on_ints f x y)
ints_fit f (Some a) (Some b) h = h a b
ints_fit f (Some a) None h = tt
ints_fit f None y h = tt

negation_fits : (x : ValueOrError) → FitsKind kind.Int (negation_of x)
negation_fits (value (int z)) = int_fits (neg_ℤ z)
negation_fits (value _) = tt
negation_fits error = tt

not_fits : (x : ValueOrError) → FitsKind kind.Bool (not_of x)
not_fits (value (boolean b)) = refl
not_fits (value _) = tt
not_fits error = tt

-- ---- sums

any_fits : (x : ValueOrError) → FitsKind kind.Dyn x
any_fits error = tt
any_fits (value v) = refl

-- a kind that an int has
by_int : (P : ValueKind → Type 0) (k : ValueKind) (z : ℤ) → has_kind k (int z) ≡ true → P kind.Int → P kind.Dyn → P k
by_int P kind.Null z h a b = absurd (cc)
by_int P kind.Bool z h a b = absurd (cc)
by_int P kind.Int z h a b = a
by_int P kind.String z h a b = absurd (cc)
by_int P kind.List z h a b = absurd (cc)
by_int P kind.Map z h a b = absurd (cc)
by_int P kind.Dyn z h a b = b

-- a kind that a text has
by_text : (P : ValueKind → Type 0) (k : ValueKind) (z : List ℕ) → has_kind k (text z) ≡ true → P kind.String → P kind.Dyn → P k
by_text P kind.Null z h a b = absurd (cc)
by_text P kind.Bool z h a b = absurd (cc)
by_text P kind.Int z h a b = absurd (cc)
by_text P kind.String z h a b = a
by_text P kind.List z h a b = absurd (cc)
by_text P kind.Map z h a b = absurd (cc)
by_text P kind.Dyn z h a b = b

-- a kind that a list has
by_list : (P : ValueKind → Type 0) (k : ValueKind) (z : Items) → has_kind k (list z) ≡ true → P kind.List → P kind.Dyn → P k
by_list P kind.Null z h a b = absurd (cc)
by_list P kind.Bool z h a b = absurd (cc)
by_list P kind.Int z h a b = absurd (cc)
by_list P kind.String z h a b = absurd (cc)
by_list P kind.List z h a b = a
by_list P kind.Map z h a b = absurd (cc)
by_list P kind.Dyn z h a b = b

sum_fits : (a b : ValueKind) (x y : ValueOrError) → FitsKind a x → FitsKind b y → FitsKind (sum_kind a b) (sum_of x y)
sum_fits a b (value (int u)) (value (int w)) f g =
    let z : ValueOrError = int_or_error (u +ℤ w) in
    by_int (λ k. FitsKind (sum_kind k b) z) a u f (int_fits (u +ℤ w)) (by_int (λ k. FitsKind (addable k) z) b w g (int_fits (u +ℤ w)) (any_fits z))
sum_fits a b (value (text u)) (value (text w)) f g =
    let z : ValueOrError = value (text (u ++ w)) in
    by_text (λ k. FitsKind (sum_kind k b) z) a u f refl (by_text (λ k. FitsKind (addable k) z) b w g refl refl)
sum_fits a b (value (list u)) (value (list w)) f g =
    let z : ValueOrError = value (list (items_join u w)) in
    by_list (λ k. FitsKind (sum_kind k b) z) a u f refl (by_list (λ k. FitsKind (addable k) z) b w g refl refl)
sum_fits a b _ _ f g = tt

-- ---- all operators

binary_fits : (op : BinaryOperator) (a b : ValueKind) (x y : ValueOrError) → FitsKind a x → FitsKind b y → FitsKind (binary_kind op a b) (binary_of op x y)
binary_fits binary.Or a b x y f g = truth_fits (disjunction (truth x) (truth y))
binary_fits binary.And a b x y f g = truth_fits (conjunction (truth x) (truth y))
binary_fits binary.Less a b x y f g = compared_fits less x y
binary_fits binary.LessEqual a b x y f g = compared_fits (λ v w. option_map not (less w v)) x y
binary_fits binary.GreaterEqual a b x y f g = compared_fits (λ v w. option_map not (less v w)) x y
binary_fits binary.Greater a b x y f g = compared_fits (λ v w. less w v) x y
binary_fits binary.Equal a b x y f g = compared_fits (λ v w. Some (equal v w)) x y
binary_fits binary.NotEqual a b x y f g = compared_fits (λ v w. Some (not (equal v w))) x y
binary_fits binary.In a b x y f g = compared_fits member x y
binary_fits binary.Add a b x y f g = sum_fits a b x y f g
binary_fits binary.Subtract a b x y f g = ints_fit (λ u w. int_or_error (u -ℤ w)) (int_part x) (int_part y) (λ u w. int_fits (u -ℤ w))
binary_fits binary.Multiply a b x y f g = ints_fit (λ u w. int_or_error (u *ℤ w)) (int_part x) (int_part y) (λ u w. int_fits (u *ℤ w))
binary_fits binary.Divide a b x y f g = ints_fit quotient (int_part x) (int_part y) (λ u w. error_or (is_zero w) (int_or_error (int_div u w)) (int_fits (int_div u w)))
binary_fits binary.Remainder a b x y f g =
    ints_fit remainder (int_part x) (int_part y) (λ u w. error_or (is_zero w) (if fits (int_div u w) then value (int (int_rem u w)) else error) (int_if (fits (int_div u w)) (value (int (int_rem u w))) refl))

unary_fits : (op : UnaryOperator) (x : ValueOrError) → FitsKind (unary_kind op) (unary_of op x)
unary_fits Not x = not_fits x
unary_fits Negate x = negation_fits x

literal_fits : (l : tree.Literal) → FitsKind (literal_kind l) (literal_of l)
literal_fits (tree.int z) = refl
literal_fits (tree.text s) = refl
literal_fits (tree.truth b) = refl
literal_fits tree.null = refl

first_joined : (a b : ValueKind) (x : ValueOrError) → FitsKind a x → FitsKind (joined_kind a b) x
first_joined kind.Null kind.Null x f = f
first_joined kind.Bool kind.Bool x f = f
first_joined kind.Int kind.Int x f = f
first_joined kind.String kind.String x f = f
first_joined kind.List kind.List x f = f
first_joined kind.Map kind.Map x f = f
first_joined _ _ x f = any_fits x

second_joined : (a b : ValueKind) (x : ValueOrError) → FitsKind b x → FitsKind (joined_kind a b) x
second_joined kind.Null kind.Null x f = f
second_joined kind.Bool kind.Bool x f = f
second_joined kind.Int kind.Int x f = f
second_joined kind.String kind.String x f = f
second_joined kind.List kind.List x f = f
second_joined kind.Map kind.Map x f = f
second_joined _ _ x f = any_fits x

pub kinds_hold : KindsHold
kinds_hold = record {
  literal = literal_fits;
  unary = unary_fits;
  binary = binary_fits;
  joined = first_joined;
  joined_second = second_joined;
}
