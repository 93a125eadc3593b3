-- Each operator, function and macro follows its row of the type table.
use Rattle.cel_types.proofs.Prelude.{arith, ◌≡◌, ℕ, ℤ, Bool, true, cond, List, [], ◌∷◌, Option, refl, int_div, int_rem, BinaryOperator, UnaryOperator, Value, int, ValueOrError, error, value, CelType, Truth, of_truth, ternary_of, fits, is_zero, int_or_error, on_ints, quotient, remainder, sum_of, on_values, member_of, literal_of, list_or_error, map_or_error, Function, TextTest, method_of, text_test_of, Macro, over_range, map_over_range, unary_of, binary_of, called, Typing, typed, same_type, row, with_type, with_types, literal_type, index_row, unary_row, binary_row, member_row, sum_row, ternary_row, method_row, test_row, call_type, fold_type, fold_map_type, FitsType}
use Rattle.cel_reader.specs.Tree as tree
use Rattle.value_store.specs.Value.{Entries}
use Rattle.cel_types.specs.declared.cel_type.CelType.TheVariants as type

-- ---- the forms of rows

pub cond_fits : (b : Bool) (t : CelType) (x y : ValueOrError) → FitsType (typed t) x → FitsType (typed t) y → FitsType (typed t) (cond b x y)
cond_fits b t x y hx hy = grind arith

pub row_fits : (b : Bool) (t : CelType) (x : ValueOrError) → FitsType (typed t) x → FitsType (row b t) x
row_fits b t x h = grind arith

pub with_fits : (a : Typing) (k : CelType → Typing) (x : ValueOrError) → ((t : CelType) → FitsType (k t) x) → FitsType (with_type a k) x
with_fits a k x step = grind arith

pub two_fit : (a b : Typing) (k : CelType → CelType → Typing) (r : ValueOrError) → ((x y : CelType) → FitsType (k x y) r) → FitsType (with_type a (λ x. with_type b (λ y. k x y))) r
two_fit a b k r step = with_fits a (λ x. with_type b (λ y. k x y)) r (λ x. with_fits b (k x) r (step x))

pub with_types_fit : (parts : List Typing) (last : Typing) (x : ValueOrError) → FitsType last x → FitsType (with_types parts last) x
with_types_fit [] last x h = h
with_types_fit (a ∷ parts) last x h = with_fits a (λ t. with_types parts last) x (λ t. with_types_fit parts last x h)

pub same_is : (a b : CelType) → same_type a b ≡ true → a ≡ b
same_is a b e = grind arith

-- ---- results of one kind

truth_fits : (t : Truth) → FitsType (typed type.Bool) (of_truth t)
truth_fits t = grind arith

values_fit : (test : Value → Value → Option Bool) (x y : ValueOrError) → FitsType (typed type.Bool) (on_values test x y)
values_fit test x y = grind arith

int_fits : (z : ℤ) → FitsType (typed type.Int) (int_or_error z)
int_fits z = cond_fits (fits z) type.Int (value (int z)) error refl tt

ints_fit : (f : ℤ → ℤ → ValueOrError) → ((a b : ℤ) → FitsType (typed type.Int) (f a b)) → (x y : Option ℤ) → FitsType (typed type.Int) (on_ints f x y)
ints_fit f h h0 h1 = grind arith

quotient_fits : (a b : ℤ) → FitsType (typed type.Int) (quotient a b)
quotient_fits a b = cond_fits (is_zero b) type.Int error (int_or_error (int_div a b)) tt (int_fits (int_div a b))

remainder_fits : (a b : ℤ) → FitsType (typed type.Int) (remainder a b)
remainder_fits a b = cond_fits (is_zero b) type.Int error (cond (fits (int_div a b)) (value (int (int_rem a b))) error) tt (cond_fits (fits (int_div a b)) type.Int (value (int (int_rem a b))) error refl tt)

pub list_fits : (o : Option (List Value)) → FitsType (typed type.List) (list_or_error o)
list_fits o = grind arith

pub map_fits : (o : Option Entries) → FitsType (typed type.Map) (map_or_error o)
map_fits o = grind arith

pub literal_fits : (l : tree.Literal) → FitsType (typed (literal_type l)) (literal_of l)
literal_fits l = grind arith

-- ---- operators

pub unary_fits : (op : UnaryOperator) (a : Typing) (u : ValueOrError) → FitsType (with_type a (unary_row op)) (unary_of op u)
unary_fits op a u = grind arith

sums_fit : (a b : Typing) (u v : ValueOrError) → FitsType a u → FitsType b v → FitsType (with_type a (λ x. with_type b (λ y. sum_row x y))) (sum_of u v)
sums_fit a b u v ha hb = grind arith

member_fits : (u v : ValueOrError) (x y : CelType) → FitsType (member_row x y) (member_of u v)
member_fits u v x y = grind arith

pub binary_fits : (op : BinaryOperator) (a b : Typing) (u v : ValueOrError) → FitsType a u → FitsType b v → FitsType (with_type a (λ x. with_type b (λ y. binary_row op x y))) (binary_of op u v)
binary_fits op a b u v ha hb = grind (arith, sums_fit, member_fits, truth_fits, values_fit, ints_fit, int_fits, quotient_fits, remainder_fits)

pub ternary_fits : (c a b : Typing) (w u v : ValueOrError) → FitsType a u → FitsType b v → FitsType (with_type c (λ x. with_type a (λ y. with_type b (λ z. ternary_row x y z)))) (ternary_of w u v)
ternary_fits c a b w u v ha hb = grind (arith, row_fits)

pub index_fits : (a b : Typing) (r : ValueOrError) → FitsType (with_type a (λ x. with_type b (λ y. index_row x y))) r
index_fits a b r = grind arith

-- ---- functions, methods and `has`

pub method_fits : (g : Option Function) (a : Typing) (x : ValueOrError) → FitsType (with_type a (method_row g)) (method_of g x)
method_fits g a x = grind arith

test_row_fits : (f : Option TextTest) (u v : ValueOrError) (x y : CelType) → FitsType (test_row f x y) (text_test_of f u v)
test_row_fits f u v x y = grind arith

pub text_test_fits : (f : Option TextTest) (a b : Typing) (u v : ValueOrError) → FitsType (with_type a (λ x. with_type b (λ y. test_row f x y))) (text_test_of f u v)
text_test_fits f a b u v = two_fit a b (test_row f) (text_test_of f u v) (test_row_fits f u v)

pub call_fits : (b : Bool) (k : Option (List ℕ)) (g : Option Function) (x y : Typing) (u v : ValueOrError) → FitsType (call_type b k g x y) (called b k g u v)
call_fits b k g x y u v = grind arith

-- ---- macros

pub fold_fits : (m : Option Macro) (k : Option (List ℕ)) (r : Typing) (p : List ℕ → Typing) (parts : List Typing) (f : List ℕ → Value → ValueOrError) (items : Option (List Value))
    → FitsType (fold_type m k r p parts) (over_range m k f items)
fold_fits m k r p parts f items = grind arith

pub fold_map_fits : (b : Bool) (k : Option (List ℕ)) (r : Typing) (p t : List ℕ → Typing) (parts : List Typing) (q f : List ℕ → Value → ValueOrError) (items : Option (List Value))
    → FitsType (fold_map_type b k r p t parts) (map_over_range b k q f items)
fold_map_fits b k r p t parts q f items = grind arith
