-- Operators, conditionals, and literals of lists and maps.
use Rattle.std.specs.Prelude.{⊤}
use Rattle.std.proofs.Common.{◌≡◌, Bool, true, false, not, List, [], ◌∷◌, Option, Some, None, option_map, ◌&&◌, refl}
use Rattle.std.proofs.Common.{ap, sym, ◌∙◌, subst}
use Rattle.cel_reader.specs.Tree as tree
use Rattle.cel_reader.specs.Tree.{Tree, Trees, no_trees, more_trees, TreeEntries, no_entries as no_tree_entries}
use Rattle.cel_reader.specs.Tree.{more_entries}
use Rattle.cel_reader.specs.declared.operator.BinaryOperator.{BinaryOperator}
use Rattle.cel_reader.specs.declared.operator.BinaryOperator.TheVariants as binary
use Rattle.cel_reader.specs.declared.operator.UnaryOperator.{UnaryOperator}
use Rattle.value_store.specs.Value.{Value, ValueOrError, error, value, null, boolean, int, text, list, map, item}
use Rattle.cel_macros.specs.Arithmetic.{sum_of}
use Rattle.value_store.specs.Equality.{equal}
use Rattle.cel_macros.specs.Comparison.{equal_of, unequal_of}
use Rattle.cel_macros.specs.Environment.{Environment}
use Rattle.cel_macros.specs.Literals.{list_literal, list_or_error, with_value, values_in}
use Rattle.cel_macros.specs.Logic.{Truth, Yes, No, Other, truth, chosen, ternary_of}
unfoldable use Rattle.cel_macros.specs.Macros.{is_variables}
use Rattle.cel_macros.specs.Meaning.{unary_of, binary_of}
unfoldable use Rattle.cel_macros.specs.Meaning.{meaning, meanings, entry_meanings}
use Rattle.wide_reader.specs.declared.wide.Access.{Access, TheVariants.Plain, TheVariants.Optional}
use Rattle.wide_meaning.specs.Operators.{same, tested, binary_in, unary_in, ternary_in, item_in, list_in}
use Rattle.wide_meaning.specs.Outcome.{Outcome, failed, plain as of_value, absent, present, outcome_of, plain_part}
use Rattle.wide_kinds.proofs.Fitting.{kinds_hold}
use Rattle.wide_kinds.specs.declared.kind.ValueKind.{ValueKind}
use Rattle.wide_kinds.specs.declared.kind.ValueKind.TheVariants as kind
use Rattle.wide_kinds.specs.Kinds.{unary_kind, binary_kind, joined_kind}
use Rattle.wide_kinds.specs.Fitting.{FitsKind, IsOfKind, IsOptionalOf}
use Rattle.wide_translation.specs.Carried.{Carried, plain, guarded, listed, OptionalValue, Translation, taken}
use Rattle.wide_translation.specs.Carried.{refused}
use Rattle.wide_translation.specs.Forms.{guarded_tree}
use Rattle.wide_translation.specs.Holds.{list_part, IsPlain, IsListed, Carries, WideHolds}
use Rattle.wide_translation.specs.Translated.{on_plain, on_list, equality, binary_carried, ternary_carried, Parts}
use Rattle.wide_translation.specs.Translated.{parts, no_parts, joined_tree, one_more, list_translation}
use Rattle.wide_translation.proofs.FieldsHold.{part_fits, plain_holds, on_plain_holds, on_list_holds}
use Rattle.wide_translation.proofs.Steps.{guarded_means}

-- ---- unary operators

pub unary_holds : (op : UnaryOperator) (k : ValueKind) (t : Tree) (x : Outcome) (env : Environment) → IsPlain k t x env → IsPlain (unary_kind op) (tree.unary op t) (unary_in op x) env
unfolding meaning is_variables
unary_holds op k t x env h = plain_holds (unary_kind op) (tree.unary op t) (unary_of op (plain_part x)) env (ap (unary_of op) h.means) (kinds_hold.unary op (plain_part x)) refl

-- ---- equality

equal_same : (k j : ValueKind) (x y : Outcome) → IsOfKind k x → IsOfKind j y → outcome_of (equal_of (plain_part x) (plain_part y)) ≡ tested (same x y)
equal_same k j failed failed f g = refl
equal_same k j failed (of_value v) f g = refl
equal_same k j (of_value v) failed f g = refl
equal_same k j (of_value v) (of_value w) f g = refl
equal_same k j absent y f g = absurd f
equal_same k j (present v) y f g = absurd f
equal_same k j failed absent f g = absurd g
equal_same k j failed (present w) f g = absurd g
equal_same k j (of_value v) absent f g = absurd g
equal_same k j (of_value v) (present w) f g = absurd g

unequal_same : (k j : ValueKind) (x y : Outcome) → IsOfKind k x → IsOfKind j y → outcome_of (unequal_of (plain_part x) (plain_part y)) ≡ tested (option_map not (same x y))
unequal_same k j failed failed f g = refl
unequal_same k j failed (of_value v) f g = refl
unequal_same k j (of_value v) failed f g = refl
unequal_same k j (of_value v) (of_value w) f g = refl
unequal_same k j absent y f g = absurd f
unequal_same k j (present v) y f g = absurd f
unequal_same k j failed absent f g = absurd g
unequal_same k j failed (present w) f g = absurd g
unequal_same k j (of_value v) absent f g = absurd g
unequal_same k j (of_value v) (present w) f g = absurd g

and_true : (b : Bool) → (b && true) ≡ b
and_true true = refl
and_true false = refl

equal_lists : (k j : ValueKind) (x y : Outcome) → IsOptionalOf k x → IsOptionalOf j y → outcome_of (equal_of (list_part x) (list_part y)) ≡ tested (same x y)
equal_lists k j failed failed f g = refl
equal_lists k j failed absent f g = refl
equal_lists k j failed (present w) f g = refl
equal_lists k j absent failed f g = refl
equal_lists k j absent absent f g = refl
equal_lists k j absent (present w) f g = refl
equal_lists k j (present v) failed f g = refl
equal_lists k j (present v) absent f g = refl
equal_lists k j (present v) (present w) f g = ap (λ b. of_value (boolean b)) (and_true (equal v w))
equal_lists k j (of_value v) y f g = absurd f
equal_lists k j failed (of_value w) f g = absurd g
equal_lists k j absent (of_value w) f g = absurd g
equal_lists k j (present v) (of_value w) f g = absurd g

unequal_lists : (k j : ValueKind) (x y : Outcome) → IsOptionalOf k x → IsOptionalOf j y → outcome_of (unequal_of (list_part x) (list_part y)) ≡ tested (option_map not (same x y))
unequal_lists k j failed failed f g = refl
unequal_lists k j failed absent f g = refl
unequal_lists k j failed (present w) f g = refl
unequal_lists k j absent failed f g = refl
unequal_lists k j absent absent f g = refl
unequal_lists k j absent (present w) f g = refl
unequal_lists k j (present v) failed f g = refl
unequal_lists k j (present v) absent f g = refl
unequal_lists k j (present v) (present w) f g = ap (λ b. of_value (boolean (not b))) (and_true (equal v w))
unequal_lists k j (of_value v) y f g = absurd f
unequal_lists k j failed (of_value w) f g = absurd g
unequal_lists k j absent (of_value w) f g = absurd g
unequal_lists k j (present v) (of_value w) f g = absurd g

-- an operator whose result is a bool, on the meanings of two trees
compared : (op : BinaryOperator) (a b : Tree) (y z : ValueOrError) (o : Outcome) (env : Environment) → meaning a env ≡ y → meaning b env ≡ z
    → outcome_of (binary_of op y z) ≡ o → FitsKind kind.Bool (binary_of op y z) → IsPlain kind.Bool (tree.binary op a b) o env
unfolding meaning is_variables
compared op a b y z o env m n e f =
    subst (λ (x : Outcome). IsPlain kind.Bool (tree.binary op a b) x env) e
    (plain_holds kind.Bool (tree.binary op a b) (binary_of op y z) env (λ j. binary_of op (m j) (n j)) f refl)

two_lists : (op : BinaryOperator) (c d : Carried) (x y o : Outcome) (env : Environment) → Carries c x env → Carries d y env
    → ((k j : ValueKind) → IsOptionalOf k x → IsOptionalOf j y → outcome_of (binary_of op (list_part x) (list_part y)) ≡ o)
    → ((z w : ValueOrError) → FitsKind kind.Bool (binary_of op z w))
    → WideHolds (on_list OptionalValue c (λ k l. on_list OptionalValue d (λ j m. taken (plain kind.Bool (tree.binary op l m))))) o env
two_lists op c d x y o env h i q f =
    on_list_holds OptionalValue c (λ k l. on_list OptionalValue d (λ j m. taken (plain kind.Bool (tree.binary op l m)))) x o env h
    (λ k l r. on_list_holds OptionalValue d (λ j m. taken (plain kind.Bool (tree.binary op l m))) y o env i
    (λ j m t. compared op l m (list_part x) (list_part y) o env r.list t.list (q k j r.kind t.kind) (f (list_part x) (list_part y))))

equality_holds : (op : BinaryOperator) (c d : Carried) (x y o : Outcome) (env : Environment) → Carries c x env → Carries d y env
    → ((k j : ValueKind) → IsOfKind k x → IsOfKind j y → outcome_of (binary_of op (plain_part x) (plain_part y)) ≡ o)
    → ((k j : ValueKind) → IsOptionalOf k x → IsOptionalOf j y → outcome_of (binary_of op (list_part x) (list_part y)) ≡ o)
    → ((z w : ValueOrError) → FitsKind kind.Bool (binary_of op z w))
    → WideHolds (equality op c d) o env
equality_holds op (plain k a) d x y o env h i p q f =
    on_plain_holds d (λ j b. taken (plain kind.Bool (tree.binary op a b))) y o env i
    (λ j b r. compared op a b (plain_part x) (plain_part y) o env h.means r.means (p k j h.kind r.kind) (f (plain_part x) (plain_part y)))
equality_holds op (guarded k g t) d x y o env h i p q f = two_lists op (guarded k g t) d x y o env h i q f
equality_holds op (listed k l) d x y o env h i p q f = two_lists op (listed k l) d x y o env h i q f

-- ---- binary operators

abbrev Bools : BinaryOperator → Type 0
Bools op = (z w : ValueOrError) → FitsKind kind.Bool (binary_of op z w)

plain_pair : (op : BinaryOperator) (k j : ValueKind) (a b : Tree) (x y : Outcome) (env : Environment) → IsPlain k a x env → IsPlain j b y env
    → IsPlain (binary_kind op k j) (tree.binary op a b) (outcome_of (binary_of op (plain_part x) (plain_part y))) env
unfolding meaning is_variables
plain_pair op k j a b x y env h i =
    plain_holds (binary_kind op k j) (tree.binary op a b) (binary_of op (plain_part x) (plain_part y)) env (λ l. binary_of op (h.means l) (i.means l))
    (kinds_hold.binary op k j (plain_part x) (plain_part y) (part_fits k x h.kind) (part_fits j y i.kind)) refl

-- an operator on two values
on_values_holds : (op : BinaryOperator) (c d : Carried) (x y : Outcome) (env : Environment) → Carries c x env → Carries d y env
    → WideHolds (on_plain c (λ k a. on_plain d (λ j b. taken (plain (binary_kind op k j) (tree.binary op a b))))) (outcome_of (binary_of op (plain_part x) (plain_part y))) env
on_values_holds op c d x y env h i =
    on_plain_holds c (λ k a. on_plain d (λ j b. taken (plain (binary_kind op k j) (tree.binary op a b)))) x (outcome_of (binary_of op (plain_part x) (plain_part y))) env h
    (λ k a r. on_plain_holds d (λ j b. taken (plain (binary_kind op k j) (tree.binary op a b))) y (outcome_of (binary_of op (plain_part x) (plain_part y))) env i
    (λ j b q. plain_pair op k j a b x y env r q))

-- nothing is in an empty list
in_nothing : (c d : Carried) (x y : Outcome) (env : Environment) → Carries c x env → Carries d y env
    → WideHolds (on_plain c (λ k a. on_plain d (λ j b. taken (plain kind.Bool (tree.literal (tree.truth false)))))) (of_value (boolean false)) env
unfolding meaning is_variables
in_nothing c d x y env h i =
    on_plain_holds c (λ k a. on_plain d (λ j b. taken (plain kind.Bool (tree.literal (tree.truth false))))) x (of_value (boolean false)) env h
    (λ k a r. on_plain_holds d (λ j b. taken (plain kind.Bool (tree.literal (tree.truth false)))) y (of_value (boolean false)) env i
    (λ j b q. record { means = refl; kind = refl; free = refl }))

any_kind : (x : ValueOrError) → FitsKind kind.Dyn x
any_kind error = tt
any_kind (value v) = refl

equal_bool : Bools binary.Equal
equal_bool z w = kinds_hold.binary binary.Equal kind.Dyn kind.Dyn z w (any_kind z) (any_kind w)

unequal_bool : Bools binary.NotEqual
unequal_bool z w = kinds_hold.binary binary.NotEqual kind.Dyn kind.Dyn z w (any_kind z) (any_kind w)

pub binary_holds : (e : Bool) (op : BinaryOperator) (c d : Carried) (x y : Outcome) (env : Environment) → Carries c x env → Carries d y env
    → WideHolds (binary_carried e op c d) (binary_in e op x y) env
binary_holds true binary.In c d x y env h i = in_nothing c d x y env h i
binary_holds false binary.In c d x y env h i = on_values_holds binary.In c d x y env h i
binary_holds true binary.Equal c d x y env h i =
    equality_holds binary.Equal c d x y (tested (same x y)) env h i (λ k j f g. equal_same k j x y f g) (λ k j f g. equal_lists k j x y f g) equal_bool
binary_holds true binary.NotEqual c d x y env h i =
    equality_holds binary.NotEqual c d x y (tested (option_map not (same x y))) env h i (λ k j f g. unequal_same k j x y f g) (λ k j f g. unequal_lists k j x y f g) unequal_bool
binary_holds true binary.Or c d x y env h i = on_values_holds binary.Or c d x y env h i
binary_holds true binary.And c d x y env h i = on_values_holds binary.And c d x y env h i
binary_holds true binary.Less c d x y env h i = on_values_holds binary.Less c d x y env h i
binary_holds true binary.LessEqual c d x y env h i = on_values_holds binary.LessEqual c d x y env h i
binary_holds true binary.GreaterEqual c d x y env h i = on_values_holds binary.GreaterEqual c d x y env h i
binary_holds true binary.Greater c d x y env h i = on_values_holds binary.Greater c d x y env h i
binary_holds true binary.Add c d x y env h i = on_values_holds binary.Add c d x y env h i
binary_holds true binary.Subtract c d x y env h i = on_values_holds binary.Subtract c d x y env h i
binary_holds true binary.Multiply c d x y env h i = on_values_holds binary.Multiply c d x y env h i
binary_holds true binary.Divide c d x y env h i = on_values_holds binary.Divide c d x y env h i
binary_holds true binary.Remainder c d x y env h i = on_values_holds binary.Remainder c d x y env h i
binary_holds false binary.Equal c d x y env h i =
    equality_holds binary.Equal c d x y (tested (same x y)) env h i (λ k j f g. equal_same k j x y f g) (λ k j f g. equal_lists k j x y f g) equal_bool
binary_holds false binary.NotEqual c d x y env h i =
    equality_holds binary.NotEqual c d x y (tested (option_map not (same x y))) env h i (λ k j f g. unequal_same k j x y f g) (λ k j f g. unequal_lists k j x y f g) unequal_bool
binary_holds false binary.Or c d x y env h i = on_values_holds binary.Or c d x y env h i
binary_holds false binary.And c d x y env h i = on_values_holds binary.And c d x y env h i
binary_holds false binary.Less c d x y env h i = on_values_holds binary.Less c d x y env h i
binary_holds false binary.LessEqual c d x y env h i = on_values_holds binary.LessEqual c d x y env h i
binary_holds false binary.GreaterEqual c d x y env h i = on_values_holds binary.GreaterEqual c d x y env h i
binary_holds false binary.Greater c d x y env h i = on_values_holds binary.Greater c d x y env h i
binary_holds false binary.Add c d x y env h i = on_values_holds binary.Add c d x y env h i
binary_holds false binary.Subtract c d x y env h i = on_values_holds binary.Subtract c d x y env h i
binary_holds false binary.Multiply c d x y env h i = on_values_holds binary.Multiply c d x y env h i
binary_holds false binary.Divide c d x y env h i = on_values_holds binary.Divide c d x y env h i
binary_holds false binary.Remainder c d x y env h i = on_values_holds binary.Remainder c d x y env h i

-- ---- conditionals

chosen_part : (t : Truth) (x y : Outcome) → chosen t (plain_part x) (plain_part y) error ≡ plain_part (chosen t x y failed)
chosen_part Yes x y = refl
chosen_part No x y = refl
chosen_part Other x y = refl

chosen_list : (t : Truth) (x y : Outcome) → chosen t (list_part x) (list_part y) error ≡ list_part (chosen t x y failed)
chosen_list Yes x y = refl
chosen_list No x y = refl
chosen_list Other x y = refl

-- a value of one of two kinds
pub first_kind : (k j : ValueKind) (x : Outcome) → IsOfKind k x → IsOfKind (joined_kind k j) x
first_kind k j failed h = tt
first_kind k j (of_value v) h = kinds_hold.joined k j (value v) h
first_kind k j absent h = absurd h
first_kind k j (present v) h = absurd h

pub second_kind : (k j : ValueKind) (x : Outcome) → IsOfKind j x → IsOfKind (joined_kind k j) x
second_kind k j failed h = tt
second_kind k j (of_value v) h = kinds_hold.joined_second k j (value v) h
second_kind k j absent h = absurd h
second_kind k j (present v) h = absurd h

pub first_optional : (k j : ValueKind) (x : Outcome) → IsOptionalOf k x → IsOptionalOf (joined_kind k j) x
first_optional k j failed h = tt
first_optional k j absent h = tt
first_optional k j (present v) h = kinds_hold.joined k j (value v) h
first_optional k j (of_value v) h = absurd h

pub second_optional : (k j : ValueKind) (x : Outcome) → IsOptionalOf j x → IsOptionalOf (joined_kind k j) x
second_optional k j failed h = tt
second_optional k j absent h = tt
second_optional k j (present v) h = kinds_hold.joined_second k j (value v) h
second_optional k j (of_value v) h = absurd h

chosen_kind : (t : Truth) (k j : ValueKind) (x y : Outcome) → IsOfKind k x → IsOfKind j y → IsOfKind (joined_kind k j) (chosen t x y failed)
chosen_kind Yes k j x y f g = first_kind k j x f
chosen_kind No k j x y f g = second_kind k j y g
chosen_kind Other k j x y f g = tt

chosen_optional : (t : Truth) (k j : ValueKind) (x y : Outcome) → IsOptionalOf k x → IsOptionalOf j y → IsOptionalOf (joined_kind k j) (chosen t x y failed)
chosen_optional Yes k j x y f g = first_optional k j x f
chosen_optional No k j x y f g = second_optional k j y g
chosen_optional Other k j x y f g = tt

plain_branches : (i k j : ValueKind) (t a b : Tree) (z x y : Outcome) (env : Environment) → IsPlain i t z env → IsPlain k a x env → IsPlain j b y env
    → IsPlain (joined_kind k j) (tree.ternary t a b) (ternary_in z x y) env
unfolding meaning is_variables
plain_branches i k j t a b z x y env c p q = record {
  means = (λ l. ternary_of (c.means l) (p.means l) (q.means l)) ∙ chosen_part (truth (plain_part z)) x y;
  kind = chosen_kind (truth (plain_part z)) k j x y p.kind q.kind;
  free = refl;
}

list_branches : (i k j : ValueKind) (t a b : Tree) (z x y : Outcome) (env : Environment) → IsPlain i t z env → IsListed k a x env → IsListed j b y env
    → IsListed (joined_kind k j) (tree.ternary t a b) (ternary_in z x y) env
unfolding meaning
list_branches i k j t a b z x y env c p q = record {
  list = (λ l. ternary_of (c.means l) (p.list l) (q.list l)) ∙ chosen_list (truth (plain_part z)) x y;
  kind = chosen_optional (truth (plain_part z)) k j x y p.kind q.kind;
}

two_branches : (i : ValueKind) (t : Tree) (c d : Carried) (z x y : Outcome) (env : Environment) → IsPlain i t z env → Carries c x env → Carries d y env
    → WideHolds (on_list OptionalValue c (λ k l. on_list OptionalValue d (λ j m. taken (listed (joined_kind k j) (tree.ternary t l m))))) (ternary_in z x y) env
two_branches i t c d z x y env p q r =
    on_list_holds OptionalValue c (λ k l. on_list OptionalValue d (λ j m. taken (listed (joined_kind k j) (tree.ternary t l m)))) x (ternary_in z x y) env q
    (λ k l f. on_list_holds OptionalValue d (λ j m. taken (listed (joined_kind k j) (tree.ternary t l m))) y (ternary_in z x y) env r
    (λ j m g. list_branches i k j t l m z x y env p f g))

pub ternary_holds : (i : ValueKind) (t : Tree) (c d : Carried) (z x y : Outcome) (env : Environment) → IsPlain i t z env → Carries c x env → Carries d y env
    → WideHolds (ternary_carried t c d) (ternary_in z x y) env
ternary_holds i t (plain k a) d z x y env p q r =
    on_plain_holds d (λ j b. taken (plain (joined_kind k j) (tree.ternary t a b))) y (ternary_in z x y) env r (λ j b f. plain_branches i k j t a b z x y env p q f)
ternary_holds i t (guarded k g v) d z x y env p q r = two_branches i t (guarded k g v) d z x y env p q r
ternary_holds i t (listed k l) d z x y env p q r = two_branches i t (listed k l) d z x y env p q r

-- ---- literals

list_kind : (vs : Option (List Value)) → FitsKind kind.List (list_or_error vs)
list_kind (Some vs) = refl
list_kind None = tt

-- the list of the trees is the list of these values
abbrev pub PartsHold : Parts → Option (List Value) → Environment → Type 0
PartsHold (parts ts u) vs env = meaning (joined_tree ts u) env ≡ list_or_error vs
PartsHold (no_parts e) vs env = ⊤

-- a list with one more item
abbrev cons_list : ValueOrError → ValueOrError → ValueOrError
cons_list (value v) (value (list is)) = value (list (item v is))
cons_list _ _ = error

cons_values : (x : ValueOrError) (vs : Option (List Value)) → list_or_error (with_value x vs) ≡ cons_list x (list_or_error vs)
cons_values error vs = refl
cons_values (value v) None = refl
cons_values (value v) (Some vs) = refl

sum_one : (x y : ValueOrError) → sum_of (list_literal (x ∷ [])) y ≡ cons_list x y
sum_one error y = refl
sum_one (value v) error = refl
sum_one (value v) (value (list is)) = refl
sum_one (value v) (value null) = refl
sum_one (value v) (value (boolean b)) = refl
sum_one (value v) (value (int z)) = refl
sum_one (value v) (value (text s)) = refl
sum_one (value v) (value (map es)) = refl

sum_more : (x : ValueOrError) (o : Option (List Value)) (y : ValueOrError) → sum_of (list_or_error (with_value x o)) y ≡ cons_list x (sum_of (list_or_error o) y)
sum_more error o y = refl
sum_more (value v) None y = refl
sum_more (value v) (Some vs) error = refl
sum_more (value v) (Some vs) (value (list is)) = refl
sum_more (value v) (Some vs) (value null) = refl
sum_more (value v) (Some vs) (value (boolean b)) = refl
sum_more (value v) (Some vs) (value (int z)) = refl
sum_more (value v) (Some vs) (value (text s)) = refl
sum_more (value v) (Some vs) (value (map es)) = refl

plain_step : (t : Tree) (ts : Trees) (u : Option (Tree × Tree)) (env : Environment)
    → meaning (joined_tree (more_trees t ts) u) env ≡ cons_list (meaning t env) (meaning (joined_tree ts u) env)
unfolding meaning meanings
plain_step t no_trees None env = cons_values (meaning t env) (Some [])
plain_step t (more_trees a ts) None env = cons_values (meaning t env) (values_in (meanings (more_trees a ts) env))
plain_step t no_trees (Some p) env = sum_one (meaning t env) (sum_of (meaning p.0 env) (meaning p.1 env))
plain_step t (more_trees a ts) (Some p) env = sum_more (meaning t env) (values_in (meanings (more_trees a ts) env)) (sum_of (meaning p.0 env) (meaning p.1 env))

optional_values : (k : ValueKind) (x : Outcome) (vs : Option (List Value)) → IsOptionalOf k x → sum_of (list_part x) (list_or_error vs) ≡ list_or_error (item_in Optional x vs)
optional_values k failed vs h = refl
optional_values k absent None h = refl
optional_values k absent (Some vs) h = refl
optional_values k (present v) None h = refl
optional_values k (present v) (Some vs) h = refl
optional_values k (of_value v) vs h = absurd h

list_step : (k : ValueKind) (l : Tree) (ts : Trees) (u : Option (Tree × Tree)) (x : Outcome) (vs : Option (List Value)) (env : Environment) → meaning l env ≡ list_part x → IsOptionalOf k x
    → meaning (joined_tree ts u) env ≡ list_or_error vs → meaning (joined_tree no_trees (Some (l, joined_tree ts u))) env ≡ list_or_error (item_in Optional x vs)
unfolding meaning
list_step k l ts u x vs env h i p = (λ j. sum_of (h j) (p j)) ∙ optional_values k x vs i

pub part_more : (o : Access) (t : Translation) (ps : Parts) (x : Outcome) (vs : Option (List Value)) (env : Environment) → WideHolds t x env → PartsHold ps vs env
    → PartsHold (one_more o t ps) (item_in o x vs) env
part_more Plain (taken (plain k t)) (parts ts u) x vs env h p =
    plain_step t ts u env ∙ (λ j. cons_list (h.means j) (p j)) ∙ sym (cons_values (plain_part x) vs)
part_more Plain (taken (plain k t)) (no_parts e) x vs env h p = tt
part_more Plain (taken (guarded k g v)) ps x vs env h p = tt
part_more Plain (taken (listed k l)) ps x vs env h p = tt
part_more Plain (refused e) ps x vs env h p = tt
part_more Optional (refused e) ps x vs env h p = tt
part_more Optional (taken (plain k t)) ps x vs env h p = tt
part_more Optional (taken (guarded k g v)) (parts ts u) x vs env h p = list_step k (guarded_tree g v) ts u x vs env (guarded_means g v x env h.guard h.value) h.kind p
part_more Optional (taken (guarded k g v)) (no_parts e) x vs env h p = tt
part_more Optional (taken (listed k l)) (parts ts u) x vs env h p = list_step k l ts u x vs env h.list h.kind p
part_more Optional (taken (listed k l)) (no_parts e) x vs env h p = tt

joined_free : (ts : Trees) (u : Option (Tree × Tree)) → is_variables (joined_tree ts u) ≡ false
unfolding is_variables
joined_free no_trees (Some p) = refl
joined_free (more_trees t ts) (Some p) = refl
joined_free no_trees None = refl
joined_free (more_trees t ts) None = refl

pub list_translated : (ps : Parts) (vs : Option (List Value)) (env : Environment) → PartsHold ps vs env → WideHolds (list_translation ps) (list_in vs) env
list_translated (parts ts u) vs env p = plain_holds kind.List (joined_tree ts u) (list_or_error vs) env p (list_kind vs) (joined_free ts u)
list_translated (no_parts e) vs env p = tt
