-- Indices with a question mark that are int literals.
use Rattle.std.proofs.Common.{◌≡◌, ℕ, ◌<◌, ◌≤◌, Bool, true, false, List, length, Option, Some, None, is_some, pos}
use Rattle.std.proofs.Common.{slice_get, get_or, inl, inr, ◌⊎◌, int_lt, refl, ap, sym, ◌∙◌, subst, arith}
use Rattle.std.proofs.lemmas.Option.{slice_get_cases}
use Rattle.cel_reader.specs.Tree.{Tree}
use Rattle.value_store.specs.Value.{Value, ValueOrError, error, value, null, boolean, int, text, list, map, Items}
use Rattle.value_store.specs.Value.{no_items, item, items_join, list_of}
use Rattle.cel_macros.specs.Arithmetic.{sum_of}
use Rattle.cel_macros.specs.Comparison.{equal_of, less_of}
use Rattle.cel_macros.specs.Environment.{Environment, bind, value_or_error}
use Rattle.cel_macros.specs.Functions.{size_of}
unfoldable use Rattle.cel_macros.specs.Functions.{function_named}
use Rattle.cel_macros.specs.Logic.{ternary_of}
unfoldable use Rattle.cel_macros.specs.Macros.{is_variables, is_has}
use Rattle.cel_macros.specs.Selection.{index_of}
unfoldable use Rattle.cel_macros.specs.Meaning.{meaning, meanings}
use Rattle.wide_reader.specs.declared.wide.Access.{Access, TheVariants.Plain, TheVariants.Optional}
use Rattle.wide_meaning.specs.Access.{at, index_in}
use Rattle.wide_meaning.specs.Outcome.{Outcome, failed, plain as of_value, absent, present, optional_of, plain_part}
use Rattle.wide_kinds.specs.declared.kind.ValueKind.{ValueKind}
use Rattle.wide_kinds.specs.declared.kind.ValueKind.TheVariants as kind
use Rattle.wide_kinds.specs.Fitting.{IsOfKind, IsOptionalOf}
use Rattle.wide_translation.specs.Carried.{Carried, plain, guarded, listed}
use Rattle.wide_translation.specs.Forms.{held, flat_tree, guarded_tree, is_simple, is_below_tree, present_item_tree, item_tree}
use Rattle.wide_translation.specs.Forms.{item_list_tree}
use Rattle.wide_translation.specs.Holds.{guard_part, value_part, list_part, IsListed, Carries}
use Rattle.wide_translation.specs.Names.{held_name}
use Rattle.wide_translation.specs.Translated.{present_item_of, optional_item, item_of_list, item_carried}
use Rattle.wide_translation.proofs.Steps.{MeansBy, let_held, held_is, held_is_no_variables, guarded_means, after}
use Rattle.wide_translation.proofs.Steps.{flat_holds}

-- the item n of a value or the error as an optional value
abbrev item_outcome : ValueOrError → ℕ → Outcome
item_outcome error n = failed
item_outcome (value v) n = at v (int (pos n))

pub join_nothing : (is : Items) → items_join is no_items ≡ is
join_nothing no_items = refl
join_nothing (item v more) = ap (item v) (join_nothing more)

below : (n m : ℕ) → n < m → int_lt (pos n) (pos m) ≡ true
below n m h = grind (arith, h)

pub not_below : (n m : ℕ) → m ≤ n → int_lt (pos n) (pos m) ≡ false
not_below n m h = grind (arith, h)

inside_by : (xs : List Value) (n : ℕ)
    → (((x : Value) × (n < length xs) × (slice_get xs n ≡ Some x) × (get_or xs n x ≡ x)) ⊎ ((length xs ≤ n) × (slice_get xs n ≡ None)))
    → int_lt (pos n) (pos (length xs)) ≡ is_some (slice_get xs n)
inside_by xs n (inl found) = below n (length xs) found.1 ∙ sym (ap is_some found.2)
inside_by xs n (inr past) = not_below n (length xs) past.0 ∙ sym (ap is_some past.1)

pub inside : (xs : List Value) (n : ℕ) → int_lt (pos n) (pos (length xs)) ≡ is_some (slice_get xs n)
inside xs n = inside_by xs n (slice_get_cases xs n).1

pub guard_of_option : (o : Option Value) → guard_part (optional_of o) ≡ value (boolean (is_some o))
guard_of_option None = refl
guard_of_option (Some v) = refl

pub value_of_option : (o : Option Value) → value_or_error o ≡ value_part (optional_of o)
value_of_option None = refl
value_of_option (Some v) = refl

present_item : (x : ValueOrError) (n : ℕ)
    → ternary_of (equal_of x (value null)) (value (boolean false)) (less_of (value (int (pos n))) (size_of (sum_of x (value (list no_items))))) ≡ guard_part (item_outcome x n)
present_item error n = refl
present_item (value null) n = refl
present_item (value (boolean b)) n = refl
present_item (value (int z)) n = refl
present_item (value (text s)) n = refl
present_item (value (map es)) n = refl
present_item (value (list is)) n =
    ap (λ js. value (boolean (int_lt (pos n) (pos (length (list_of js)))))) (join_nothing is)
    ∙ ap (λ b. value (boolean b)) (inside (list_of is) n)
    ∙ sym (guard_of_option (slice_get (list_of is) n))

present_item_means : (a : Tree) (n : ℕ) (env : Environment) → meaning (present_item_tree a n) env ≡ guard_part (item_outcome (meaning a env) n)
unfolding meaning meanings is_has function_named
present_item_means a n env = present_item (meaning a env) n

item_value : (x : ValueOrError) (n : ℕ) → index_of x (value (int (pos n))) ≡ value_part (item_outcome x n)
item_value error n = refl
item_value (value (list is)) n = value_of_option (slice_get (list_of is) n)
item_value (value null) n = refl
item_value (value (boolean b)) n = refl
item_value (value (int z)) n = refl
item_value (value (text s)) n = refl
item_value (value (map es)) n = refl

item_means : (a : Tree) (n : ℕ) (env : Environment) → meaning (item_tree a n) env ≡ value_part (item_outcome (meaning a env) n)
unfolding meaning
item_means a n env = item_value (meaning a env) n

item_list_means : (n : ℕ) → MeansBy (λ a. item_list_tree a n) (λ x. list_part (item_outcome x n))
item_list_means n a env h = guarded_means (present_item_tree a n) (item_tree a n) (item_outcome (meaning a env) n) env (present_item_means a n env) (item_means a n env)

item_list_held : (n : ℕ) (v : Value) (env : Environment) → meaning (item_list_tree held n) (bind held_name v env) ≡ list_part (at v (int (pos n)))
item_list_held n v env = item_list_means n held (bind held_name v env) held_is_no_variables ∙ ap (λ x. list_part (item_outcome x n)) (held_is v env)

pub option_kind : (o : Option Value) → IsOptionalOf kind.Dyn (optional_of o)
option_kind (Some v) = refl
option_kind None = tt

at_kind : (v : Value) (n : ℕ) → IsOptionalOf kind.Dyn (at v (int (pos n)))
at_kind null n = tt
at_kind (boolean b) n = tt
at_kind (int z) n = tt
at_kind (text s) n = tt
at_kind (map es) n = tt
at_kind (list is) n = option_kind (slice_get (list_of is) n)

item_kind : (x : ValueOrError) (n : ℕ) → IsOptionalOf kind.Dyn (item_outcome x n)
item_kind error n = tt
item_kind (value v) n = at_kind v n

-- a value that is known to be a list has the item; the error stays
is_below : (a : Tree) (n : ℕ) (env : Environment) → meaning (is_below_tree a n) env ≡ less_of (value (int (pos n))) (size_of (sum_of (meaning a env) (value (list no_items))))
unfolding meaning meanings is_has function_named
is_below a n env = refl

list_has : (x : Outcome) (n : ℕ) → IsOfKind kind.List x → less_of (value (int (pos n))) (size_of (sum_of (plain_part x) (value (list no_items)))) ≡ guard_part (item_outcome (plain_part x) n)
list_has failed n h = refl
list_has (of_value (list is)) n h = present_item (value (list is)) n
list_has (of_value null) n h = absurd (cc)
list_has (of_value (boolean b)) n h = absurd (cc)
list_has (of_value (int z)) n h = absurd (cc)
list_has (of_value (text s)) n h = absurd (cc)
list_has (of_value (map es)) n h = absurd (cc)
list_has absent n h = absurd h
list_has (present v) n h = absurd h

present_again : (a : Tree) (n : ℕ) (x : Outcome) (env : Environment) → meaning a env ≡ plain_part x
    → meaning (present_item_tree a n) env ≡ guard_part (item_outcome (plain_part x) n)
present_again a n x env m = present_item_means a n env ∙ ap (λ z. guard_part (item_outcome z n)) m

present_item_of_means : (k : ValueKind) (a : Tree) (n : ℕ) (x : Outcome) (env : Environment) → IsOfKind k x → meaning a env ≡ plain_part x
    → meaning (present_item_of k a n) env ≡ guard_part (item_outcome (plain_part x) n)
present_item_of_means kind.List a n x env h m =
    is_below a n env ∙ ap (λ y. less_of (value (int (pos n))) (size_of (sum_of y (value (list no_items))))) m ∙ list_has x n h
present_item_of_means kind.Null a n x env h m = present_again a n x env m
present_item_of_means kind.Bool a n x env h m = present_again a n x env m
present_item_of_means kind.Int a n x env h m = present_again a n x env m
present_item_of_means kind.String a n x env h m = present_again a n x env m
present_item_of_means kind.Map a n x env h m = present_again a n x env m
present_item_of_means kind.Dyn a n x env h m = present_again a n x env m

present_item_of_free : (k : ValueKind) (a : Tree) (n : ℕ) → is_variables (present_item_of k a n) ≡ false
unfolding is_variables
present_item_of_free kind.List a n = refl
present_item_of_free kind.Null a n = refl
present_item_of_free kind.Bool a n = refl
present_item_of_free kind.Int a n = refl
present_item_of_free kind.String a n = refl
present_item_of_free kind.Map a n = refl
present_item_of_free kind.Dyn a n = refl

-- the item of a value
item_by : (b : Bool) (k : ValueKind) (t : Tree) (x : Outcome) (n : ℕ) (env : Environment) → IsOfKind k x → meaning t env ≡ plain_part x
    → Carries (optional_item b k t n) (item_outcome (plain_part x) n) env
unfolding is_variables
item_by true k t x n env h m = record {
  guard = present_item_of_means k t n x env h m;
  value = item_means t n env ∙ ap (λ z. value_part (item_outcome z n)) m;
  kind = item_kind (plain_part x) n;
  free = refl;
  guard_free = present_item_of_free k t n;
}
item_by false k t x n env h m = record {
  list = let_held (λ a. item_list_tree a n) (λ z. list_part (item_outcome z n)) t env (item_list_means n) refl ∙ ap (λ z. list_part (item_outcome z n)) m;
  kind = item_kind (plain_part x) n;
}

plain_same : (k : ValueKind) (x : Outcome) (n : ℕ) → IsOfKind k x → item_outcome (plain_part x) n ≡ index_in Optional x (of_value (int (pos n)))
plain_same k failed n h = refl
plain_same k (of_value v) n h = refl
plain_same k absent n h = absurd h
plain_same k (present v) n h = absurd h

-- the item of an optional value
list_same : (o : Access) (k : ValueKind) (x : Outcome) (n : ℕ) → IsOptionalOf k x → index_in o x (of_value (int (pos n))) ≡ after (λ v. at v (int (pos n))) x
list_same o k failed n h = refl
list_same o k absent n h = refl
list_same o k (present v) n h = refl
list_same o k (of_value v) n h = absurd h

after_kind : (k : ValueKind) (x : Outcome) (n : ℕ) → IsOptionalOf k x → IsOptionalOf kind.Dyn (after (λ v. at v (int (pos n))) x)
after_kind k failed n h = tt
after_kind k absent n h = tt
after_kind k (present v) n h = at_kind v n
after_kind k (of_value v) n h = absurd h

list_item : (o : Access) (k : ValueKind) (l : Tree) (x : Outcome) (n : ℕ) (env : Environment) → IsListed k l x env → Carries (item_of_list l n) (index_in o x (of_value (int (pos n)))) env
list_item o k l x n env h =
    subst (λ (y : Outcome). IsListed kind.Dyn (flat_tree held_name l (item_list_tree held n)) y env) (sym (list_same o k x n h.kind))
    (record {
      list = flat_holds held_name l (item_list_tree held n) (λ v. at v (int (pos n))) x env h.list (λ v. item_list_held n v env);
      kind = after_kind k x n h.kind;
    })

-- the item of an operand, but for `e[n]` of a value
pub item_holds : (n : ℕ) (c : Carried) (x : Outcome) (env : Environment) → Carries c x env → Carries (item_carried n c) (index_in Optional x (of_value (int (pos n)))) env
item_holds n (plain k t) x env h =
    subst (λ (y : Outcome). Carries (optional_item (is_simple t) k t n) y env) (plain_same k x n h.kind) (item_by (is_simple t) k t x n env h.kind h.means)
item_holds n (guarded k g t) x env h = list_item Optional k (guarded_tree g t) x n env (record { list = guarded_means g t x env h.guard h.value; kind = h.kind })
item_holds n (listed k l) x env h = list_item Optional k l x n env h

pub item_of_optional : (n : ℕ) (k : ValueKind) (l : Tree) (x : Outcome) (env : Environment) → IsListed k l x env → Carries (item_of_list l n) (index_in Plain x (of_value (int (pos n)))) env
item_of_optional n k l x env h = list_item Plain k l x n env h
