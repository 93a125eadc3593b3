-- Indices that are computed.
use Rattle.std.proofs.Common.{◌≡◌, ℕ, Bool, true, false, ◌&&◌, List, codes, if◌then◌else◌, refl, ap, sym, ◌∙◌, subst}
use Rattle.cel_reader.specs.Tree as tree
use Rattle.cel_reader.specs.Tree.{Tree}
use Rattle.cel_reader.specs.declared.operator.BinaryOperator.{TheVariants.NotEqual}
use Rattle.value_store.specs.Value.{Value, ValueOrError, error, value, null}
use Rattle.cel_macros.specs.Comparison.{equal_of, member_of}
use Rattle.cel_macros.specs.Environment.{Environment, bind}
unfoldable use Rattle.cel_macros.specs.Functions.{function_named}
use Rattle.cel_macros.specs.Logic.{ternary_of}
unfoldable use Rattle.cel_macros.specs.Macros.{is_variables, is_has}
use Rattle.cel_macros.specs.Selection.{index_of}
unfoldable use Rattle.cel_macros.specs.Meaning.{meaning, operand_meaning, meanings}
use Rattle.wide_reader.specs.declared.wide.Access.{Access, TheVariants.Optional}
use Rattle.wide_meaning.specs.Access.{index_in}
use Rattle.wide_meaning.specs.Outcome.{Outcome, failed, plain as of_value, absent, present, plain_part}
use Rattle.wide_kinds.specs.declared.kind.ValueKind.{ValueKind}
use Rattle.wide_kinds.specs.declared.kind.ValueKind.TheVariants as kind
use Rattle.wide_kinds.specs.Fitting.{FitsKind, IsOfKind, IsOptionalOf}
use Rattle.wide_translation.specs.Carried.{plain}
use Rattle.wide_translation.specs.ComputedIndices.{inside_tree, any_key_tree, found_tree, no_key_tree, present_key_tree}
use Rattle.wide_translation.specs.ComputedIndices.{key_list_tree, key_once_tree, optional_key, key_of_list, key_carried}
use Rattle.wide_translation.specs.Forms.{call_tree, let_tree, held, flat_tree, is_simple}
use Rattle.wide_translation.specs.Holds.{guard_part, value_part, list_part, IsPlain, IsListed, Carries}
use Rattle.wide_translation.specs.Indexed.{ForPresent}
use Rattle.wide_translation.specs.Lists.{second}
use Rattle.wide_translation.specs.Names.{held_name, second_name}
use Rattle.wide_translation.proofs.Environments.{this_name, other_name}
use Rattle.wide_translation.proofs.FieldsHold.{part_fits}
use Rattle.wide_translation.proofs.KeyValues.{key_outcome, inside_of, found_of, map_has, list_has, any_has, null_has, its_value}
use Rattle.wide_translation.proofs.KeyValues.{key_kind}
use Rattle.wide_translation.proofs.PairForms.{is_list, is_list_is}
use Rattle.wide_translation.proofs.Steps.{on_value, let_means, held_is, guarded_means, after, flat_for}

-- ---- whether there is an item or an entry

inside_means : (a k : Tree) (env : Environment) → meaning (inside_tree a k) env ≡ inside_of (meaning a env) (meaning k env)
unfolding meaning meanings is_has function_named
inside_means a k env = refl

any_key_means : (a k : Tree) (env : Environment)
    → meaning (any_key_tree a k) env ≡ ternary_of (is_list (meaning a env)) (inside_of (meaning a env) (meaning k env)) (member_of (meaning k env) (meaning a env))
unfolding meaning
any_key_means a k env = λ l. ternary_of (is_list_is a env l) (inside_means a k env l) (member_of (meaning k env) (meaning a env))

found_means : (j : ValueKind) (a k : Tree) (env : Environment) → meaning (found_tree j a k) env ≡ found_of j (meaning a env) (meaning k env)
unfolding meaning operand_meaning meanings is_has function_named
found_means kind.String a k env = refl
found_means kind.Int a k env = refl
found_means kind.Null a k env = any_key_means a k env
found_means kind.Bool a k env = any_key_means a k env
found_means kind.List a k env = any_key_means a k env
found_means kind.Map a k env = any_key_means a k env
found_means kind.Dyn a k env = any_key_means a k env

not_itself : (k : Tree) (env : Environment)
    → meaning (tree.binary NotEqual (call_tree (codes "string") k) (call_tree (codes "string") k)) env ≡ guard_part (key_outcome (value null) (meaning k env))
unfolding meaning meanings is_has function_named
not_itself k env = null_has (meaning k env)

no_key_means : (k : Tree) (env : Environment) → meaning (no_key_tree k) env ≡ guard_part (key_outcome (value null) (meaning k env))
unfolding meaning
no_key_means (tree.literal (tree.int z)) env = refl
no_key_means (tree.literal (tree.text s)) env = not_itself (tree.literal (tree.text s)) env
no_key_means (tree.literal (tree.truth b)) env = not_itself (tree.literal (tree.truth b)) env
no_key_means (tree.literal tree.null) env = not_itself (tree.literal tree.null) env
no_key_means (tree.name n) env = not_itself (tree.name n) env
no_key_means (tree.select a f) env = not_itself (tree.select a f) env
no_key_means (tree.index a b) env = not_itself (tree.index a b) env
no_key_means (tree.call n es) env = not_itself (tree.call n es) env
no_key_means (tree.method a n es) env = not_itself (tree.method a n es) env
no_key_means (tree.unary op a) env = not_itself (tree.unary op a) env
no_key_means (tree.binary op a b) env = not_itself (tree.binary op a b) env
no_key_means (tree.ternary a b c) env = not_itself (tree.ternary a b c) env
no_key_means (tree.list es) env = not_itself (tree.list es) env
no_key_means (tree.map es) env = not_itself (tree.map es) env

-- the operands of an index mean these values
module _ (i j : ValueKind) (y : ValueOrError) (f : FitsKind j y) where
  any_present : (a k : Tree) (x : ValueOrError) (env : Environment) → meaning a env ≡ x → meaning k env ≡ y
      → ternary_of (equal_of (meaning a env) (value null)) (meaning (no_key_tree k) env) (meaning (found_tree j a k) env) ≡ guard_part (key_outcome x y)
  any_present a k x env ha hk =
      (λ l. ternary_of (equal_of (ha l) (value null)) (meaning (no_key_tree k) env) ((found_means j a k env ∙ (λ n. found_of j (ha n) (hk n))) l))
      ∙ any_has j x y (meaning (no_key_tree k) env) f (no_key_means k env ∙ ap (λ z. guard_part (key_outcome (value null) z)) hk)

present_key_means : (i j : ValueKind) (a k : Tree) (x y : ValueOrError) (env : Environment) → meaning a env ≡ x → meaning k env ≡ y → FitsKind i x → FitsKind j y
    → meaning (present_key_tree i j a k) env ≡ guard_part (key_outcome x y)
unfolding meaning
present_key_means kind.Map j a k x y env ha hk g f = (λ l. member_of (hk l) (ha l)) ∙ map_has x y g
present_key_means kind.List j a k x y env ha hk g f = inside_means a k env ∙ (λ l. inside_of (ha l) (hk l)) ∙ list_has x y g
present_key_means kind.Null j a k x y env ha hk g f = any_present kind.Null j y f a k x env ha hk
present_key_means kind.Bool j a k x y env ha hk g f = any_present kind.Bool j y f a k x env ha hk
present_key_means kind.Int j a k x y env ha hk g f = any_present kind.Int j y f a k x env ha hk
present_key_means kind.String j a k x y env ha hk g f = any_present kind.String j y f a k x env ha hk
present_key_means kind.Dyn j a k x y env ha hk g f = any_present kind.Dyn j y f a k x env ha hk

present_key_free : (i j : ValueKind) (a k : Tree) → is_variables (present_key_tree i j a k) ≡ false
unfolding is_variables
present_key_free kind.Map j a k = refl
present_key_free kind.List j a k = refl
present_key_free kind.Null j a k = refl
present_key_free kind.Bool j a k = refl
present_key_free kind.Int j a k = refl
present_key_free kind.String j a k = refl
present_key_free kind.Dyn j a k = refl

-- ---- the item or entry

at_means : (a k : Tree) (x y : ValueOrError) (env : Environment) → meaning a env ≡ x → meaning k env ≡ y → meaning (tree.index a k) env ≡ value_part (key_outcome x y)
unfolding meaning
at_means a k x y env ha hk = (λ l. index_of (ha l) (hk l)) ∙ its_value x y

key_list_means : (i j : ValueKind) (a k : Tree) (x y : ValueOrError) (env : Environment) → meaning a env ≡ x → meaning k env ≡ y → FitsKind i x → FitsKind j y
    → meaning (key_list_tree i j a k) env ≡ list_part (key_outcome x y)
key_list_means i j a k x y env ha hk g f =
    guarded_means (present_key_tree i j a k) (tree.index a k) (key_outcome x y) env (present_key_means i j a k x y env ha hk g f) (at_means a k x y env ha hk)

second_is : (w : Value) (env : Environment) → meaning second (bind second_name w env) ≡ value w
unfolding meaning
second_is w env = this_name second_name w env

held_under_second : (v w : Value) (env : Environment) → meaning held (bind second_name w (bind held_name v env)) ≡ value v
unfolding meaning
held_under_second v w env = other_name second_name held_name w (bind held_name v env) refl ∙ held_is v env

without_key : (x : ValueOrError) → error ≡ list_part (key_outcome x error)
without_key error = refl
without_key (value v) = refl

-- The first operand means the same where the second name of the translation has a value.
second_bound : (i j : ValueKind) (a : Tree) (x y : ValueOrError) (env : Environment) → ((w : Value) → meaning a (bind second_name w env) ≡ x) → FitsKind i x → FitsKind j y
    → on_value (λ w. meaning (key_list_tree i j a second) (bind second_name w env)) y ≡ list_part (key_outcome x y)
second_bound i j a x error env ha g f = without_key x
second_bound i j a x (value w) env ha g f = key_list_means i j a second x (value w) (bind second_name w env) (ha w) (second_is w env) g f

key_once_by : (b : Bool) (i j : ValueKind) (a k : Tree) (x y : ValueOrError) (env : Environment) → meaning a env ≡ x → ((w : Value) → meaning a (bind second_name w env) ≡ x)
    → meaning k env ≡ y → FitsKind i x → FitsKind j y
    → meaning (if b then key_list_tree i j a k else let_tree second_name k (key_list_tree i j a second)) env ≡ list_part (key_outcome x y)
key_once_by true i j a k x y env ha hs hk g f = key_list_means i j a k x y env ha hk g f
key_once_by false i j a k x y env ha hs hk g f =
    let_means second_name k (key_list_tree i j a second) env
    ∙ ap (on_value (λ w. meaning (key_list_tree i j a second) (bind second_name w env))) hk
    ∙ second_bound i j a x y env hs g f

key_once_means : (i j : ValueKind) (a k : Tree) (x y : ValueOrError) (env : Environment) → meaning a env ≡ x → ((w : Value) → meaning a (bind second_name w env) ≡ x)
    → meaning k env ≡ y → FitsKind i x → FitsKind j y → meaning (key_once_tree i j a k) env ≡ list_part (key_outcome x y)
key_once_means i j a k x y env ha hs hk g f = key_once_by (is_simple k) i j a k x y env ha hs hk g f

-- the index means the same where the first name of the translation has a value
held_key : (i j : ValueKind) (k : Tree) (v : Value) (y : ValueOrError) (env : Environment) → meaning k (bind held_name v env) ≡ y → FitsKind i (value v) → FitsKind j y
    → meaning (key_once_tree i j held k) (bind held_name v env) ≡ list_part (key_outcome (value v) y)
held_key i j k v y env hk g f = key_once_means i j held k (value v) y (bind held_name v env) (held_is v env) (λ w. held_under_second v w env) hk g f

held_bound : (i j : ValueKind) (k : Tree) (x y : ValueOrError) (env : Environment) → ((v : Value) → meaning k (bind held_name v env) ≡ y) → FitsKind i x → FitsKind j y
    → on_value (λ v. meaning (key_once_tree i j held k) (bind held_name v env)) x ≡ list_part (key_outcome x y)
held_bound i j k error y env hk g f = refl
held_bound i j k (value v) y env hk g f = held_key i j k v y env (hk v) g f

both_once : (b : Bool) (i j : ValueKind) (a k : Tree) (x y : ValueOrError) (env : Environment) → meaning a env ≡ x → ((w : Value) → meaning a (bind second_name w env) ≡ x)
    → meaning k env ≡ y → ((v : Value) → meaning k (bind held_name v env) ≡ y) → FitsKind i x → FitsKind j y
    → meaning (if b then key_once_tree i j a k else let_tree held_name a (key_once_tree i j held k)) env ≡ list_part (key_outcome x y)
both_once true i j a k x y env ha hs hk hh g f = key_once_means i j a k x y env ha hs hk g f
both_once false i j a k x y env ha hs hk hh g f =
    let_means held_name a (key_once_tree i j held k) env
    ∙ ap (on_value (λ v. meaning (key_once_tree i j held k) (bind held_name v env))) ha
    ∙ held_bound i j k x y env hh g f

-- ---- the trees carry it

-- an operand means its value also where a name of the translation has one
abbrev pub Stays : List ℕ → ValueKind → Tree → Outcome → Environment → Type 0
Stays n k t x env = (v : Value) → IsPlain k t x (bind n v env)

-- the item or entry of a value
of_value_by : (b : Bool) (i j : ValueKind) (a k : Tree) (x y : Outcome) (env : Environment) → IsPlain i a x env → Stays second_name i a x env → IsPlain j k y env → Stays held_name j k y env
    → Carries (optional_key b i j a k) (key_outcome (plain_part x) (plain_part y)) env
unfolding is_variables
of_value_by true i j a k x y env h s g r = record {
  guard = present_key_means i j a k (plain_part x) (plain_part y) env h.means g.means (part_fits i x h.kind) (part_fits j y g.kind);
  value = at_means a k (plain_part x) (plain_part y) env h.means g.means;
  kind = key_kind (plain_part x) (plain_part y);
  free = refl;
  guard_free = present_key_free i j a k;
}
of_value_by false i j a k x y env h s g r = record {
  list = both_once (is_simple a) i j a k (plain_part x) (plain_part y) env h.means (λ w. (s w).means) g.means (λ v. (r v).means) (part_fits i x h.kind) (part_fits j y g.kind);
  kind = key_kind (plain_part x) (plain_part y);
}

value_same : (i j : ValueKind) (x y : Outcome) → IsOfKind i x → IsOfKind j y → key_outcome (plain_part x) (plain_part y) ≡ index_in Optional x y
value_same i j failed y h g = refl
value_same i j (of_value v) failed h g = refl
value_same i j (of_value v) (of_value w) h g = refl
value_same i j (of_value v) absent h g = absurd g
value_same i j (of_value v) (present w) h g = absurd g
value_same i j absent y h g = absurd h
value_same i j (present v) y h g = absurd h

pub value_key_holds : (i j : ValueKind) (a k : Tree) (x y : Outcome) (env : Environment) → IsPlain i a x env → Stays second_name i a x env → IsPlain j k y env → Stays held_name j k y env
    → Carries (key_carried (plain i a) j k) (index_in Optional x y) env
value_key_holds i j a k x y env h s g r =
    subst (λ (z : Outcome). Carries (optional_key (is_simple a && is_simple k) i j a k) z env) (value_same i j x y h.kind g.kind)
    (of_value_by (is_simple a && is_simple k) i j a k x y env h s g r)

-- the item or entry of the value of an optional value
list_same : (o : Access) (i j : ValueKind) (x y : Outcome) → IsOptionalOf i x → IsOfKind j y → index_in o x y ≡ after (λ v. key_outcome (value v) (plain_part y)) x
list_same o i j failed y h g = refl
list_same o i j absent y h g = refl
list_same o i j (present v) failed h g = refl
list_same o i j (present v) (of_value w) h g = refl
list_same o i j (present v) absent h g = absurd g
list_same o i j (present v) (present w) h g = absurd g
list_same o i j (of_value v) y h g = absurd h

after_kind : (i : ValueKind) (x : Outcome) (y : ValueOrError) → IsOptionalOf i x → IsOptionalOf kind.Dyn (after (λ v. key_outcome (value v) y) x)
after_kind i failed y h = tt
after_kind i absent y h = tt
after_kind i (present v) y h = key_kind (value v) y
after_kind i (of_value v) y h = absurd h

held_present : (i j : ValueKind) (k : Tree) (x : Outcome) (y : ValueOrError) (env : Environment) → IsOptionalOf i x → ((v : Value) → meaning k (bind held_name v env) ≡ y) → FitsKind j y
    → ForPresent (λ v. meaning (key_once_tree i j held k) (bind held_name v env) ≡ list_part (key_outcome (value v) y)) x
held_present i j k failed y env h hk f = tt
held_present i j k absent y env h hk f = tt
held_present i j k (present v) y env h hk f = held_key i j k v y env (hk v) h f
held_present i j k (of_value v) y env h hk f = absurd h

pub list_key_holds : (o : Access) (i j : ValueKind) (l k : Tree) (x y : Outcome) (env : Environment) → IsListed i l x env → IsPlain j k y env → Stays held_name j k y env
    → Carries (key_of_list i j l k) (index_in o x y) env
list_key_holds o i j l k x y env h g r =
    subst (λ (z : Outcome). IsListed kind.Dyn (flat_tree held_name l (key_once_tree i j held k)) z env) (sym (list_same o i j x y h.kind g.kind))
    (record {
      list = flat_for held_name l (key_once_tree i j held k) (λ v. key_outcome (value v) (plain_part y)) x env h.list
          (held_present i j k x (plain_part y) env h.kind (λ v. (r v).means) (part_fits j y g.kind));
      kind = after_kind i x (plain_part y) h.kind;
    })
