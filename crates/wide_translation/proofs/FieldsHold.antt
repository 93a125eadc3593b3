-- Names, fields, and whether a field is there.
use Rattle.std.proofs.Common.{◌≡◌, ℕ, Bool, true, false, List, Option, Some, None, if◌then◌else◌, is_some}
use Rattle.std.proofs.Common.{unwrap_or, refl, ap, sym, ◌∙◌, subst}
use Rattle.cel_reader.specs.Tree as tree
use Rattle.cel_reader.specs.Tree.{Tree}
use Rattle.cel_reader.specs.declared.operator.BinaryOperator.{TheVariants.And, TheVariants.NotEqual}
use Rattle.value_store.specs.Value.{Value, ValueOrError, error, value, null, boolean, int, text, list, map, no_items}
use Rattle.value_store.specs.Lookup.{find}
use Rattle.cel_macros.specs.Environment.{Environment, value_or_error, lookup, root_bindings, is_root, variable_value}
use Rattle.cel_macros.specs.Comparison.{unequal_of}
use Rattle.cel_macros.specs.Logic.{and_of}
use Rattle.cel_macros.specs.Macros.{variables_name}
unfoldable use Rattle.cel_macros.specs.Macros.{is_variables}
use Rattle.cel_macros.specs.Selection.{field_of}
unfoldable use Rattle.cel_macros.specs.Meaning.{meaning, meanings}
use Rattle.wide_reader.specs.Tree.{Wide}
use Rattle.wide_reader.specs.declared.wide.Access.{Access, TheVariants.Plain, TheVariants.Optional}
use Rattle.wide_meaning.specs.Access.{sel, field_in, has_in}
use Rattle.wide_meaning.specs.Environment.{WideEnvironment, root_in, item_or, name_in, plain_or_failed}
use Rattle.wide_meaning.specs.Environment.{denotes_variables, hides_variables}
use Rattle.wide_meaning.specs.Meaning.{selected}
use Rattle.wide_meaning.specs.Outcome.{Outcome, failed, plain as of_value, absent, present, outcome_of, optional_of}
use Rattle.wide_meaning.specs.Outcome.{plain_part, is_present}
use Rattle.wide_kinds.specs.declared.kind.Kind.{Kind}
use Rattle.wide_kinds.specs.declared.kind.Kind.TheVariants as kinds
use Rattle.wide_kinds.specs.declared.kind.ValueKind.{ValueKind}
use Rattle.wide_kinds.specs.declared.kind.ValueKind.TheVariants as kind
use Rattle.wide_kinds.specs.Fitting.{FitsKind, IsOfKind, IsOptionalOf}
use Rattle.wide_translation.specs.Carried.{Carried, plain, guarded, listed, WideFault, UnknownName, Translation}
use Rattle.wide_translation.specs.Carried.{taken, refused}
use Rattle.wide_translation.specs.Forms.{empty_tree, guarded_tree, present_tree, access_tree, field_list_tree}
use Rattle.wide_translation.specs.Forms.{flat_tree, let_tree, held, is_simple, root_tree}
use Rattle.wide_translation.specs.Holds.{guard_part, value_part, list_part, IsPlain, IsGuarded, IsListed, Carries}
use Rattle.wide_translation.specs.Holds.{WideHolds, WideNamed, Declared, WideStandsFor}
use Rattle.wide_translation.specs.Names.{held_name}
use Rattle.wide_translation.specs.Scope.{WideScope, Place, itself, part, unused, is_hidden}
use Rattle.wide_translation.specs.Translated.{with_carried, on_plain, with_plain, on_list, root_translation}
use Rattle.wide_translation.specs.Translated.{name_translation, variable_translation, optional_field, field_of_list}
use Rattle.wide_translation.specs.Translated.{present_of, field_of_guarded, field_carried, has_value_carried, has_carried}
use Rattle.wide_translation.specs.Translated.{has_value_translation, selected_translation}
use Rattle.wide_translation.proofs.Environments.{root_tree_free}
use Rattle.wide_translation.proofs.WrittenNames.{written_is_no_variables}
use Rattle.wide_translation.proofs.Steps.{field_outcome, access_means, access_free, present_means, value_of_field}
use Rattle.wide_translation.proofs.Steps.{guarded_means, guard_again, field_list_means, let_held, present_of_means, present_of_free, after}
use Rattle.wide_translation.proofs.Steps.{flat_holds, field_list_held}

-- ---- values and outcomes

pub part_again : (y : ValueOrError) → plain_part (outcome_of y) ≡ y
part_again error = refl
part_again (value v) = refl

fits_again : (k : ValueKind) (y : ValueOrError) → FitsKind k y → IsOfKind k (outcome_of y)
fits_again k error h = tt
fits_again k (value v) h = h

pub part_fits : (k : ValueKind) (o : Outcome) → IsOfKind k o → FitsKind k (plain_part o)
part_fits k failed h = tt
part_fits k (of_value v) h = h
part_fits k absent h = absurd h
part_fits k (present v) h = absurd h

-- a tree that means a value or the error of a kind
pub plain_holds : (k : ValueKind) (t : Tree) (y : ValueOrError) (env : Environment) → meaning t env ≡ y → FitsKind k y → is_variables t ≡ false → IsPlain k t (outcome_of y) env
plain_holds k t y env m f v = record { means = m ∙ sym (part_again y); kind = fits_again k y f; free = v }

-- ---- what follows

pub with_holds : (t : Translation) (f : Carried → Translation) (x o : Outcome) (env : Environment) → WideHolds t x env
    → ((c : Carried) → Carries c x env → WideHolds (f c) o env) → WideHolds (with_carried t f) o env
with_holds (taken c) f x o env h g = g c h
with_holds (refused e) f x o env h g = tt

pub on_plain_holds : (c : Carried) (f : ValueKind → Tree → Translation) (x o : Outcome) (env : Environment) → Carries c x env
    → ((k : ValueKind) (t : Tree) → IsPlain k t x env → WideHolds (f k t) o env) → WideHolds (on_plain c f) o env
on_plain_holds (plain k t) f x o env h g = g k t h
on_plain_holds (guarded k a v) f x o env h g = tt
on_plain_holds (listed k l) f x o env h g = tt

pub with_plain_holds : (t : Translation) (f : ValueKind → Tree → Translation) (x o : Outcome) (env : Environment) → WideHolds t x env
    → ((k : ValueKind) (a : Tree) → IsPlain k a x env → WideHolds (f k a) o env) → WideHolds (with_plain t f) o env
with_plain_holds t f x o env h g = with_holds t (λ c. on_plain c f) x o env h (λ c r. on_plain_holds c f x o env r g)

pub on_list_holds : (e : WideFault) (c : Carried) (f : ValueKind → Tree → Translation) (x o : Outcome) (env : Environment) → Carries c x env
    → ((k : ValueKind) (l : Tree) → IsListed k l x env → WideHolds (f k l) o env) → WideHolds (on_list e c f) o env
on_list_holds e (plain k t) f x o env h g = tt
on_list_holds e (guarded k a v) f x o env h g = g k (guarded_tree a v) (record { list = guarded_means a v x env h.guard h.value; kind = h.kind })
on_list_holds e (listed k l) f x o env h g = g k l h

-- ---- names

root_kind : (o : Option Value) → IsOfKind kind.Dyn (plain_or_failed o)
root_kind (Some v) = refl
root_kind None = tt

root_by : (b : Bool) (s : WideScope) (n : List ℕ) (env : WideEnvironment) (env' : Environment) → is_root n ≡ b → WideStandsFor s env env'
    → WideHolds (if b then taken (plain kind.Dyn (root_tree s n)) else refused (UnknownName n)) (root_in n env.roots) env'
root_by true s n env env' e r = record { means = r.rooted n e; kind = root_kind (lookup n (root_bindings env.roots)); free = root_tree_free s n e }
root_by false s n env env' e r = tt

pub root_holds : (s : WideScope) (n : List ℕ) (env : WideEnvironment) (env' : Environment) → WideStandsFor s env env'
    → WideHolds (root_translation s n) (root_in n env.roots) env'
root_holds s n env env' r = root_by (is_root n) s n env env' refl r

name_by : (o : Option Place) (i : Option Value) (n : List ℕ) (t : Translation) (x : Outcome) (env' : Environment)
    → WideNamed n o i env' → WideHolds t x env' → WideHolds (name_translation o n t) (item_or i x) env'
unfolding meaning is_variables
name_by (Some (itself k)) (Some v) n t x env' h r = record { means = h.0; kind = h.1; free = written_is_no_variables n }
name_by (Some (part d j)) (Some v) n t x env' h r = record { means = h; kind = refl; free = refl }
name_by (Some unused) i n t x env' h r = tt
name_by None None n t x env' h r = r
name_by (Some (itself k)) None n t x env' h r = absurd h
name_by (Some (part d j)) None n t x env' h r = absurd h
name_by None (Some v) n t x env' h r = absurd h

pub name_holds : (s : WideScope) (n : List ℕ) (env : WideEnvironment) (env' : Environment) → WideStandsFor s env env'
    → WideHolds (name_translation (lookup n s.names) n (root_translation s n)) (name_in n env) env'
name_holds s n env env' r =
    name_by (lookup n s.names) (lookup n env.items) n (root_translation s n) (root_in n env.roots) env' (r.named n) (root_holds s n env env' r)

-- ---- variables

hidden_by : (n : List ℕ) (o : Option Place) (i : Option Value) (env : Environment) → WideNamed n o i env → is_some o ≡ is_some i
hidden_by n (Some p) (Some v) env h = refl
hidden_by n None None env h = refl
hidden_by n (Some (itself k)) None env h = absurd h
hidden_by n (Some (part d j)) None env h = absurd h
hidden_by n (Some unused) None env h = absurd h
hidden_by n None (Some v) env h = absurd h

pub hidden_same : (s : WideScope) (env : WideEnvironment) (env' : Environment) → WideStandsFor s env env' → is_hidden s ≡ hides_variables env.items
hidden_same s env env' r = hidden_by variables_name (lookup variables_name s.names) (lookup variables_name env.items) env' (r.named variables_name)

variable_by : (o : Option Kind) (x : Option Outcome) (f : List ℕ) (env' : Environment) → Declared o x (variable_value f env'.variables)
    → WideHolds (variable_translation o f) (unwrap_or x failed) env'
unfolding meaning is_variables
variable_by (Some (kinds.Value k)) (Some o) f env' h = record { means = h.0; kind = h.1; free = refl }
variable_by (Some (kinds.Optional k)) (Some o) f env' h = record { list = h.0; kind = h.1 }
variable_by (Some (kinds.Value k)) None f env' h = absurd h
variable_by (Some (kinds.Optional k)) None f env' h = absurd h
variable_by None x f env' h = tt

-- ---- fields

option_kind : (o : Option Value) → IsOptionalOf kind.Dyn (optional_of o)
option_kind (Some v) = refl
option_kind None = tt

-- the field of what an optional value has
of_sel : (v : Value) (f : List ℕ) → IsOptionalOf kind.Dyn (sel v f)
of_sel null f = tt
of_sel (boolean b) f = tt
of_sel (int z) f = tt
of_sel (text s) f = tt
of_sel (list is) f = tt
of_sel (map es) f = option_kind (find f es)

plain_kind : (o : Option Value) → IsOfKind kind.Dyn (outcome_of (value_or_error o))
plain_kind (Some v) = refl
plain_kind None = tt

of_field : (v : Value) (f : List ℕ) → IsOfKind kind.Dyn (outcome_of (field_of (value v) f))
of_field null f = tt
of_field (boolean b) f = tt
of_field (int z) f = tt
of_field (text s) f = tt
of_field (list is) f = tt
of_field (map es) f = plain_kind (find f es)

-- the field of an optional value follows from its value
field_after : (o : Access) (k : ValueKind) (x : Outcome) (f : List ℕ) → IsOptionalOf k x → field_in o x f ≡ after (λ v. sel v f) x
field_after o k failed f h = refl
field_after o k absent f h = refl
field_after o k (present v) f h = refl
field_after o k (of_value v) f h = absurd h

after_kind : (k : ValueKind) (x : Outcome) (f : List ℕ) → IsOptionalOf k x → IsOptionalOf kind.Dyn (after (λ v. sel v f) x)
after_kind k failed f h = tt
after_kind k absent f h = tt
after_kind k (present v) f h = of_sel v f
after_kind k (of_value v) f h = absurd h

list_field : (o : Access) (k : ValueKind) (l : Tree) (x : Outcome) (f : List ℕ) (env : Environment) → IsListed k l x env → Carries (field_of_list l f) (field_in o x f) env
list_field o k l x f env h =
    subst (λ (y : Outcome). IsListed kind.Dyn (flat_tree held_name l (field_list_tree held f)) y env) (sym (field_after o k x f h.kind))
    (record {
      list = flat_holds held_name l (field_list_tree held f) (λ v. sel v f) x env h.list (λ v. field_list_held f v env);
      kind = after_kind k x f h.kind;
    })

-- the guard of a field of an optional value
both_guards : (k : ValueKind) (x : Outcome) (f : List ℕ) → IsOptionalOf k x
    → and_of (guard_part x) (guard_part (field_outcome (value_part x) f)) ≡ guard_part (after (λ v. sel v f) x)
both_guards k failed f h = refl
both_guards k absent f h = refl
both_guards k (present v) f h = guard_again (sel v f)
both_guards k (of_value v) f h = absurd h

value_after : (k : ValueKind) (x : Outcome) (f : List ℕ) → IsOptionalOf k x → field_of (value_part x) f ≡ value_part (after (λ v. sel v f) x)
value_after k failed f h = refl
value_after k absent f h = refl
value_after k (present v) f h = value_of_field (value v) f
value_after k (of_value v) f h = absurd h

guarded_field : (b : Bool) (o : Access) (k : ValueKind) (g t : Tree) (x : Outcome) (f : List ℕ) (env : Environment) → IsGuarded k g t x env
    → Carries (field_of_guarded b g t f) (field_in o x f) env
unfolding meaning is_variables
guarded_field true o k g t x f env h =
    subst (λ (y : Outcome). IsGuarded kind.Dyn (tree.binary And g (present_tree t f)) (access_tree t f) y env) (sym (field_after o k x f h.kind))
    (record {
      guard = (λ j. and_of (h.guard j) ((present_means t f env ∙ ap (λ y. guard_part (field_outcome y f)) h.value) j)) ∙ both_guards k x f h.kind;
      value = access_means t f env h.free ∙ ap (λ y. field_of y f) h.value ∙ value_after k x f h.kind;
      kind = after_kind k x f h.kind;
      free = access_free t f;
      guard_free = refl;
    })
guarded_field false o k g t x f env h =
    list_field o k (guarded_tree g t) x f env (record { list = guarded_means g t x env h.guard h.value; kind = h.kind })

-- the field of a value
plain_field : (k : ValueKind) (t : Tree) (x : Outcome) (f : List ℕ) (env : Environment) → IsPlain k t x env → Carries (plain kind.Dyn (access_tree t f)) (field_in Plain x f) env
plain_field k t failed f env h = record { means = access_means t f env h.free ∙ ap (λ y. field_of y f) h.means; kind = tt; free = access_free t f }
plain_field k t (of_value v) f env h = record {
  means = access_means t f env h.free ∙ ap (λ y. field_of y f) h.means ∙ sym (part_again (field_of (value v) f));
  kind = of_field v f;
  free = access_free t f;
}
plain_field k t absent f env h = absurd h.kind
plain_field k t (present v) f env h = absurd h.kind

-- the optional field of a value
optional_same : (k : ValueKind) (x : Outcome) (f : List ℕ) → IsOfKind k x → field_outcome (plain_part x) f ≡ field_in Optional x f
optional_same k failed f h = refl
optional_same k (of_value v) f h = refl
optional_same k absent f h = absurd h
optional_same k (present v) f h = absurd h

outcome_kind : (y : ValueOrError) (f : List ℕ) → IsOptionalOf kind.Dyn (field_outcome y f)
outcome_kind error f = tt
outcome_kind (value v) f = of_sel v f

optional_field_of : (b : Bool) (k : ValueKind) (t : Tree) (x : Outcome) (f : List ℕ) (env : Environment) → IsPlain k t x env
    → Carries (optional_field b k t f) (field_outcome (plain_part x) f) env
optional_field_of true k t x f env h = record {
  guard = present_of_means k t f x env h.kind h.means;
  value = access_means t f env h.free ∙ ap (λ z. field_of z f) h.means ∙ value_of_field (plain_part x) f;
  kind = outcome_kind (plain_part x) f;
  free = access_free t f;
  guard_free = present_of_free k t f;
}
optional_field_of false k t x f env h = record {
  list = let_held (λ a. field_list_tree a f) (λ z. list_part (field_outcome z f)) t env (field_list_means f) refl ∙ ap (λ z. list_part (field_outcome z f)) h.means;
  kind = outcome_kind (plain_part x) f;
}

pub field_holds : (o : Access) (f : List ℕ) (c : Carried) (x : Outcome) (env : Environment) → Carries c x env → Carries (field_carried o f c) (field_in o x f) env
field_holds Plain f (plain k t) x env h = plain_field k t x f env h
field_holds Optional f (plain k t) x env h =
    subst (λ (y : Outcome). Carries (optional_field (is_simple t) k t f) y env) (optional_same k x f h.kind)
    (optional_field_of (is_simple t) k t x f env h)
field_holds Plain f (guarded k g t) x env h = guarded_field (is_simple t) Plain k g t x f env h
field_holds Optional f (guarded k g t) x env h = guarded_field (is_simple t) Optional k g t x f env h
field_holds Plain f (listed k l) x env h = list_field Plain k l x f env h
field_holds Optional f (listed k l) x env h = list_field Optional k l x f env h

-- `variables.f`, or a field of an operand
selected_by : (b : Bool) (o : Access) (f : List ℕ) (s : WideScope) (t : Translation) (x : Outcome) (env : WideEnvironment) (env' : Environment)
    → WideHolds t x env' → WideStandsFor s env env' → WideHolds (selected_translation b o f s t) (selected b o f x env) env'
selected_by true Plain f s t x env env' h r = variable_by (lookup f s.variables) (lookup f env.variables) f env' (r.declared f)
selected_by true Optional f s t x env env' h r =
    with_holds t (λ c. taken (field_carried Optional f c)) x (field_in Optional x f) env' h (λ c i. field_holds Optional f c x env' i)
selected_by false Plain f s t x env env' h r =
    with_holds t (λ c. taken (field_carried Plain f c)) x (field_in Plain x f) env' h (λ c i. field_holds Plain f c x env' i)
selected_by false Optional f s t x env env' h r =
    with_holds t (λ c. taken (field_carried Optional f c)) x (field_in Optional x f) env' h (λ c i. field_holds Optional f c x env' i)

pub selected_holds : (a : Wide) (o : Access) (f : List ℕ) (s : WideScope) (t : Translation) (x : Outcome) (env : WideEnvironment) (env' : Environment)
    → WideHolds t x env' → WideStandsFor s env env'
    → WideHolds (selected_translation (denotes_variables a (is_hidden s)) o f s t) (selected (denotes_variables a (hides_variables env.items)) o f x env) env'
selected_holds a o f s t x env env' h r =
    subst (λ (b : Bool). WideHolds (selected_translation (denotes_variables a (is_hidden s)) o f s t) (selected (denotes_variables a b) o f x env) env')
    (hidden_same s env env' r)
    (selected_by (denotes_variables a (is_hidden s)) o f s t x env env' h r)

-- ---- whether there is a value

guard_is : (o : Outcome) → guard_part o ≡ plain_part (is_present o)
guard_is failed = refl
guard_is (of_value v) = refl
guard_is absent = refl
guard_is (present v) = refl

list_is : (o : Outcome) → unequal_of (list_part o) (value (list no_items)) ≡ plain_part (is_present o)
list_is failed = refl
list_is (of_value v) = refl
list_is absent = refl
list_is (present v) = refl

present_kind : (o : Outcome) → IsOfKind kind.Bool (is_present o)
present_kind failed = tt
present_kind (of_value v) = tt
present_kind absent = refl
present_kind (present v) = refl

guard_holds : (k : ValueKind) (g t : Tree) (x : Outcome) (env : Environment) → IsGuarded k g t x env → IsPlain kind.Bool g (is_present x) env
guard_holds k g t x env h = record { means = h.guard ∙ guard_is x; kind = present_kind x; free = h.guard_free }

list_holds : (k : ValueKind) (l : Tree) (x : Outcome) (env : Environment) → IsListed k l x env → IsPlain kind.Bool (tree.binary NotEqual l empty_tree) (is_present x) env
unfolding meaning meanings is_variables
list_holds k l x env h = record { means = ap (λ y. unequal_of y (value (list no_items))) h.list ∙ list_is x; kind = present_kind x; free = refl }

-- whether an optional value has a value
pub has_value_holds : (c : Carried) (x : Outcome) (env : Environment) → Carries c x env → WideHolds (has_value_translation c) (is_present x) env
has_value_holds (plain k t) x env h = tt
has_value_holds (guarded k g t) x env h = guard_holds k g t x env h
has_value_holds (listed k l) x env h = list_holds k l x env h

-- whether an operand has a field
has_free_by : (b : Bool) (k : ValueKind) (t : Tree) (f : List ℕ) → is_variables (if b then present_of k t f else let_tree held_name t (present_tree held f)) ≡ false
unfolding is_variables
has_free_by true k t f = present_of_free k t f
has_free_by false k t f = refl

has_means_by : (b : Bool) (k : ValueKind) (t : Tree) (f : List ℕ) (x : Outcome) (env : Environment) → IsPlain k t x env
    → meaning (if b then present_of k t f else let_tree held_name t (present_tree held f)) env ≡ guard_part (field_outcome (plain_part x) f)
has_means_by true k t f x env h = present_of_means k t f x env h.kind h.means
has_means_by false k t f x env h =
    let_held (λ a. present_tree a f) (λ y. guard_part (field_outcome y f)) t env (λ a e v. present_means a f e) refl
    ∙ ap (λ y. guard_part (field_outcome y f)) h.means

guard_of_field : (k : ValueKind) (x : Outcome) (f : List ℕ) → IsOfKind k x → guard_part (field_outcome (plain_part x) f) ≡ plain_part (has_in x f)
guard_of_field k failed f h = refl
guard_of_field k (of_value v) f h = guard_is (sel v f)
guard_of_field k absent f h = absurd h
guard_of_field k (present v) f h = absurd h

has_of_guarded : (b : Bool) (k : ValueKind) (g t : Tree) (f : List ℕ) (x : Outcome) (env : Environment) → Carries (field_of_guarded b g t f) x env
    → IsPlain kind.Bool (has_value_carried (field_of_guarded b g t f)) (is_present x) env
has_of_guarded true k g t f x env h = guard_holds kind.Dyn _ _ x env h
has_of_guarded false k g t f x env h = list_holds kind.Dyn _ x env h

pub has_holds : (f : List ℕ) (c : Carried) (x : Outcome) (env : Environment) → Carries c x env → IsPlain kind.Bool (has_carried f c) (has_in x f) env
has_holds f (plain k t) x env h = record {
  means = has_means_by (is_simple t) k t f x env h ∙ guard_of_field k x f h.kind;
  kind = present_kind (field_in Optional x f);
  free = has_free_by (is_simple t) k t f;
}
has_holds f (guarded k g t) x env h = has_of_guarded (is_simple t) k g t f (field_in Optional x f) env (field_holds Optional f (guarded k g t) x env h)
has_holds f (listed k l) x env h = list_holds kind.Dyn _ (field_in Optional x f) env (field_holds Optional f (listed k l) x env h)
