-- The meanings of the forms that the translation writes.
use Rattle.std.proofs.Common.{◌≡◌, ℕ, Bool, true, false, List, [], ◌∷◌, Option, Some, None, codes, if◌then◌else◌, pos}
use Rattle.std.proofs.Common.{refl, ap, sym, ◌∙◌, is_some}
use Rattle.cel_reader.specs.Tree as tree
use Rattle.cel_reader.specs.Tree.{Tree}
use Rattle.cel_reader.specs.Words.{is_selector}
use Rattle.cel_reader.specs.declared.operator.BinaryOperator.{TheVariants.In}
use Rattle.value_store.specs.Value.{Value, ValueOrError, error, value, null, boolean, int, text, list, map, no_items}
use Rattle.value_store.specs.Value.{item, Entries}
use Rattle.value_store.specs.Lookup.{find}
use Rattle.cel_macros.specs.Environment.{Environment, bind, value_or_error}
use Rattle.cel_macros.specs.Arithmetic.{sum_of}
use Rattle.cel_macros.specs.Comparison.{member_of, unequal_of}
use Rattle.cel_macros.specs.Logic.{and_of, ternary_of}
use Rattle.cel_macros.specs.Selection.{field_of, has_of, index_of}
use Rattle.cel_macros.specs.Literals.{list_literal}
use Rattle.cel_macros.specs.Macros.{macro_name, over_range, range_of, map_over_range}
unfoldable use Rattle.cel_macros.specs.Macros.{macro_named, is_map, is_has, is_variables}
use Rattle.cel_macros.specs.declared.macros.Macro.{Macro, TheVariants.All, TheVariants.Exists, TheVariants.ExistsOne}
use Rattle.cel_macros.specs.declared.macros.Macro.{TheVariants.Filter, TheVariants.Map}
use Rattle.cel_macros.specs.Meaning.{selected}
unfoldable use Rattle.cel_macros.specs.Meaning.{meaning, operand_meaning, meanings}
use Rattle.wide_meaning.specs.Outcome.{Outcome, failed, plain, absent, present, optional_of, plain_part}
use Rattle.wide_kinds.specs.declared.kind.ValueKind.{ValueKind}
use Rattle.wide_kinds.specs.declared.kind.ValueKind.TheVariants as kind
use Rattle.wide_kinds.specs.Fitting.{IsOfKind}
use Rattle.wide_meaning.specs.Access.{sel}
use Rattle.wide_meaning.specs.Ranges.{over_items, filter_map_over}
use Rattle.wide_translation.specs.Forms.{one_tree, macro_tree, filter_map_tree, let_tree, held, has_tree, access_tree}
use Rattle.wide_translation.specs.Forms.{present_tree, field_list_tree, guarded_tree, flat_tree, is_simple}
use Rattle.wide_translation.specs.Holds.{guard_part, value_part, list_part}
use Rattle.wide_translation.specs.Indexed.{ForPresent}
use Rattle.wide_translation.specs.Names.{held_name}
use Rattle.wide_translation.specs.Translated.{once, present_of}
use Rattle.wide_translation.proofs.Environments.{this_name}

-- what follows from a value; the error for the error
abbrev pub on_value : (Value → ValueOrError) → ValueOrError → ValueOrError
on_value f error = error
on_value f (value v) = f v

-- ---- macros

pub macro_again : (m : Macro) → macro_named (macro_name m) ≡ Some m
unfolding macro_named
macro_again All = refl
macro_again Exists = refl
macro_again ExistsOne = refl
macro_again Filter = refl
macro_again Map = refl

ranged : (m : Macro) (n : List ℕ) (f : List ℕ → Value → ValueOrError) (r : Option (List Value)) → over_range (Some m) (Some n) f r ≡ over_items m (f n) r
ranged m n f None = refl
ranged m n f (Some items) = refl

pub macro_means : (m : Macro) (x : List ℕ) (a p : Tree) (env : Environment) → meaning (macro_tree m x a p) env ≡ over_items m (λ v. meaning p (bind x v env)) (range_of (meaning a env))
unfolding meaning
macro_means m x a p env =
    (λ j. over_range (macro_again m j) (Some x) (λ i v. meaning p (bind i v env)) (range_of (meaning a env)))
    ∙ ranged m x (λ i v. meaning p (bind i v env)) (range_of (meaning a env))

filter_ranged : (n : List ℕ) (p f : List ℕ → Value → ValueOrError) (r : Option (List Value)) → map_over_range true (Some n) p f r ≡ filter_map_over (p n) (f n) r
filter_ranged n p f None = refl
filter_ranged n p f (Some items) = refl

pub filter_map_means : (x : List ℕ) (a p t : Tree) (env : Environment)
    → meaning (filter_map_tree x a p t) env ≡ filter_map_over (λ v. meaning p (bind x v env)) (λ v. meaning t (bind x v env)) (range_of (meaning a env))
unfolding meaning is_map
filter_map_means x a p t env = filter_ranged x (λ i v. meaning p (bind i v env)) (λ i v. meaning t (bind i v env)) (range_of (meaning a env))

-- ---- bindings

kept_one : (y : ValueOrError) → index_of (list_literal (y ∷ [])) (value (int (pos 0))) ≡ y
kept_one error = refl
kept_one (value v) = refl

let_step : (f : Value → ValueOrError) (x : ValueOrError) → index_of (over_items Map f (range_of (list_literal (x ∷ [])))) (value (int (pos 0))) ≡ on_value f x
let_step f error = refl
let_step f (value v) = kept_one (f v)

pub let_means : (x : List ℕ) (a b : Tree) (env : Environment) → meaning (let_tree x a b) env ≡ on_value (λ v. meaning b (bind x v env)) (meaning a env)
unfolding meaning meanings
let_means x a b env =
    (λ j. index_of (macro_means Map x (one_tree a) b env j) (value (int (pos 0))))
    ∙ let_step (λ v. meaning b (bind x v env)) (meaning a env)

pub held_is : (v : Value) (env : Environment) → meaning held (bind held_name v env) ≡ value v
unfolding meaning
held_is v env = this_name held_name v env

pub held_is_no_variables : is_variables held ≡ false
unfolding is_variables
held_is_no_variables = refl

-- the meaning of a form that is strict in its operand
abbrev pub MeansBy : (Tree → Tree) → (ValueOrError → ValueOrError) → Type 0
MeansBy b f = (a : Tree) (env : Environment) → is_variables a ≡ false → meaning (b a) env ≡ f (meaning a env)

pub strict : (f : ValueOrError → ValueOrError) (x : ValueOrError) → f error ≡ error → on_value (λ v. f (value v)) x ≡ f x
strict f error h = sym h
strict f (value v) h = refl

pub let_held : (b : Tree → Tree) (f : ValueOrError → ValueOrError) (a : Tree) (env : Environment) → MeansBy b f → f error ≡ error
    → meaning (let_tree held_name a (b held)) env ≡ f (meaning a env)
let_held b f a env h e =
    let_means held_name a (b held) env
    ∙ (λ j. on_value (λ v. (h held (bind held_name v env) held_is_no_variables ∙ ap f (held_is v env)) j) (meaning a env))
    ∙ strict f (meaning a env) e

once_by : (s : Bool) (b : Tree → Tree) (f : ValueOrError → ValueOrError) (a : Tree) (env : Environment) → MeansBy b f → f error ≡ error → is_variables a ≡ false
    → meaning (if s then b a else let_tree held_name a (b held)) env ≡ f (meaning a env)
once_by true b f a env h e g = h a env g
once_by false b f a env h e g = let_held b f a env h e

pub once_means : (b : Tree → Tree) (f : ValueOrError → ValueOrError) (a : Tree) (env : Environment) → MeansBy b f → f error ≡ error → is_variables a ≡ false
    → meaning (once a b) env ≡ f (meaning a env)
once_means b f a env h e g = once_by (is_simple a) b f a env h e g

-- ---- fields

-- the field f of a value or the error as an optional value
abbrev pub field_outcome : ValueOrError → List ℕ → Outcome
field_outcome error f = failed
field_outcome (value v) f = sel v f

selected_by : (b : Bool) (a : Tree) (f : List ℕ) (env : Environment) → is_variables a ≡ b → b ≡ false → meaning (tree.select a f) env ≡ field_of (meaning a env) f
unfolding meaning
selected_by true a f env e h = absurd (cc)
selected_by false a f env e h = ap (λ b. selected b f (meaning a env) env) e

pub select_means : (a : Tree) (f : List ℕ) (env : Environment) → is_variables a ≡ false → meaning (tree.select a f) env ≡ field_of (meaning a env) f
select_means a f env h = selected_by false a f env h refl

by_text : (x : ValueOrError) (f : List ℕ) → index_of x (value (text f)) ≡ field_of x f
by_text error f = refl
by_text (value (map es)) f = refl
by_text (value null) f = refl
by_text (value (boolean b)) f = refl
by_text (value (int z)) f = refl
by_text (value (text s)) f = refl
by_text (value (list is)) f = refl

access_by : (b : Bool) (a : Tree) (f : List ℕ) (env : Environment) → is_variables a ≡ false
    → meaning (if b then tree.select a f else tree.index a (tree.literal (tree.text f))) env ≡ field_of (meaning a env) f
unfolding meaning
access_by true a f env h = select_means a f env h
access_by false a f env h = by_text (meaning a env) f

pub access_means : (a : Tree) (f : List ℕ) (env : Environment) → is_variables a ≡ false → meaning (access_tree a f) env ≡ field_of (meaning a env) f
access_means a f env h = access_by (is_selector f) a f env h

access_free_by : (b : Bool) (a : Tree) (f : List ℕ) → is_variables (if b then tree.select a f else tree.index a (tree.literal (tree.text f))) ≡ false
unfolding is_variables
access_free_by true a f = refl
access_free_by false a f = refl

pub access_free : (a : Tree) (f : List ℕ) → is_variables (access_tree a f) ≡ false
access_free a f = access_free_by (is_selector f) a f

-- whether a value has a field, written in either way, for a value that is not null
abbrev has_any : Bool → ValueOrError → List ℕ → ValueOrError
has_any true x f = has_of x f
has_any false x f = ternary_of (has_of x (codes "a")) (member_of (value (text f)) x) (member_of (value (text f)) x)

has_any_means : (b : Bool) (a : Tree) (f : List ℕ) (env : Environment)
    → meaning (if b then has_tree a f else tree.ternary (has_tree a (codes "a")) (tree.binary In (tree.literal (tree.text f)) a) (tree.binary In (tree.literal (tree.text f)) a)) env ≡ has_any b (meaning a env) f
unfolding meaning operand_meaning is_has
has_any_means true a f env = refl
has_any_means false a f env = refl

either_way : (b : Bool) (x : ValueOrError) → ternary_of (value (boolean b)) x x ≡ x
either_way true x = refl
either_way false x = refl

guard_of_option : (o : Option Value) → guard_part (optional_of o) ≡ value (boolean (is_some o))
guard_of_option None = refl
guard_of_option (Some v) = refl

has_any_of_map : (b : Bool) (es : Entries) (f : List ℕ) → has_any b (value (map es)) f ≡ guard_part (optional_of (find f es))
has_any_of_map true es f = sym (guard_of_option (find f es))
has_any_of_map false es f = either_way (is_some (find (codes "a") es)) (member_of (value (text f)) (value (map es))) ∙ sym (guard_of_option (find f es))

pub guard_again : (o : Outcome) → and_of (value (boolean true)) (guard_part o) ≡ guard_part o
guard_again failed = refl
guard_again (plain v) = refl
guard_again absent = refl
guard_again (present v) = refl

pub null_or_has : (b : Bool) (x : ValueOrError) (f : List ℕ) → and_of (unequal_of x (value null)) (has_any b x f) ≡ guard_part (field_outcome x f)
null_or_has true error f = refl
null_or_has false error f = refl
null_or_has b (value null) f = refl
null_or_has b (value (map es)) f = ap (and_of (value (boolean true))) (has_any_of_map b es f) ∙ guard_again (optional_of (find f es))
null_or_has true (value (boolean c)) f = refl
null_or_has true (value (int z)) f = refl
null_or_has true (value (text s)) f = refl
null_or_has true (value (list is)) f = refl
null_or_has false (value (boolean c)) f = refl
null_or_has false (value (int z)) f = refl
null_or_has false (value (text s)) f = refl
null_or_has false (value (list is)) f = refl

pub present_means : (a : Tree) (f : List ℕ) (env : Environment) → meaning (present_tree a f) env ≡ guard_part (field_outcome (meaning a env) f)
unfolding meaning
present_means a f env =
    (λ j. and_of (unequal_of (meaning a env) (value null)) (has_any_means (is_selector f) a f env j))
    ∙ null_or_has (is_selector f) (meaning a env) f

-- a value that is known to be a map has the field; the error stays
map_has : (b : Bool) (x : Outcome) (f : List ℕ) → IsOfKind kind.Map x → has_any b (plain_part x) f ≡ guard_part (field_outcome (plain_part x) f)
map_has true failed f h = refl
map_has false failed f h = refl
map_has b (plain (map es)) f h = has_any_of_map b es f
map_has b (plain null) f h = absurd (cc)
map_has b (plain (boolean c)) f h = absurd (cc)
map_has b (plain (int z)) f h = absurd (cc)
map_has b (plain (text s)) f h = absurd (cc)
map_has b (plain (list is)) f h = absurd (cc)
map_has b absent f h = absurd h
map_has b (present v) f h = absurd h

present_again : (a : Tree) (f : List ℕ) (x : Outcome) (env : Environment) → meaning a env ≡ plain_part x
    → meaning (present_tree a f) env ≡ guard_part (field_outcome (plain_part x) f)
present_again a f x env m = present_means a f env ∙ ap (λ y. guard_part (field_outcome y f)) m

pub present_of_means : (k : ValueKind) (a : Tree) (f : List ℕ) (x : Outcome) (env : Environment) → IsOfKind k x → meaning a env ≡ plain_part x
    → meaning (present_of k a f) env ≡ guard_part (field_outcome (plain_part x) f)
present_of_means kind.Map a f x env h m =
    has_any_means (is_selector f) a f env ∙ ap (λ y. has_any (is_selector f) y f) m ∙ map_has (is_selector f) x f h
present_of_means kind.Null a f x env h m = present_again a f x env m
present_of_means kind.Bool a f x env h m = present_again a f x env m
present_of_means kind.Int a f x env h m = present_again a f x env m
present_of_means kind.String a f x env h m = present_again a f x env m
present_of_means kind.List a f x env h m = present_again a f x env m
present_of_means kind.Dyn a f x env h m = present_again a f x env m

-- these tests are not `variables`
has_any_free : (b : Bool) (a : Tree) (f : List ℕ)
    → is_variables (if b then has_tree a f else tree.ternary (has_tree a (codes "a")) (tree.binary In (tree.literal (tree.text f)) a) (tree.binary In (tree.literal (tree.text f)) a)) ≡ false
unfolding is_variables
has_any_free true a f = refl
has_any_free false a f = refl

pub present_of_free : (k : ValueKind) (a : Tree) (f : List ℕ) → is_variables (present_of k a f) ≡ false
unfolding is_variables
present_of_free kind.Map a f = has_any_free (is_selector f) a f
present_of_free kind.Null a f = refl
present_of_free kind.Bool a f = refl
present_of_free kind.Int a f = refl
present_of_free kind.String a f = refl
present_of_free kind.List a f = refl
present_of_free kind.Dyn a f = refl

-- ---- optional values

value_of_option : (o : Option Value) → value_or_error o ≡ value_part (optional_of o)
value_of_option None = refl
value_of_option (Some v) = refl

pub value_of_field : (x : ValueOrError) (f : List ℕ) → field_of x f ≡ value_part (field_outcome x f)
value_of_field error f = refl
value_of_field (value (map es)) f = value_of_option (find f es)
value_of_field (value null) f = refl
value_of_field (value (boolean b)) f = refl
value_of_field (value (int z)) f = refl
value_of_field (value (text s)) f = refl
value_of_field (value (list is)) f = refl

-- the list of a guard and a value
pub guarded_list : (o : Outcome) → ternary_of (guard_part o) (list_literal (value_part o ∷ [])) (value (list no_items)) ≡ list_part o
guarded_list failed = refl
guarded_list (plain v) = refl
guarded_list absent = refl
guarded_list (present v) = refl

pub guarded_means : (g v : Tree) (o : Outcome) (env : Environment) → meaning g env ≡ guard_part o → meaning v env ≡ value_part o
    → meaning (guarded_tree g v) env ≡ list_part o
unfolding meaning meanings
guarded_means g v o env hg hv = (λ j. ternary_of (hg j) (list_literal (hv j ∷ [])) (value (list no_items))) ∙ guarded_list o

pub field_list_means : (f : List ℕ) → MeansBy (λ a. field_list_tree a f) (λ x. list_part (field_outcome x f))
field_list_means f a env h =
    guarded_means (present_tree a f) (access_tree a f) (field_outcome (meaning a env) f) env (present_means a f env)
    (access_means a f env h ∙ value_of_field (meaning a env) f)

-- ---- the item of none or one

-- what follows from the value of an optional value
abbrev pub after : (Value → Outcome) → Outcome → Outcome
after f absent = absent
after f (present v) = f v
after f _ = failed

abbrev flat_of : (Value → ValueOrError) → ValueOrError → ValueOrError
flat_of f x = index_of (sum_of (over_items Map f (range_of x)) (value (list (item (list no_items) no_items)))) (value (int (pos 0)))

flat_one : (o : Outcome) → index_of (sum_of (list_literal (list_part o ∷ [])) (value (list (item (list no_items) no_items)))) (value (int (pos 0))) ≡ list_part o
flat_one failed = refl
flat_one (plain v) = refl
flat_one absent = refl
flat_one (present v) = refl

flat_part : (f : Value → Outcome) (o : Outcome) → flat_of (λ v. list_part (f v)) (list_part o) ≡ list_part (after f o)
flat_part f failed = refl
flat_part f (plain v) = refl
flat_part f absent = refl
flat_part f (present v) = flat_one (f v)

flat_means : (x : List ℕ) (l r : Tree) (env : Environment) → meaning (flat_tree x l r) env ≡ flat_of (λ v. meaning r (bind x v env)) (meaning l env)
unfolding meaning meanings
flat_means x l r env = λ j. index_of (sum_of (macro_means Map x l r env j) (value (list (item (list no_items) no_items)))) (value (int (pos 0)))

pub flat_holds : (x : List ℕ) (l r : Tree) (f : Value → Outcome) (o : Outcome) (env : Environment) → meaning l env ≡ list_part o
    → ((v : Value) → meaning r (bind x v env) ≡ list_part (f v)) → meaning (flat_tree x l r) env ≡ list_part (after f o)
flat_holds x l r f o env hl hr =
    flat_means x l r env ∙ (λ j. flat_of (λ v. hr v j) (hl j)) ∙ flat_part f o

-- the same if the second tree is right for the value, if there is one
flat_present : (w : Value → ValueOrError) (f : Value → Outcome) (o : Outcome) → ForPresent (λ v. w v ≡ list_part (f v)) o → flat_of w (list_part o) ≡ list_part (after f o)
flat_present w f failed h = refl
flat_present w f (plain v) h = refl
flat_present w f absent h = refl
flat_present w f (present v) h =
    ap (λ y. index_of (sum_of (list_literal (y ∷ [])) (value (list (item (list no_items) no_items)))) (value (int (pos 0)))) h ∙ flat_one (f v)

pub flat_for : (x : List ℕ) (l r : Tree) (f : Value → Outcome) (o : Outcome) (env : Environment) → meaning l env ≡ list_part o
    → ForPresent (λ v. meaning r (bind x v env) ≡ list_part (f v)) o → meaning (flat_tree x l r) env ≡ list_part (after f o)
flat_for x l r f o env hl hr =
    flat_means x l r env ∙ (λ j. flat_of (λ v. meaning r (bind x v env)) (hl j)) ∙ flat_present (λ v. meaning r (bind x v env)) f o hr

pub field_list_held : (f : List ℕ) (v : Value) (env : Environment) → meaning (field_list_tree held f) (bind held_name v env) ≡ list_part (sel v f)
field_list_held f v env = field_list_means f held (bind held_name v env) held_is_no_variables ∙ ap (λ x. list_part (field_outcome x f)) (held_is v env)
