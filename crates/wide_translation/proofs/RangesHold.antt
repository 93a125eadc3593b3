-- Indices, and macros over ranges.
use Rattle.std.specs.Prelude.{⊤}
use Rattle.std.proofs.Common.{◌≡◌, ℕ, Bool, true, false, List, Option, Some, None, pos, if◌then◌else◌, refl, ap, sym}
use Rattle.std.proofs.Common.{◌∙◌, subst}
use Rattle.cel_reader.specs.Tree as tree
use Rattle.cel_reader.specs.Tree.{Tree}
use Rattle.value_store.specs.Value.{Value, ValueOrError, error, value, null, boolean, int, text, list, map}
use Rattle.cel_macros.specs.Environment.{Environment, bind}
use Rattle.std.specs.List.{list_any, list_all}
use Rattle.std.specs.Prelude.{map as each, filter, count_by, nat_eq}
use Rattle.cel_macros.specs.Logic.{Truth, truth}
use Rattle.cel_macros.specs.Macros.{range_of, is_yes, is_no, is_other}
unfoldable use Rattle.cel_macros.specs.Macros.{is_variables}
use Rattle.cel_macros.specs.Literals.{list_or_error, values_in}
use Rattle.cel_macros.specs.Selection.{index_of}
unfoldable use Rattle.cel_macros.specs.Meaning.{meaning}
use Rattle.wide_reader.specs.declared.wide.Access.{Access, TheVariants.Plain, TheVariants.Optional}
use Rattle.wide_reader.specs.declared.wide.Macro.{Macro}
use Rattle.wide_reader.specs.declared.wide.Macro.TheVariants as macro
use Rattle.wide_meaning.specs.Access.{field_in, index_in, sel, at}
use Rattle.wide_meaning.specs.Outcome.{Outcome, failed, plain as of_value, absent, present, outcome_of, plain_part}
use Rattle.wide_meaning.specs.Ranges.{plain_macro_of, over_items, filter_map_over}
use Rattle.wide_kinds.specs.declared.kind.ValueKind.{ValueKind}
use Rattle.wide_kinds.specs.declared.kind.ValueKind.TheVariants as kind
use Rattle.wide_kinds.specs.Fitting.{FitsKind, IsOfKind, IsOptionalOf}
use Rattle.wide_translation.specs.Carried.{Carried, plain, guarded, listed, Translation, taken, refused}
use Rattle.wide_translation.specs.Forms.{macro_tree, filter_map_tree}
use Rattle.wide_translation.specs.ComputedIndices.{key_of_list, key_carried}
use Rattle.wide_translation.specs.Holds.{IsPlain, IsListed, Carries, WideHolds}
use Rattle.wide_translation.specs.Indexed.{ForEach}
use Rattle.wide_translation.proofs.EachItem.{each_then, over_same, where_same}
use Rattle.wide_translation.specs.Names.{held_name, second_name}
use Rattle.wide_translation.specs.Translated.{value_index, plain_index, text_index, count_index, index_carried, macro_kind}
use Rattle.wide_translation.specs.Translated.{field_carried, on_plain, with_plain}
use Rattle.wide_translation.proofs.FieldsHold.{plain_holds, on_plain_holds, field_holds}
use Rattle.wide_translation.specs.Forms.{guarded_tree}
use Rattle.wide_translation.proofs.ItemsHold.{item_holds, item_of_optional}
use Rattle.wide_translation.proofs.Kept.{Keeps, on_plain_kept}
use Rattle.wide_translation.proofs.KeysHold.{value_key_holds, list_key_holds}
use Rattle.wide_translation.proofs.Steps.{guarded_means}
use Rattle.wide_translation.proofs.Steps.{macro_means, filter_map_means}

any_kind : (x : ValueOrError) → FitsKind kind.Dyn x
any_kind error = tt
any_kind (value v) = refl

-- ---- indices

no_index : (v : Value) → index_of (value v) error ≡ error
no_index (list is) = refl
no_index (map es) = refl
no_index null = refl
no_index (boolean b) = refl
no_index (int z) = refl
no_index (text s) = refl

index_same : (k j : ValueKind) (x y : Outcome) → IsOfKind k x → IsOfKind j y → outcome_of (index_of (plain_part x) (plain_part y)) ≡ index_in Plain x y
index_same k j failed y f g = refl
index_same k j (of_value v) (of_value w) f g = refl
index_same k j (of_value v) failed f g = ap outcome_of (no_index v)
index_same k j (of_value v) absent f g = absurd g
index_same k j (of_value v) (present w) f g = absurd g
index_same k j absent y f g = absurd f
index_same k j (present v) y f g = absurd f

one_index : (k j : ValueKind) (a b : Tree) (x y : Outcome) (env : Environment) → IsPlain k a x env → IsPlain j b y env → IsPlain kind.Dyn (tree.index a b) (index_in Plain x y) env
unfolding meaning is_variables
one_index k j a b x y env h i =
    subst (λ (o : Outcome). IsPlain kind.Dyn (tree.index a b) o env) (index_same k j x y h.kind i.kind)
    (plain_holds kind.Dyn (tree.index a b) (index_of (plain_part x) (plain_part y)) env (λ l. index_of (h.means l) (i.means l)) (any_kind (index_of (plain_part x) (plain_part y))) refl)

value_index_holds : (c d : Carried) (x y : Outcome) (env : Environment) → Carries c x env → Carries d y env → WideHolds (value_index c d) (index_in Plain x y) env
value_index_holds c d x y env h i =
    on_plain_holds c (λ k a. on_plain d (λ j b. taken (plain kind.Dyn (tree.index a b)))) x (index_in Plain x y) env h
    (λ k a r. on_plain_holds d (λ j b. taken (plain kind.Dyn (tree.index a b))) y (index_in Plain x y) env i (λ j b q. one_index k j a b x y env r q))

-- an index of an optional value, for each form of the index
list_index_holds : (o : Access) (k : ValueKind) (l : Tree) (d : Carried) (x y : Outcome) (env : Environment) → IsListed k l x env → Carries d y env → Keeps held_name d y env
    → WideHolds (on_plain d (λ j b. taken (key_of_list k j l b))) (index_in o x y) env
list_index_holds o k l d x y env h i r =
    on_plain_kept held_name d (λ j b. taken (key_of_list k j l b)) y (index_in o x y) env i r (λ j b p q. list_key_holds o k j l b x y env h p q)

-- any index: the operand carries its outcome where the second name of the translation has a value, and the index where
-- the first name has one
index_by : (o : Access) (c d : Carried) (x y : Outcome) (env : Environment) → Carries c x env → Keeps second_name c x env → Carries d y env → Keeps held_name d y env
    → WideHolds (plain_index o c d) (index_in o x y) env
index_by Plain (plain k t) d x y env h s i r = value_index_holds (plain k t) d x y env h i
index_by Optional (plain k t) d x y env h s i r =
    on_plain_kept held_name d (λ j b. taken (key_carried (plain k t) j b)) y (index_in Optional x y) env i r (λ j b p q. value_key_holds k j t b x y env h s p q)
index_by Plain (guarded k g t) d x y env h s i r =
    list_index_holds Plain k (guarded_tree g t) d x y env (record { list = guarded_means g t x env h.guard h.value; kind = h.kind }) i r
index_by Optional (guarded k g t) d x y env h s i r =
    list_index_holds Optional k (guarded_tree g t) d x y env (record { list = guarded_means g t x env h.guard h.value; kind = h.kind }) i r
index_by Plain (listed k l) d x y env h s i r = list_index_holds Plain k l d x y env h i r
index_by Optional (listed k l) d x y env h s i r = list_index_holds Optional k l d x y env h i r

at_text : (v : Value) (f : List ℕ) → sel v f ≡ at v (text f)
at_text null f = refl
at_text (boolean b) f = refl
at_text (int z) f = refl
at_text (text s) f = refl
at_text (list is) f = refl
at_text (map es) f = refl

optional_index : (x : Outcome) (f : List ℕ) → field_in Optional x f ≡ index_in Optional x (of_value (text f))
optional_index failed f = refl
optional_index absent f = refl
optional_index (of_value v) f = at_text v f
optional_index (present v) f = at_text v f

index_of_optional : (o : Access) (k : ValueKind) (x : Outcome) (f : List ℕ) → IsOptionalOf k x → field_in o x f ≡ index_in o x (of_value (text f))
index_of_optional o k failed f h = refl
index_of_optional o k absent f h = refl
index_of_optional o k (present v) f h = at_text v f
index_of_optional o k (of_value v) f h = absurd h

-- an index by a text literal
text_index_holds : (f : List ℕ) (o : Access) (c d : Carried) (x : Outcome) (env : Environment) → Carries c x env → Carries d (of_value (text f)) env
    → WideHolds (text_index f o c d) (index_in o x (of_value (text f))) env
text_index_holds f Plain (plain k t) d x env h i = value_index_holds (plain k t) d x (of_value (text f)) env h i
text_index_holds f Optional (plain k t) d x env h i =
    subst (λ (y : Outcome). Carries (field_carried Optional f (plain k t)) y env) (optional_index x f) (field_holds Optional f (plain k t) x env h)
text_index_holds f Plain (guarded k g t) d x env h i =
    subst (λ (y : Outcome). Carries (field_carried Plain f (guarded k g t)) y env) (index_of_optional Plain k x f h.kind) (field_holds Plain f (guarded k g t) x env h)
text_index_holds f Optional (guarded k g t) d x env h i =
    subst (λ (y : Outcome). Carries (field_carried Optional f (guarded k g t)) y env) (optional_index x f) (field_holds Optional f (guarded k g t) x env h)
text_index_holds f Plain (listed k l) d x env h i =
    subst (λ (y : Outcome). Carries (field_carried Plain f (listed k l)) y env) (index_of_optional Plain k x f h.kind) (field_holds Plain f (listed k l) x env h)
text_index_holds f Optional (listed k l) d x env h i =
    subst (λ (y : Outcome). Carries (field_carried Optional f (listed k l)) y env) (optional_index x f) (field_holds Optional f (listed k l) x env h)

-- what the meaning of an index that is a text literal is
abbrev pub IsText : Option (List ℕ) → Outcome → Type 0
IsText (Some f) y = y ≡ of_value (text f)
IsText None y = ⊤

-- an index by an int literal of at least 0
count_holds : (n : ℕ) (o : Access) (c d : Carried) (x : Outcome) (env : Environment) → Carries c x env → Carries d (of_value (int (pos n))) env
    → WideHolds (count_index n o c d) (index_in o x (of_value (int (pos n)))) env
count_holds n Plain (plain k t) d x env h i = value_index_holds (plain k t) d x (of_value (int (pos n))) env h i
count_holds n Plain (guarded k g t) d x env h i =
    item_of_optional n k (guarded_tree g t) x env (record { list = guarded_means g t x env h.guard h.value; kind = h.kind })
count_holds n Plain (listed k l) d x env h i = item_of_optional n k l x env h
count_holds n Optional (plain k t) d x env h i = item_holds n (plain k t) x env h
count_holds n Optional (guarded k g t) d x env h i = item_holds n (guarded k g t) x env h
count_holds n Optional (listed k l) d x env h i = item_holds n (listed k l) x env h

-- what the meaning of an index that is such a literal is
abbrev pub IsCount : Option ℕ → Outcome → Type 0
IsCount (Some n) y = y ≡ of_value (int (pos n))
IsCount None y = ⊤

pub index_holds : (l : Option (List ℕ)) (m : Option ℕ) (o : Access) (c d : Carried) (x y : Outcome) (env : Environment) → IsText l y → IsCount m y → Carries c x env → Keeps second_name c x env
    → Carries d y env → Keeps held_name d y env → WideHolds (index_carried l m o c d) (index_in o x y) env
index_holds (Some f) m o c d x y env e g h s i r =
    subst (λ (z : Outcome). WideHolds (text_index f o c d) (index_in o x z) env) (sym e)
    (text_index_holds f o c d x env h (subst (λ (z : Outcome). Carries d z env) e i))
index_holds None (Some n) o c d x y env e g h s i r =
    subst (λ (z : Outcome). WideHolds (count_index n o c d) (index_in o x z) env) (sym g)
    (count_holds n o c d x env h (subst (λ (z : Outcome). Carries d z env) g i))
index_holds None None o c d x y env e g h s i r = index_by o c d x y env h s i r

-- ---- macros

pub two_by : (b c : Bool) → FitsKind kind.Bool (if b then value (boolean false) else (if c then value (boolean true) else error))
two_by true c = refl
two_by false true = refl
two_by false false = tt

pub two_other : (b c : Bool) → FitsKind kind.Bool (if b then value (boolean true) else (if c then value (boolean false) else error))
two_other true c = refl
two_other false true = refl
two_other false false = tt

pub one_by : (b c : Bool) → FitsKind kind.Bool (if b then error else value (boolean c))
one_by true c = tt
one_by false c = refl

pub list_by : (b : Bool) (x : ValueOrError) → FitsKind kind.List x → FitsKind kind.List (if b then error else x)
list_by true x h = tt
list_by false x h = h

pub literal_kind : (vs : Option (List Value)) → FitsKind kind.List (list_or_error vs)
literal_kind (Some vs) = refl
literal_kind None = tt

over_kind : (m : Macro) (f : Value → ValueOrError) (r : Option (List Value)) → FitsKind (macro_kind m) (over_items (plain_macro_of m) f r)
over_kind m f None = tt
over_kind macro.All f (Some is) = let ts : List Truth = each (λ x. truth (f x)) is in two_by (list_any is_no ts) (list_all is_yes ts)
over_kind macro.Exists f (Some is) = let ts : List Truth = each (λ x. truth (f x)) is in two_other (list_any is_yes ts) (list_all is_no ts)
over_kind macro.ExistsOne f (Some is) = let ts : List Truth = each (λ x. truth (f x)) is in one_by (list_any is_other ts) (nat_eq (count_by is_yes ts) 1)
over_kind macro.Filter f (Some is) =
    list_by (list_any (λ x. is_other (truth (f x))) is) (list_or_error (Some (filter (λ x. is_yes (truth (f x))) is))) refl
over_kind macro.Map f (Some is) = literal_kind (values_in (each f is))

filter_kind : (p f : Value → ValueOrError) (r : Option (List Value)) → FitsKind kind.List (filter_map_over p f r)
filter_kind p f None = tt
filter_kind p f (Some is) =
    let kept : List Value = filter (λ x. is_yes (truth (p x))) is in
    list_by (list_any (λ x. is_other (truth (p x))) is) (list_or_error (values_in (each f kept))) (literal_kind (values_in (each f kept)))

-- what a body carries for each item of a range
abbrev pub EachItem : List ℕ → Translation → (Value → Outcome) → Outcome → Environment → Type 0
EachItem x t p r env = ForEach (λ v. WideHolds t (p v) (bind x v env)) (range_of (plain_part r))

-- a tree means a value for each item
abbrev EachMeans : List ℕ → ValueKind → Tree → (Value → Outcome) → Outcome → Environment → Type 0
EachMeans x j b p r env = ForEach (λ v. IsPlain j b (p v) (bind x v env)) (range_of (plain_part r))

-- what follows from a body
pub over_holds : (x : List ℕ) (t : Translation) (p : Value → Outcome) (f : ValueKind → Tree → Translation) (r o : Outcome) (env : Environment)
    → EachItem x t p r env → ((j : ValueKind) (b : Tree) → EachMeans x j b p r env → WideHolds (f j b) o env)
    → WideHolds (with_plain t f) o env
over_holds x (refused e) p f r o env h g = tt
over_holds x (taken (plain j b)) p f r o env h g = g j b h
over_holds x (taken (guarded j a b)) p f r o env h g = tt
over_holds x (taken (listed j l)) p f r o env h g = tt

each_value : (x : List ℕ) (j : ValueKind) (b : Tree) (p : Value → Outcome) (r : Outcome) (env : Environment) → EachMeans x j b p r env
    → ForEach (λ v. meaning b (bind x v env) ≡ plain_part (p v)) (range_of (plain_part r))
each_value x j b p r env h =
    each_then (λ v. IsPlain j b (p v) (bind x v env)) (λ v. meaning b (bind x v env) ≡ plain_part (p v)) (range_of (plain_part r)) h (λ v i. i.means)

pub fold_holds : (m : Macro) (x : List ℕ) (k j : ValueKind) (a b : Tree) (r : Outcome) (p : Value → Outcome) (env : Environment) → IsPlain k a r env
    → EachMeans x j b p r env
    → IsPlain (macro_kind m) (macro_tree (plain_macro_of m) x a b) (outcome_of (over_items (plain_macro_of m) (λ v. plain_part (p v)) (range_of (plain_part r)))) env
unfolding is_variables
fold_holds m x k j a b r p env h i =
    plain_holds (macro_kind m) (macro_tree (plain_macro_of m) x a b) (over_items (plain_macro_of m) (λ v. plain_part (p v)) (range_of (plain_part r))) env
    (macro_means (plain_macro_of m) x a b env
    ∙ (λ l. over_items (plain_macro_of m) (λ v. meaning b (bind x v env)) (range_of (h.means l)))
    ∙ over_same (plain_macro_of m) (λ v. meaning b (bind x v env)) (λ v. plain_part (p v)) (range_of (plain_part r)) (each_value x j b p r env i))
    (over_kind m (λ v. plain_part (p v)) (range_of (plain_part r))) refl

pub filter_map_holds : (x : List ℕ) (k j i : ValueKind) (a b c : Tree) (r : Outcome) (p t : Value → Outcome) (env : Environment) → IsPlain k a r env
    → EachMeans x j b p r env → EachMeans x i c t r env
    → IsPlain kind.List (filter_map_tree x a b c) (outcome_of (filter_map_over (λ v. plain_part (p v)) (λ v. plain_part (t v)) (range_of (plain_part r)))) env
unfolding is_variables
filter_map_holds x k j i a b c r p t env h g q =
    plain_holds kind.List (filter_map_tree x a b c) (filter_map_over (λ v. plain_part (p v)) (λ v. plain_part (t v)) (range_of (plain_part r))) env
    (filter_map_means x a b c env
    ∙ (λ l. filter_map_over (λ v. meaning b (bind x v env)) (λ v. meaning c (bind x v env)) (range_of (h.means l)))
    ∙ where_same (λ v. meaning b (bind x v env)) (λ v. plain_part (p v)) (λ v. meaning c (bind x v env)) (λ v. plain_part (t v)) (range_of (plain_part r))
    (each_value x j b p r env g) (each_value x i c t r env q))
    (filter_kind (λ v. plain_part (p v)) (λ v. plain_part (t v)) (range_of (plain_part r))) refl
