-- Literals of maps.
use Rattle.std.specs.Prelude.{⊤}
use Rattle.std.proofs.Common.{◌≡◌, ℕ, nat_le, Bool, true, false, pos, if◌then◌else◌, List, [], ◌∷◌, ◌++◌, Option}
use Rattle.std.proofs.Common.{Some, None, refl, ap, sym, ◌∙◌, subst}
use Rattle.cel_reader.specs.Tree as tree
use Rattle.cel_reader.specs.Tree.{Tree, Trees, no_trees, more_trees, TreeEntries, no_entries as no_tree_entries}
use Rattle.cel_reader.specs.Tree.{more_entries}
use Rattle.cel_reader.specs.declared.operator.BinaryOperator.TheVariants as binary
use Rattle.value_store.specs.Value.{Value, ValueOrError, error, value, int, text, list, no_items as no_list_items}
use Rattle.value_store.specs.Value.{Entries as ValueEntries, no_entries as no_values}
use Rattle.cel_macros.specs.Comparison.{unequal_of}
use Rattle.cel_macros.specs.Environment.{Environment}
use Rattle.cel_macros.specs.Literals.{map_or_error, entries_in, with_entry, text_part}
use Rattle.cel_macros.specs.Logic.{Truth, Yes, No, Other, truth, chosen, ternary_of}
unfoldable use Rattle.cel_macros.specs.Macros.{is_variables}
unfoldable use Rattle.cel_macros.specs.Meaning.{meaning, meanings, entry_meanings}
use Rattle.wide_reader.specs.declared.wide.Access.{Access, TheVariants.Plain, TheVariants.Optional}
use Rattle.cel_macros.specs.Selection.{index_of}
use Rattle.wide_meaning.specs.Operators.{if_text, entry_in, map_in}
use Rattle.wide_meaning.specs.Outcome.{Outcome, failed, plain as of_value, absent, present, plain_part}
use Rattle.wide_kinds.specs.declared.kind.ValueKind.{ValueKind}
use Rattle.wide_kinds.specs.declared.kind.ValueKind.TheVariants as kind
use Rattle.wide_kinds.specs.Fitting.{FitsKind, IsOptionalOf}
use Rattle.wide_translation.specs.Carried.{Carried, plain, guarded, listed, OptionalEntry, Translation, taken}
use Rattle.wide_translation.specs.Carried.{refused}
use Rattle.wide_translation.specs.Forms.{empty_tree, first_tree}
use Rattle.wide_translation.specs.Holds.{guard_part, value_part, list_part, Carries, WideHolds}
use Rattle.wide_translation.specs.Translated.{EntryParts, no_parts_left, entry_part, optional_part, Pairs, pairs}
use Rattle.wide_translation.specs.Translated.{no_pairs, entries_push, map_tree, optional_count, optional_more}
use Rattle.wide_translation.specs.Translated.{keyed_more, entry_more, map_translation}
use Rattle.wide_translation.proofs.FieldsHold.{plain_holds}

-- ---- entries

map_kind : (es : Option ValueEntries) → FitsKind kind.Map (map_or_error es)
map_kind (Some es) = refl
map_kind None = tt

-- the entries of the parts; None if one is the error, or a key is no text or is repeated
abbrev pub parts_meaning : EntryParts → Environment → Option ValueEntries
parts_meaning no_parts_left env = Some no_values
parts_meaning (entry_part k v more) env = with_entry (text_part (meaning k env)) (meaning v env) (parts_meaning more env)
parts_meaning (optional_part f g v more) env =
    chosen (truth (meaning g env)) (with_entry (Some f) (meaning v env) (parts_meaning more env)) (parts_meaning more env) None

abbrev pub PairsHold : Pairs → Option ValueEntries → Environment → Type 0
PairsHold (pairs ts) es env = parts_meaning ts env ≡ es
PairsHold (no_pairs e) es env = ⊤

-- an optional entry
guarded_entry : (f : List ℕ) (g v : Tree) (ps : EntryParts) (x y : Outcome) (es : Option ValueEntries) (env : Environment) → text_part (plain_part x) ≡ Some f
    → meaning g env ≡ guard_part y → meaning v env ≡ value_part y → ((w : Value) → y ≡ of_value w → ⊥) → parts_meaning ps env ≡ es
    → parts_meaning (optional_part f g v ps) env ≡ entry_in Optional x y es
guarded_entry f g v ps x failed es env k hg hv n p = λ j. chosen (truth (hg j)) (with_entry (Some f) (hv j) (p j)) (p j) None
guarded_entry f g v ps x absent es env k hg hv n p =
    (λ j. chosen (truth (hg j)) (with_entry (Some f) (hv j) (p j)) (p j) None) ∙ sym (ap (λ t. if_text t es) k)
guarded_entry f g v ps x (present w) es env k hg hv n p =
    (λ j. chosen (truth (hg j)) (with_entry (Some f) (hv j) (p j)) (p j) None) ∙ sym (ap (λ t. with_entry t (value w) es) k)
guarded_entry f g v ps x (of_value w) es env k hg hv n p = absurd (n w refl)

no_value : (k : ValueKind) (y : Outcome) → IsOptionalOf k y → (w : Value) → y ≡ of_value w → ⊥
no_value k y h w e = subst (λ (o : Outcome). IsOptionalOf k o) e h

has_list : (o : Outcome) → unequal_of (list_part o) (value (list no_list_items)) ≡ guard_part o
has_list failed = refl
has_list (of_value v) = refl
has_list absent = refl
has_list (present v) = refl

list_value : (o : Outcome) → index_of (list_part o) (value (int (pos 0))) ≡ value_part o
list_value failed = refl
list_value (of_value v) = refl
list_value absent = refl
list_value (present v) = refl

optional_holds : (f : List ℕ) (c : Carried) (ps : Pairs) (x y : Outcome) (es : Option ValueEntries) (env : Environment) → text_part (plain_part x) ≡ Some f → Carries c y env
    → PairsHold ps es env → PairsHold (optional_more f c ps) (entry_in Optional x y es) env
unfolding meaning meanings
optional_holds f (plain k t) ps x y es env e h p = tt
optional_holds f (guarded k g v) (pairs ps) x y es env e h p = guarded_entry f g v ps x y es env e h.guard h.value (no_value k y h.kind) p
optional_holds f (guarded k g v) (no_pairs n) x y es env e h p = tt
optional_holds f (listed k l) (pairs ps) x y es env e h p =
    guarded_entry f (tree.binary binary.NotEqual l empty_tree) (first_tree l) ps x y es env e
    (ap (λ z. unequal_of z (value (list no_list_items))) h.list ∙ has_list y) (ap (λ z. index_of z (value (int (pos 0)))) h.list ∙ list_value y) (no_value k y h.kind) p
optional_holds f (listed k l) (no_pairs n) x y es env e h p = tt

keyed_holds : (t : Tree) (c : Carried) (ps : Pairs) (x y : Outcome) (es : Option ValueEntries) (env : Environment) → meaning t env ≡ plain_part x → Carries c y env
    → PairsHold ps es env → PairsHold (keyed_more t c ps) (entry_in Optional x y es) env
unfolding meaning
keyed_holds (tree.literal (tree.text f)) c ps x y es env m h p = optional_holds f c ps x y es env (sym (ap text_part m)) h p
keyed_holds (tree.literal (tree.int z)) c ps x y es env m h p = tt
keyed_holds (tree.literal (tree.truth b)) c ps x y es env m h p = tt
keyed_holds (tree.literal tree.null) c ps x y es env m h p = tt
keyed_holds _ c ps x y es env m h p = tt

pub entry_holds : (o : Access) (t u : Translation) (ps : Pairs) (x y : Outcome) (es : Option ValueEntries) (env : Environment) → WideHolds t x env → WideHolds u y env → PairsHold ps es env
    → PairsHold (entry_more o t u ps) (entry_in o x y es) env
entry_holds Plain (taken (plain k t)) (taken (plain l u)) (pairs ts) x y es env h i p = λ j. with_entry (text_part (h.means j)) (i.means j) (p j)
entry_holds Plain (taken (plain k t)) (taken (plain l u)) (no_pairs e) x y es env h i p = tt
entry_holds Plain (taken (plain k t)) (taken (guarded l g v)) ps x y es env h i p = tt
entry_holds Plain (taken (plain k t)) (taken (listed l m)) ps x y es env h i p = tt
entry_holds Plain (taken (plain k t)) (refused e) ps x y es env h i p = tt
entry_holds Plain (taken (guarded k g v)) u ps x y es env h i p = tt
entry_holds Plain (taken (listed k l)) u ps x y es env h i p = tt
entry_holds Plain (refused e) u ps x y es env h i p = tt
entry_holds Optional (taken (plain k t)) (taken c) ps x y es env h i p = keyed_holds t c ps x y es env h.means i p
entry_holds Optional (taken (plain k t)) (refused e) ps x y es env h i p = tt
entry_holds Optional (taken (guarded k g v)) u ps x y es env h i p = tt
entry_holds Optional (taken (listed k l)) u ps x y es env h i p = tt
entry_holds Optional (refused e) u ps x y es env h i p = tt

-- these keys and values, and then the other entries
abbrev onto : List (ValueOrError × ValueOrError) → Option ValueEntries → Option ValueEntries
onto [] r = r
onto (e ∷ es) r = with_entry (text_part e.0) e.1 (onto es r)

no_more : (k : Option (List ℕ)) (x : ValueOrError) → with_entry k x None ≡ None
no_more None x = refl
no_more (Some k) error = refl
no_more (Some k) (value v) = refl

onto_none : (es : List (ValueOrError × ValueOrError)) → onto es None ≡ None
onto_none [] = refl
onto_none (e ∷ es) = ap (with_entry (text_part e.0) e.1) (onto_none es) ∙ no_more (text_part e.0) e.1

onto_push : (es : List (ValueOrError × ValueOrError)) (x y : ValueOrError) (r : Option ValueEntries) → onto (es ++ (x, y) ∷ []) r ≡ onto es (with_entry (text_part x) y r)
onto_push [] x y r = refl
onto_push (e ∷ es) x y r = ap (with_entry (text_part e.0) e.1) (onto_push es x y r)

onto_all : (es : List (ValueOrError × ValueOrError)) → onto es (Some no_values) ≡ entries_in es
onto_all [] = refl
onto_all (e ∷ es) = ap (with_entry (text_part e.0) e.1) (onto_all es)

pushed_meanings : (ts : TreeEntries) (k v : Tree) (env : Environment) → entry_meanings (entries_push ts k v) env ≡ entry_meanings ts env ++ (meaning k env, meaning v env) ∷ []
unfolding entry_meanings
pushed_meanings no_tree_entries k v env = refl
pushed_meanings (more_entries l w more) k v env = ap (λ es. (meaning l env, meaning w env) ∷ es) (pushed_meanings more k v env)

chosen_map : (t : Truth) (es : List (ValueOrError × ValueOrError)) (f : List ℕ) (y : ValueOrError) (r : Option ValueEntries)
    → chosen t (map_or_error (onto (es ++ (value (text f), y) ∷ []) r)) (map_or_error (onto es r)) error ≡ map_or_error (onto es (chosen t (with_entry (Some f) y r) r None))
chosen_map Yes es f y r = ap map_or_error (onto_push es (value (text f)) y r)
chosen_map No es f y r = refl
chosen_map Other es f y r = sym (ap map_or_error (onto_none es))

map_means : (before : TreeEntries) (ps : EntryParts) (env : Environment) → meaning (map_tree before ps) env ≡ map_or_error (onto (entry_meanings before env) (parts_meaning ps env))
unfolding meaning
map_means before no_parts_left env = sym (ap map_or_error (onto_all (entry_meanings before env)))
map_means before (entry_part k v more) env =
    map_means (entries_push before k v) more env
    ∙ (λ j. map_or_error (onto (pushed_meanings before k v env j) (parts_meaning more env)))
    ∙ ap map_or_error (onto_push (entry_meanings before env) (meaning k env) (meaning v env) (parts_meaning more env))
map_means before (optional_part f g v more) env =
    (λ j. ternary_of (meaning g env) ((map_means (entries_push before (tree.literal (tree.text f)) v) more env
    ∙ (λ i. map_or_error (onto (pushed_meanings before (tree.literal (tree.text f)) v env i) (parts_meaning more env)))) j) (map_means before more env j))
    ∙ chosen_map (truth (meaning g env)) (entry_meanings before env) f (meaning v env) (parts_meaning more env)

map_free : (before : TreeEntries) (ps : EntryParts) → is_variables (map_tree before ps) ≡ false
unfolding is_variables
map_free before no_parts_left = refl
map_free before (entry_part k v more) = map_free (entries_push before k v) more
map_free before (optional_part f g v more) = refl

map_by : (b : Bool) (ts : EntryParts) (es : Option ValueEntries) (env : Environment) → parts_meaning ts env ≡ es
    → WideHolds (if b then taken (plain kind.Map (map_tree no_tree_entries ts)) else refused OptionalEntry) (map_in es) env
unfolding entry_meanings
map_by true ts es env p =
    plain_holds kind.Map (map_tree no_tree_entries ts) (map_or_error es) env (map_means no_tree_entries ts env ∙ ap map_or_error p) (map_kind es) (map_free no_tree_entries ts)
map_by false ts es env p = tt

pub map_translated : (ps : Pairs) (es : Option ValueEntries) (env : Environment) → PairsHold ps es env → WideHolds (map_translation ps) (map_in es) env
map_translated (pairs ts) es env p = map_by (nat_le (optional_count ts) 3) ts es env p
map_translated (no_pairs e) es env p = tt
