-- Bools that texts denote, and values that are not zero.
use Rattle.std.proofs.Common.{◌≡◌, ℕ, zero, suc, Bool, true, false, ◌||◌, List, [], ◌∷◌, pos, negsuc, bytes_eq}
use Rattle.std.proofs.Common.{nat_eq}
use Rattle.std.proofs.Common.{if◌then◌else◌, refl, ap, ◌∙◌, arith}
use Rattle.cel_reader.specs.Tree.{Tree}
use Rattle.cel_reader.specs.Words.{is_one_of}
use Rattle.value_store.specs.Value.{Value, ValueOrError, error, value, null, boolean, int, text, list, map, no_items}
use Rattle.value_store.specs.Value.{item, no_entries, entry, items_of}
use Rattle.value_store.specs.Lookup.{has_item}
use Rattle.cel_macros.specs.Comparison.{equal_of, member_of}
use Rattle.cel_macros.specs.Environment.{Environment}
use Rattle.cel_macros.specs.Literals.{list_literal}
use Rattle.cel_macros.specs.Logic.{ternary_of, or_of}
unfoldable use Rattle.cel_macros.specs.Macros.{is_variables}
unfoldable use Rattle.cel_macros.specs.Meaning.{meaning, meanings}
use Rattle.wide_meaning.specs.Functions.{bool_of, true_texts, false_texts, is_zero, some_unless_zero}
use Rattle.wide_meaning.specs.Outcome.{Outcome, failed, plain as of_value, absent, present, outcome_of, plain_part}
use Rattle.wide_kinds.specs.declared.kind.ValueKind.{ValueKind}
use Rattle.wide_kinds.specs.declared.kind.ValueKind.TheVariants as kind
use Rattle.wide_kinds.specs.Fitting.{has_kind, FitsKind, IsOfKind, IsOptionalOf}
use Rattle.wide_translation.specs.Forms.{non_zero_tree, bool_tree, text_bool_tree, is_simple, let_tree, held}
use Rattle.wide_translation.specs.Holds.{list_part, IsPlain, IsListed}
use Rattle.wide_translation.specs.Names.{held_name}
use Rattle.wide_translation.specs.Translated.{once, bool_of_kind}
use Rattle.wide_translation.proofs.Steps.{MeansBy, once_means}

-- ---- values that are not zero

not_nought : (n : ℕ) → nat_eq (suc n) 0 ≡ false
not_nought n = grind arith

non_zero : (x : ValueOrError)
    → ternary_of (member_of x (value (list (items_of (null ∷ boolean false ∷ int (pos 0) ∷ text [] ∷ list no_items ∷ map no_entries ∷ []))))) (value (list no_items)) (list_literal (x ∷ []))
    ≡ list_part (some_unless_zero (outcome_of x))
non_zero error = refl
non_zero (value null) = refl
non_zero (value (boolean true)) = refl
non_zero (value (boolean false)) = refl
non_zero (value (int (pos zero))) = refl
non_zero (value (int (pos (suc n)))) =
    ap (λ b. ternary_of (value (boolean (b || false))) (value (list no_items)) (value (list (item (int (pos (suc n))) no_items)))) (not_nought n)
non_zero (value (int (negsuc n))) = refl
non_zero (value (text [])) = refl
non_zero (value (text (b ∷ bs))) = refl
non_zero (value (list no_items)) = refl
non_zero (value (list (item v is))) = refl
non_zero (value (map no_entries)) = refl
non_zero (value (map (entry k v es))) = refl

non_zero_means : MeansBy non_zero_tree (λ x. list_part (some_unless_zero (outcome_of x)))
unfolding meaning meanings
non_zero_means a env h = non_zero (meaning a env)

part_of : (k : ValueKind) (o : Outcome) → IsOfKind k o → outcome_of (plain_part o) ≡ o
part_of k failed h = refl
part_of k (of_value v) h = refl
part_of k absent h = absurd h
part_of k (present v) h = absurd h

unless_kind : (b : Bool) (k : ValueKind) (v : Value) → has_kind k v ≡ true → IsOptionalOf k (if b then absent else present v)
unless_kind true k v h = tt
unless_kind false k v h = h

some_kind : (k : ValueKind) (o : Outcome) → IsOfKind k o → IsOptionalOf k (some_unless_zero o)
some_kind k failed h = tt
some_kind k (of_value v) h = unless_kind (is_zero v) k v h
some_kind k absent h = absurd h
some_kind k (present v) h = absurd h

pub non_zero_holds : (k : ValueKind) (a : Tree) (x : Outcome) (env : Environment) → IsPlain k a x env → IsListed k (once a non_zero_tree) (some_unless_zero x) env
non_zero_holds k a x env h = record {
  list = once_means non_zero_tree (λ y. list_part (some_unless_zero (outcome_of y))) a env non_zero_means refl h.free
      ∙ ap (λ y. list_part (some_unless_zero (outcome_of y))) h.means ∙ ap (λ o. list_part (some_unless_zero o)) (part_of k x h.kind);
  kind = some_kind k x h.kind;
}

-- ---- bools

abbrev texts : List (List ℕ) → List Value
texts [] = []
texts (w ∷ ws) = text w ∷ texts ws

or_false : (b : Bool) → (b || false) ≡ b
or_false true = refl
or_false false = refl

texts_item : (ws : List (List ℕ)) (s : List ℕ) → has_item (text s) (items_of (texts ws)) ≡ is_one_of ws s
texts_item [] s = refl
texts_item (w ∷ []) s = or_false (bytes_eq s w)
texts_item (w ∷ v ∷ ws) s = ap (λ b. bytes_eq s w || b) (texts_item (v ∷ ws) s)

abbrev of_texts : List (List ℕ) → ValueOrError
of_texts ws = value (list (items_of (texts ws)))

abbrev yes : ValueOrError
yes = value (boolean true)

abbrev no : ValueOrError
no = value (boolean false)

abbrev any_bool : ValueOrError → ValueOrError
any_bool x = ternary_of (or_of (equal_of x yes) (member_of x (of_texts true_texts))) yes (ternary_of (or_of (equal_of x no) (member_of x (of_texts false_texts))) no error)

abbrev text_bool : ValueOrError → ValueOrError
text_bool x = ternary_of (member_of x (of_texts true_texts)) yes (ternary_of (member_of x (of_texts false_texts)) no error)

any_choice : (b c : Bool) → ternary_of (or_of no (value (boolean b))) yes (ternary_of (or_of no (value (boolean c))) no error) ≡ (if b then yes else (if c then no else error))
any_choice true c = refl
any_choice false true = refl
any_choice false false = refl

text_choice : (b c : Bool) → ternary_of (value (boolean b)) yes (ternary_of (value (boolean c)) no error) ≡ (if b then yes else (if c then no else error))
text_choice true c = refl
text_choice false true = refl
text_choice false false = refl

any_is : (x : ValueOrError) → any_bool x ≡ bool_of x
any_is error = refl
any_is (value null) = refl
any_is (value (boolean true)) = refl
any_is (value (boolean false)) = refl
any_is (value (int z)) = refl
any_is (value (list is)) = refl
any_is (value (map es)) = refl
any_is (value (text s)) =
    (λ j. ternary_of (or_of no (value (boolean (texts_item true_texts s j)))) yes (ternary_of (or_of no (value (boolean (texts_item false_texts s j)))) no error))
    ∙ any_choice (is_one_of true_texts s) (is_one_of false_texts s)

text_is : (x : ValueOrError) → FitsKind kind.String x → text_bool x ≡ bool_of x
text_is error f = refl
text_is (value null) f = absurd (cc)
text_is (value (boolean b)) f = absurd (cc)
text_is (value (int z)) f = absurd (cc)
text_is (value (list is)) f = absurd (cc)
text_is (value (map es)) f = absurd (cc)
text_is (value (text s)) f =
    (λ j. ternary_of (value (boolean (texts_item true_texts s j))) yes (ternary_of (value (boolean (texts_item false_texts s j))) no error))
    ∙ text_choice (is_one_of true_texts s) (is_one_of false_texts s)

any_means : MeansBy bool_tree any_bool
unfolding meaning meanings
any_means a env h = refl

text_means : MeansBy text_bool_tree text_bool
unfolding meaning meanings
text_means a env h = refl

once_any : (t : Tree) (x : ValueOrError) (env : Environment) → meaning t env ≡ x → is_variables t ≡ false → meaning (once t bool_tree) env ≡ bool_of x
once_any t x env m v = once_means bool_tree any_bool t env any_means refl v ∙ ap any_bool m ∙ any_is x

pub bool_means : (k : ValueKind) (t : Tree) (x : ValueOrError) (env : Environment) → meaning t env ≡ x → FitsKind k x → is_variables t ≡ false
    → meaning (bool_of_kind k t) env ≡ bool_of x
bool_means kind.String t x env m f v = once_means text_bool_tree text_bool t env text_means refl v ∙ ap text_bool m ∙ text_is x f
bool_means kind.Int t x env m f v = once_any t x env m v
bool_means kind.Bool t x env m f v = once_any t x env m v
bool_means kind.Null t x env m f v = once_any t x env m v
bool_means kind.List t x env m f v = once_any t x env m v
bool_means kind.Map t x env m f v = once_any t x env m v
bool_means kind.Dyn t x env m f v = once_any t x env m v

any_free : (b : Bool) (t : Tree) → is_variables (if b then bool_tree t else let_tree held_name t (bool_tree held)) ≡ false
unfolding is_variables
any_free true t = refl
any_free false t = refl

text_free : (b : Bool) (t : Tree) → is_variables (if b then text_bool_tree t else let_tree held_name t (text_bool_tree held)) ≡ false
unfolding is_variables
text_free true t = refl
text_free false t = refl

pub bool_free : (k : ValueKind) (t : Tree) → is_variables (bool_of_kind k t) ≡ false
bool_free kind.String t = text_free (is_simple t) t
bool_free kind.Int t = any_free (is_simple t) t
bool_free kind.Bool t = any_free (is_simple t) t
bool_free kind.Null t = any_free (is_simple t) t
bool_free kind.List t = any_free (is_simple t) t
bool_free kind.Map t = any_free (is_simple t) t
bool_free kind.Dyn t = any_free (is_simple t) t

parsed_kind : (b c : Bool) → FitsKind kind.Bool (if b then yes else (if c then no else error))
parsed_kind true c = refl
parsed_kind false true = refl
parsed_kind false false = tt

pub bool_kind : (x : ValueOrError) → FitsKind kind.Bool (bool_of x)
bool_kind error = tt
bool_kind (value (boolean b)) = refl
bool_kind (value (text s)) = parsed_kind (is_one_of true_texts s) (is_one_of false_texts s)
bool_kind (value null) = tt
bool_kind (value (int z)) = tt
bool_kind (value (list is)) = tt
bool_kind (value (map es)) = tt
