-- The ranges of macros with two iteration names.
use Rattle.std.specs.Prelude.{⊤}
use Rattle.std.proofs.Common.{◌≡◌, Bool, true, false, [], ◌∷◌, Some, option_map, map as each, refl, ap, sym, ◌∙◌}
use Rattle.cel_reader.specs.Tree.{Tree}
use Rattle.value_store.specs.Value.{ValueOrError, error, value, null, boolean, int, text, list, map, Entries, list_of}
use Rattle.cel_macros.specs.Environment.{Environment}
use Rattle.cel_macros.specs.Literals.{list_literal}
use Rattle.cel_macros.specs.Logic.{ternary_of}
use Rattle.cel_macros.specs.Macros.{range_of}
use Rattle.cel_macros.specs.Meaning.{meaning}
use Rattle.cel_macros.specs.Selection.{index_of}
use Rattle.cel_macros.specs.declared.macros.Macro.TheVariants as plain_macro
use Rattle.wide_meaning.specs.Outcome.{Outcome, plain_part}
use Rattle.wide_meaning.specs.Ranges.{over_items, pairs_of}
use Rattle.wide_kinds.specs.declared.kind.ValueKind.{ValueKind}
use Rattle.wide_kinds.specs.declared.kind.ValueKind.TheVariants as kind
use Rattle.wide_kinds.specs.Fitting.{FitsKind}
use Rattle.wide_translation.specs.Carried.{Translation}
use Rattle.wide_translation.specs.Holds.{WideHolds}
use Rattle.wide_translation.specs.Indexed.{Covers, CoversIf}
use Rattle.wide_translation.specs.Pairs.{PairUse, values_only, keys_only, both, pair_use, table_tree, values_tree}
use Rattle.wide_translation.specs.Pairs.{pairs_tree, items_tree, keys_tree, any_pairs_tree, is_map_kind, pair_range}
use Rattle.wide_translation.specs.Pairs.{with_range}
use Rattle.wide_translation.specs.Translated.{once}
use Rattle.wide_translation.proofs.Environments.{picked}
use Rattle.wide_translation.proofs.PairForms.{IsSteady, over_means, values_in_map, pairs_in_map, items_in, indices_in}
use Rattle.wide_translation.proofs.PairForms.{keys_in, any_pairs_in, values_mean, pairs_mean, items_mean, keys_mean}
use Rattle.wide_translation.proofs.PairForms.{any_pairs_mean}
use Rattle.wide_translation.proofs.PairLists.{list_is_list, map_is_no_list, second_of, first_of_keyed, values_of_map}
use Rattle.wide_translation.proofs.PairLists.{pairs_of_map, indices_of_list, first_of_numbered, pairs_of_list}

-- ---- the range

-- the range of the macro that the translation writes
abbrev pub IsPairRange : PairUse → Tree → Outcome → Environment → Type 0
IsPairRange u r x env = range_of (meaning r env) ≡ option_map (each (picked u)) (pairs_of (plain_part x))

-- the error, or a map
data MapOrFailed : ValueOrError → Type 0 where
  no_value : MapOrFailed error
  a_map : (es : Entries) → MapOrFailed (value (map es))

fits_map : (x : ValueOrError) → FitsKind kind.Map x → MapOrFailed x
fits_map error h = no_value
fits_map (value (map es)) h = a_map es
fits_map (value null) h = absurd (cc)
fits_map (value (boolean b)) h = absurd (cc)
fits_map (value (int z)) h = absurd (cc)
fits_map (value (text s)) h = absurd (cc)
fits_map (value (list is)) h = absurd (cc)

map_or_failed : (k : ValueKind) (x : ValueOrError) → is_map_kind k ≡ true → FitsKind k x → MapOrFailed x
map_or_failed kind.Map x e h = fits_map x h
map_or_failed kind.Null x e h = absurd (cc)
map_or_failed kind.Bool x e h = absurd (cc)
map_or_failed kind.Int x e h = absurd (cc)
map_or_failed kind.String x e h = absurd (cc)
map_or_failed kind.List x e h = absurd (cc)
map_or_failed kind.Dyn x e h = absurd (cc)

values_range : (x : ValueOrError) → MapOrFailed x → range_of (values_in_map x) ≡ option_map (each (picked values_only)) (pairs_of x)
values_range _ no_value = refl
values_range _ (a_map es) = values_of_map es

keys_range : (x : ValueOrError) → MapOrFailed x → range_of x ≡ option_map (each (picked keys_only)) (pairs_of x)
keys_range _ no_value = refl
keys_range _ (a_map es) = ap Some (sym (first_of_keyed es es))

pairs_range : (x : ValueOrError) → MapOrFailed x → range_of (pairs_in_map x) ≡ option_map (each (picked both)) (pairs_of x)
pairs_range _ no_value = refl
pairs_range _ (a_map es) = pairs_of_map es

items_range : (x : ValueOrError) → range_of (items_in x) ≡ option_map (each (picked values_only)) (pairs_of x)
items_range error = refl
items_range (value null) = refl
items_range (value (boolean b)) = refl
items_range (value (int z)) = refl
items_range (value (text s)) = refl
items_range (value (list is)) =
    (λ j. range_of (ternary_of (list_is_list is j) (value (list is)) (values_in_map (value (list is)))))
    ∙ ap Some (sym (second_of 0 (list_of is)))
items_range (value (map es)) =
    (λ j. range_of (ternary_of (map_is_no_list es j) (value (map es)) (values_in_map (value (map es)))))
    ∙ values_of_map es

keys_or_indices : (x y : ValueOrError) → Covers y x → range_of (keys_in y x) ≡ option_map (each (picked keys_only)) (pairs_of x)
keys_or_indices error y c = refl
keys_or_indices (value null) y c = refl
keys_or_indices (value (boolean b)) y c = refl
keys_or_indices (value (int z)) y c = refl
keys_or_indices (value (text s)) y c = refl
keys_or_indices (value (list is)) y c =
    (λ j. range_of (ternary_of (list_is_list is j) (indices_in y (value (list is))) (value (list is))))
    ∙ indices_of_list is y c ∙ ap Some (first_of_numbered 0 (list_of is))
keys_or_indices (value (map es)) y c =
    (λ j. range_of (ternary_of (map_is_no_list es j) (indices_in y (value (map es))) (value (map es)))) ∙ ap Some (sym (first_of_keyed es es))

any_pairs : (x y : ValueOrError) → Covers y x → range_of (any_pairs_in y x) ≡ option_map (each (picked both)) (pairs_of x)
any_pairs error y c = refl
any_pairs (value null) y c = refl
any_pairs (value (boolean b)) y c = refl
any_pairs (value (int z)) y c = refl
any_pairs (value (text s)) y c = refl
any_pairs (value (list is)) y c =
    (λ j. range_of (ternary_of (list_is_list is j) (over_items plain_macro.Map (λ w. list_literal (value w ∷ index_of (value (list is)) (value w) ∷ [])) (range_of (indices_in y (value (list is)))))
    (pairs_in_map (value (list is)))))
    ∙ pairs_of_list is y c
any_pairs (value (map es)) y c =
    (λ j. range_of (ternary_of (map_is_no_list es j) (over_items plain_macro.Map (λ w. list_literal (value w ∷ index_of (value (map es)) (value w) ∷ [])) (range_of (indices_in y (value (map es)))))
    (pairs_in_map (value (map es)))))
    ∙ pairs_of_map es

-- the table has an int for each item, if the macro uses keys
abbrev pub IsCovered : PairUse → ValueOrError → ValueOrError → Type 0
IsCovered values_only y x = ⊤
IsCovered keys_only y x = Covers y x
IsCovered both y x = Covers y x

pub covered_by : (k v : Bool) (y x : ValueOrError) → CoversIf k y x → IsCovered (pair_use k v) y x
covered_by false v y x c = tt
covered_by true false y x c = c
covered_by true true y x c = c

-- the table of indices is y
module _ (y : ValueOrError) where
  pub range_holds : (w : Bool) (u : PairUse) (b : Bool) (k : ValueKind) (a : Tree) (x o : Outcome) (env : Environment) (f : Tree → Translation) → is_map_kind k ≡ b
      → (w ≡ true → IsCovered u y (plain_part x)) → meaning table_tree env ≡ y → meaning a env ≡ plain_part x → FitsKind k (plain_part x) → IsSteady a env
      → ((r : Tree) → IsPairRange u r x env → WideHolds (f r) o env) → WideHolds (with_range (pair_range w u b a) f) o env
  range_holds w values_only true k a x o env f e c t h i s g =
      g (once a values_tree) ((λ j. range_of ((over_means y values_tree values_in_map a env (values_mean y) refl t s ∙ ap values_in_map h) j)) ∙ values_range (plain_part x) (map_or_failed k (plain_part x) e i))
  range_holds w values_only false k a x o env f e c t h i s g =
      g (once a items_tree) ((λ j. range_of ((over_means y items_tree items_in a env (items_mean y) refl t s ∙ ap items_in h) j)) ∙ items_range (plain_part x))
  range_holds w keys_only true k a x o env f e c t h i s g = g a (ap range_of h ∙ keys_range (plain_part x) (map_or_failed k (plain_part x) e i))
  range_holds w both true k a x o env f e c t h i s g =
      g (once a pairs_tree) ((λ j. range_of ((over_means y pairs_tree pairs_in_map a env (pairs_mean y) refl t s ∙ ap pairs_in_map h) j)) ∙ pairs_range (plain_part x) (map_or_failed k (plain_part x) e i))
  range_holds true keys_only false k a x o env f e c t h i s g =
      g (once a keys_tree) ((λ j. range_of ((over_means y keys_tree (keys_in y) a env (keys_mean y) refl t s ∙ ap (keys_in y) h) j)) ∙ keys_or_indices (plain_part x) y (c refl))
  range_holds true both false k a x o env f e c t h i s g =
      g (once a any_pairs_tree) ((λ j. range_of ((over_means y any_pairs_tree (any_pairs_in y) a env (any_pairs_mean y) refl t s ∙ ap (any_pairs_in y) h) j)) ∙ any_pairs (plain_part x) y (c refl))
  range_holds false keys_only false k a x o env f e c t h i s g = tt
  range_holds false both false k a x o env f e c t h i s g = tt
