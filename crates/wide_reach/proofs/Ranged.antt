-- Ranges of macros, and what macros make of their items.
use Rattle.std.proofs.Common.{◌≡◌, ℕ, suc, pos, Bool, true, false, List, [], ◌∷◌, ◌++◌, sym, subst, Option, Some, None}
use Rattle.std.proofs.Common.{⊎_elim, Contains, filter, unwrap_or, if◌then◌else◌, map as each}
use Rattle.std.proofs.lemmas.List.Elements.{Contains-append_right}
use Rattle.std.specs.List.{list_any}
use Rattle.value_store.specs.Lookup.{find}
use Rattle.value_store.specs.Value.{Value, null, boolean, int, text, list, map, list_of, Entries, no_entries, entry, keys_of}
use Rattle.value_store.specs.Value.{ValueOrError, error, value}
use Rattle.cel_macros.specs.Literals.{list_or_error, list_literal, values_in, with_value}
use Rattle.cel_macros.specs.Logic.{Truth, truth}
use Rattle.cel_macros.specs.Macros.{range_of, is_yes, is_other, where_true, map_of}
use Rattle.wide_reader.specs.declared.wide.Access.{Access, TheVariants.Plain, TheVariants.Optional}
use Rattle.wide_reader.specs.declared.wide.Macro.{Macro}
use Rattle.wide_reader.specs.declared.wide.Macro.TheVariants as macro
use Rattle.wide_reader.specs.declared.wide.OptionalMacro.{OptionalMacro, TheVariants.Map, TheVariants.FlatMap}
use Rattle.wide_reader.specs.declared.wide.PairMacro.{PairMacro}
use Rattle.wide_reader.specs.declared.wide.PairMacro.TheVariants as pair
use Rattle.wide_meaning.specs.Operators.{item_in, list_in}
use Rattle.wide_meaning.specs.Outcome.{Outcome, failed, plain, absent, present, outcome_of, plain_part}
use Rattle.wide_meaning.specs.Ranges.{plain_macro_of, over_items, filter_map_over, over_pairs, pair_filter_map_over}
use Rattle.wide_meaning.specs.Ranges.{pairs_of, numbered, keyed, optional_over}
use Rattle.wide_reach.specs.Known.{fold_known, pair_fold_known}
use Rattle.wide_reach.specs.Law.{IsOutcomeReached}
use Rattle.wide_reach.specs.Parts.{items, keys, fields, entries, indexed, ranged}
use Rattle.wide_reach.specs.Ranges.{one_list, fold_reach, pair_fold_reach}
use Rattle.wide_reach.specs.Reached.{IsReached, one}
use Rattle.wide_reach.proofs.Lists.{AreAmong, first, later, none, which, kept, mapped_source}
use Rattle.wide_reach.proofs.Reached.{list_items, map_keys, map_fields, key_found, fields_among, more, left, right, listed_reached}
use Rattle.wide_reach.proofs.Results.{IsResultReached, outcome_reached, plain_reached, some_reached, left_outcome}
use Rattle.wide_reach.proofs.Truths.{truth_reached, all_bool, exists_bool, exists_one_bool}

-- each value is reached, if there are values
abbrev pub AreReached : List Value → Option (List Value) → Type 0
AreReached us None = Unit {0}
AreReached us (Some vs) = (v : Value) → Contains vs v → IsReached us v

-- the second value of each pair is reached, if there are pairs
abbrev pub ArePairsReached : List Value → Option (List (Value × Value)) → Type 0
ArePairsReached us None = Unit {0}
ArePairsReached us (Some ps) = (e : Value × Value) → Contains ps e → IsReached us e.1

-- ---- ranges

pub range_reached : (vs : List Value) (x : ValueOrError) → IsResultReached vs x → AreReached (ranged vs) (range_of x)
range_reached vs error h = tt
range_reached vs (value null) h = tt
range_reached vs (value (boolean b)) h = tt
range_reached vs (value (int z)) h = tt
range_reached vs (value (text s)) h = tt
range_reached vs (value (list is)) h = λ v i. left (items vs) (keys vs) v (list_items vs is h v i)
range_reached vs (value (map es)) h =
    λ v i. let s = mapped_source text (keys_of es) v i in
    subst (IsReached (ranged vs)) s.2 (one (Contains-append_right (items vs) (keys vs) (text s.0) (map_keys vs es h s.0 s.1)))

numbered_item : (n : ℕ) (vs : List Value) (e : Value × Value) → Contains (numbered n vs) e → Contains vs e.1
numbered_item n [] e h = absurd (none e h)
numbered_item n (v ∷ vs) e h =
    ⊎_elim (λ q. subst (λ (p : Value × Value). Contains (v ∷ vs) p.1) q (first v vs)) (λ m. later v vs e.1 (numbered_item (suc n) vs e m))
    (which (int (pos n), v) (numbered (suc n) vs) e h)

found_reached : (us : List Value) (fs : Entries) (k : List ℕ) (v : Value) → ((l : List ℕ) (w : Value) → find l fs ≡ Some w → IsReached us w)
    → Contains (keys_of fs) k → IsReached us (unwrap_or (find k fs) v)
found_reached us fs k v h i =
    let o = key_found fs k i in subst (λ (q : Option Value). IsReached us (unwrap_or q v)) (sym o.1) (h k o.0 o.1)

keyed_value : (us : List Value) (fs es : Entries) → ((l : List ℕ) (w : Value) → find l fs ≡ Some w → IsReached us w)
    → AreAmong (keys_of es) (keys_of fs) → (e : Value × Value) → Contains (keyed fs es) e → IsReached us e.1
keyed_value us fs no_entries h s e i = absurd (none e i)
keyed_value us fs (entry k v es) h s e i =
    ⊎_elim (λ q. subst (λ (p : Value × Value). IsReached us p.1) q (found_reached us fs k v h (s k (first k (keys_of es)))))
    (λ m. keyed_value us fs es h (λ l j. s l (later k (keys_of es) l j)) e m) (which (text k, unwrap_or (find k fs) v) (keyed fs es) e i)

pub pairs_reached : (vs : List Value) (x : ValueOrError) → IsResultReached vs x → ArePairsReached (indexed vs) (pairs_of x)
pairs_reached vs error h = tt
pairs_reached vs (value null) h = tt
pairs_reached vs (value (boolean b)) h = tt
pairs_reached vs (value (int z)) h = tt
pairs_reached vs (value (text s)) h = tt
pairs_reached vs (value (list is)) h =
    λ e i. left (items vs) (entries vs) e.1 (list_items vs is h e.1 (numbered_item 0 (list_of is) e i))
pairs_reached vs (value (map es)) h =
    λ e i. right (items vs) (entries vs) e.1
    (keyed_value (entries vs) es es (λ k v f. more (fields k vs) (entries vs) v (map_fields vs es h k v f) (fields_among k vs))
    (λ k j. j) e i)

-- ---- lists of results

or_error_reached : (us : List Value) (b : Bool) (x : ValueOrError) → IsResultReached us x → IsResultReached us (if b then error else x)
or_error_reached us true x h = tt
or_error_reached us false x h = h

list_reached : (us : List Value) (o : Option (List Value)) → AreReached us o → IsResultReached (one_list us) (list_or_error o)
list_reached us None h = tt
list_reached us (Some vs) h = listed_reached us vs h

pub with_reached : (us : List Value) (x : ValueOrError) (o : Option (List Value)) → IsResultReached us x → AreReached us o
    → AreReached us (with_value x o)
with_reached us error o h g = tt
with_reached us (value v) None h g = tt
with_reached us (value v) (Some vs) h g = λ w i. ⊎_elim (λ e. subst (IsReached us) e h) (λ m. g w m) (which v vs w i)

values_reached : {A : Type 0} (us : List Value) (f : A → ValueOrError) (xs : List A) → ((x : A) → Contains xs x → IsResultReached us (f x))
    → AreReached us (values_in (each f xs))
values_reached us f [] h = λ v i. absurd (none v i)
values_reached us f (x ∷ xs) h =
    with_reached us (f x) (values_in (each f xs)) (h x (first x xs)) (values_reached us f xs (λ y i. h y (later x xs y i)))

pub literal_reached : {A : Type 0} (us : List Value) (f : A → ValueOrError) (xs : List A)
    → ((x : A) → Contains xs x → IsResultReached us (f x))
    → IsResultReached (one_list us) (list_literal (each f xs))
literal_reached us f xs h = list_reached us (values_in (each f xs)) (values_reached us f xs h)

pub where_reached : (us : List Value) (p : Value → Truth) (result : List Value → ValueOrError) (vs : List Value)
    → ((ws : List Value) → AreAmong ws vs → IsResultReached us (result ws)) → IsResultReached us (where_true p result vs)
where_reached us p result vs h =
    or_error_reached us (list_any (λ x. is_other (p x)) vs) (result (filter (λ x. is_yes (p x)) vs))
    (h (filter (λ x. is_yes (p x)) vs) (kept (λ x. is_yes (p x)) vs))

-- ---- list literals

more_values : (ws us : List Value) (o : Option (List Value)) → AreReached ws o → AreAmong ws us → AreReached us o
more_values ws us None h s = tt
more_values ws us (Some vs) h s = λ v i. more ws us v (h v i) s

more_left : (us ws : List Value) (o : Option (List Value)) → AreReached ws o → AreReached (us ++ ws) o
more_left us ws o h = more_values ws (us ++ ws) o h (λ x m. Contains-append_right us ws x m)

pub item_reached : (o : Access) (x : Outcome) (us ws : List Value) (rest : Option (List Value)) → IsOutcomeReached us x → AreReached ws rest
    → AreReached (us ++ ws) (item_in o x rest)
item_reached Plain x us ws rest h g =
    with_reached (us ++ ws) (plain_part x) rest (plain_reached (us ++ ws) x (left_outcome us ws x h)) (more_left us ws rest g)
item_reached Optional failed us ws rest h g = tt
item_reached Optional (plain v) us ws rest h g = tt
item_reached Optional absent us ws rest h g = more_left us ws rest g
item_reached Optional (present v) us ws rest h g =
    with_reached (us ++ ws) (value v) rest (left us ws v h) (more_left us ws rest g)

pub items_list_reached : (us : List Value) (o : Option (List Value)) → AreReached us o → IsOutcomeReached (one_list us) (list_in o)
items_list_reached us o h = outcome_reached (one_list us) (list_or_error o) (list_reached us o h)

-- ---- macros. What is known of a range (b) and of a part (c) is needed only where they have a reach

pub fold_reached : (m : Macro) (us ws : List Value) (b c : Bool) (f : Value → ValueOrError) (o : Option (List Value))
    → (b ≡ true → AreReached us o)
    → ((v : Value) → (b ≡ true → IsReached us v) → c ≡ true → IsResultReached ws (f v)) → fold_known m b c ≡ true
    → IsOutcomeReached (fold_reach m us ws) (outcome_of (over_items (plain_macro_of m) f o))
fold_reached macro.All us ws b c f None h g k = tt
fold_reached macro.All us ws b c f (Some vs) h g k = truth_reached _ (all_bool (each (λ x. truth (f x)) vs))
fold_reached macro.Exists us ws b c f None h g k = tt
fold_reached macro.Exists us ws b c f (Some vs) h g k = truth_reached _ (exists_bool (each (λ x. truth (f x)) vs))
fold_reached macro.ExistsOne us ws b c f None h g k = tt
fold_reached macro.ExistsOne us ws b c f (Some vs) h g k = truth_reached _ (exists_one_bool (each (λ x. truth (f x)) vs))
fold_reached macro.Filter us ws b c f None h g k = tt
fold_reached macro.Filter us ws b c f (Some vs) h g k =
    outcome_reached (one_list us) _ (where_reached (one_list us) (λ x. truth (f x)) (λ ks. list_or_error (Some ks)) vs
    (λ ks s. listed_reached us ks (λ v i. h k v (s v i))))
fold_reached macro.Map us ws b c f None h g k = tt
fold_reached macro.Map us ws b c f (Some vs) h g k =
    outcome_reached (one_list ws) (map_of f vs) (literal_reached ws f vs (λ v i. g v (λ e. h e v i) k))

pub filter_map_reached : (us ws : List Value) (b : Bool) (p f : Value → ValueOrError) (o : Option (List Value))
    → (b ≡ true → AreReached us o)
    → ((v : Value) → (b ≡ true → IsReached us v) → IsResultReached ws (f v))
    → IsOutcomeReached (one_list ws) (outcome_of (filter_map_over p f o))
filter_map_reached us ws b p f None h g = tt
filter_map_reached us ws b p f (Some vs) h g =
    outcome_reached (one_list ws) _ (where_reached (one_list ws) (λ x. truth (p x)) (map_of f) vs
    (λ ks s. literal_reached ws f ks (λ v i. g v (λ e. h e v (s v i)))))

pub pair_fold_reached : (m : PairMacro) (us ws : List Value) (b c : Bool)
    (f : Value × Value → ValueOrError) (o : Option (List (Value × Value)))
    → (b ≡ true → ArePairsReached us o) → ((e : Value × Value) → (b ≡ true → IsReached us e.1) → c ≡ true → IsResultReached ws (f e))
    → pair_fold_known m c ≡ true → IsOutcomeReached (pair_fold_reach m ws) (outcome_of (over_pairs m f o))
pair_fold_reached pair.All us ws b c f None h g k = tt
pair_fold_reached pair.All us ws b c f (Some ps) h g k = truth_reached _ (all_bool (each (λ p. truth (f p)) ps))
pair_fold_reached pair.Exists us ws b c f None h g k = tt
pair_fold_reached pair.Exists us ws b c f (Some ps) h g k = truth_reached _ (exists_bool (each (λ p. truth (f p)) ps))
pair_fold_reached pair.ExistsOne us ws b c f None h g k = tt
pair_fold_reached pair.ExistsOne us ws b c f (Some ps) h g k = truth_reached _ (exists_one_bool (each (λ p. truth (f p)) ps))
pair_fold_reached pair.TransformList us ws b c f None h g k = tt
pair_fold_reached pair.TransformList us ws b c f (Some ps) h g k =
    outcome_reached (one_list ws) (list_literal (each f ps)) (literal_reached ws f ps (λ e i. g e (λ j. h j e i) k))

pub pair_filter_map_reached : (us ws : List Value) (b : Bool) (p f : Value × Value → ValueOrError) (o : Option (List (Value × Value)))
    → (b ≡ true → ArePairsReached us o) → ((e : Value × Value) → (b ≡ true → IsReached us e.1) → IsResultReached ws (f e))
    → IsOutcomeReached (one_list ws) (outcome_of (pair_filter_map_over p f o))
pair_filter_map_reached us ws b p f None h g = tt
pair_filter_map_reached us ws b p f (Some ps) h g =
    outcome_reached (one_list ws) _ (or_error_reached (one_list ws) (list_any (λ x. is_other (truth (p x))) ps)
    (list_literal (each f (filter (λ x. is_yes (truth (p x))) ps)))
    (literal_reached ws f (filter (λ x. is_yes (truth (p x))) ps) (λ e i. g e (λ j. h j e (kept (λ x. is_yes (truth (p x))) ps e i)))))

pub optional_fold_reached : (m : OptionalMacro) (us ws : List Value) (b : Bool) (f : Value → Outcome) (x : Outcome)
    → (b ≡ true → IsOutcomeReached us x)
    → ((v : Value) → (b ≡ true → IsReached us v) → IsOutcomeReached ws (f v)) → IsOutcomeReached ws (optional_over m f x)
optional_fold_reached Map us ws b f failed h g = tt
optional_fold_reached Map us ws b f (plain v) h g = tt
optional_fold_reached Map us ws b f absent h g = tt
optional_fold_reached Map us ws b f (present v) h g = some_reached ws (f v) (g v h)
optional_fold_reached FlatMap us ws b f failed h g = tt
optional_fold_reached FlatMap us ws b f (plain v) h g = tt
optional_fold_reached FlatMap us ws b f absent h g = tt
optional_fold_reached FlatMap us ws b f (present v) h g = g v h
