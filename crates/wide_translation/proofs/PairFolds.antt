-- Macros with two iteration names.
use Rattle.std.proofs.Common.{◌≡◌, ℕ, Bool, true, false, ◌||◌, List, [], ◌∷◌, Option, Some, None, option_map}
use Rattle.std.proofs.Common.{if◌then◌else◌, map as each, filter, refl, ap, sym, ◌∙◌}
use Rattle.std.specs.List.{list_any, list_all}
use Rattle.std.specs.Prelude.{count_by, nat_eq}
use Rattle.cel_reader.specs.Tree.{Tree}
use Rattle.value_store.specs.Value.{Value, ValueOrError, error}
use Rattle.cel_macros.specs.Environment.{Environment, bind}
use Rattle.cel_macros.specs.Literals.{list_literal, list_or_error, values_in}
use Rattle.cel_macros.specs.Logic.{Truth, truth}
use Rattle.cel_macros.specs.Macros.{is_yes, is_no, is_other, all_of, exists_of, exists_one_of, macro_of}
unfoldable use Rattle.cel_macros.specs.Macros.{is_variables}
use Rattle.cel_macros.specs.Meaning.{meaning}
use Rattle.wide_reader.specs.declared.wide.PairMacro.{PairMacro}
use Rattle.wide_reader.specs.declared.wide.PairMacro.TheVariants as pair
use Rattle.wide_meaning.specs.Outcome.{Outcome, outcome_of, plain_part}
use Rattle.wide_meaning.specs.Ranges.{over_items, filter_map_over, pairs_of, pair_macro_of, over_pairs}
use Rattle.wide_meaning.specs.Ranges.{pair_filter_map_over}
use Rattle.wide_kinds.specs.declared.kind.ValueKind.{ValueKind}
use Rattle.wide_kinds.specs.declared.kind.ValueKind.TheVariants as kind
use Rattle.wide_kinds.specs.Fitting.{FitsKind}
use Rattle.wide_translation.specs.Carried.{plain, guarded, listed, Translation, taken, refused}
use Rattle.wide_translation.specs.Forms.{macro_tree, filter_map_tree}
use Rattle.wide_translation.specs.Holds.{IsPlain, WideHolds}
use Rattle.wide_translation.specs.Indexed.{ForEach}
use Rattle.wide_translation.specs.Names.{index_name}
use Rattle.wide_translation.specs.Pairs.{PairUse, table_tree, is_map_kind, one_name, pair_kind, pair_translation}
use Rattle.wide_translation.specs.Pairs.{pair_filter_translation}
use Rattle.wide_translation.specs.Translated.{with_plain}
use Rattle.wide_translation.proofs.EachItem.{each_then, over_pairs_same, where_pairs_same}
use Rattle.wide_translation.proofs.Environments.{picked}
use Rattle.wide_translation.proofs.FieldsHold.{part_fits, plain_holds}
use Rattle.wide_translation.proofs.PairRanges.{IsPairRange, IsCovered, range_holds}
use Rattle.wide_translation.proofs.RangesHold.{two_by, two_other, one_by, list_by, literal_kind}
use Rattle.wide_translation.proofs.Steps.{macro_means, filter_map_means}

-- ---- macros over what is bound for the pairs

each_each : {A : Type 0} (f : Value → A) (g : Value × Value → Value) (ps : List (Value × Value)) → each f (each g ps) ≡ each (λ e. f (g e)) ps
each_each f g [] = refl
each_each f g (e ∷ ps) = ap (λ xs. f (g e) ∷ xs) (each_each f g ps)

any_each : (q : Value → Bool) (g : Value × Value → Value) (ps : List (Value × Value)) → list_any q (each g ps) ≡ list_any (λ e. q (g e)) ps
any_each q g [] = refl
any_each q g (e ∷ ps) = ap (λ b. q (g e) || b) (any_each q g ps)

kept_by : {A : Type 0} (b : Bool) (a : A) (f : Value → A) (v : Value) (vs : List Value) (ws : List A) → f v ≡ a → each f vs ≡ ws → each f (if b then v ∷ vs else vs) ≡ (if b then a ∷ ws else ws)
kept_by true a f v vs ws e h = λ j. e j ∷ h j
kept_by false a f v vs ws e h = h

filter_pairs : (b : Bool) (f : Value × Value → ValueOrError) (e : Value × Value) (ps : List (Value × Value)) → (if b then f e ∷ each f ps else each f ps) ≡ each f (if b then e ∷ ps else ps)
filter_pairs true f e ps = refl
filter_pairs false f e ps = refl

filter_each : (f : Value → ValueOrError) (q : Value → Bool) (g : Value × Value → Value) (ps : List (Value × Value))
    → each f (filter q (each g ps)) ≡ each (λ e. f (g e)) (filter (λ e. q (g e)) ps)
filter_each f q g [] = refl
filter_each f q g (e ∷ ps) =
    kept_by (q (g e)) (f (g e)) f (g e) (filter q (each g ps)) (each (λ c. f (g c)) (filter (λ c. q (g c)) ps)) refl (filter_each f q g ps)
    ∙ filter_pairs (q (g e)) (λ c. f (g c)) e (filter (λ c. q (g c)) ps)

macro_each : (m : PairMacro) (f : Value → ValueOrError) (g : Value × Value → Value) (ps : List (Value × Value)) → macro_of (one_name m) f (each g ps) ≡ pair_macro_of m (λ e. f (g e)) ps
macro_each pair.All f g ps = ap all_of (each_each (λ x. truth (f x)) g ps)
macro_each pair.Exists f g ps = ap exists_of (each_each (λ x. truth (f x)) g ps)
macro_each pair.ExistsOne f g ps = ap exists_one_of (each_each (λ x. truth (f x)) g ps)
macro_each pair.TransformList f g ps = ap list_literal (each_each f g ps)

over_each : (m : PairMacro) (f : Value → ValueOrError) (g : Value × Value → Value) (o : Option (List (Value × Value)))
    → over_items (one_name m) f (option_map (each g) o) ≡ over_pairs m (λ e. f (g e)) o
over_each m f g None = refl
over_each m f g (Some ps) = macro_each m f g ps

where_each : (p f : Value → ValueOrError) (g : Value × Value → Value) (o : Option (List (Value × Value)))
    → filter_map_over p f (option_map (each g) o) ≡ pair_filter_map_over (λ e. p (g e)) (λ e. f (g e)) o
where_each p f g None = refl
where_each p f g (Some ps) = λ j.
    if any_each (λ x. is_other (truth (p x))) g ps j then error else list_literal (filter_each f (λ x. is_yes (truth (p x))) g ps j)

over_pairs_kind : (m : PairMacro) (f : Value × Value → ValueOrError) (o : Option (List (Value × Value))) → FitsKind (pair_kind m) (over_pairs m f o)
over_pairs_kind m f None = tt
over_pairs_kind pair.All f (Some ps) = let ts : List Truth = each (λ e. truth (f e)) ps in two_by (list_any is_no ts) (list_all is_yes ts)
over_pairs_kind pair.Exists f (Some ps) = let ts : List Truth = each (λ e. truth (f e)) ps in two_other (list_any is_yes ts) (list_all is_no ts)
over_pairs_kind pair.ExistsOne f (Some ps) = let ts : List Truth = each (λ e. truth (f e)) ps in one_by (list_any is_other ts) (nat_eq (count_by is_yes ts) 1)
over_pairs_kind pair.TransformList f (Some ps) = literal_kind (values_in (each f ps))

where_kind : (p f : Value × Value → ValueOrError) (o : Option (List (Value × Value))) → FitsKind kind.List (pair_filter_map_over p f o)
where_kind p f None = tt
where_kind p f (Some ps) =
    let kept : List (Value × Value) = filter (λ e. is_yes (truth (p e))) ps in
    list_by (list_any (λ e. is_other (truth (p e))) ps) (list_or_error (values_in (each f kept))) (literal_kind (values_in (each f kept)))

-- ---- the macros

-- what the body of a macro carries for each pair
abbrev pub EachPair : PairUse → List ℕ → Translation → (Value × Value → Outcome) → Outcome → Environment → Type 0
EachPair u y w p x env = ForEach (λ e. WideHolds w (p e) (bind y (picked u e) env)) (pairs_of (plain_part x))

-- a tree means a value for each pair
abbrev EachMeans : PairUse → List ℕ → ValueKind → Tree → (Value × Value → Outcome) → Outcome → Environment → Type 0
EachMeans u y j b p x env = ForEach (λ e. IsPlain j b (p e) (bind y (picked u e) env)) (pairs_of (plain_part x))

body_holds : (u : PairUse) (y : List ℕ) (w : Translation) (p : Value × Value → Outcome) (f : ValueKind → Tree → Translation) (x o : Outcome) (env : Environment) → EachPair u y w p x env
    → ((j : ValueKind) (b : Tree) → EachMeans u y j b p x env → WideHolds (f j b) o env) → WideHolds (with_plain w f) o env
body_holds u y (refused c) p f x o env h g = tt
body_holds u y (taken (plain j b)) p f x o env h g = g j b h
body_holds u y (taken (guarded j a b)) p f x o env h g = tt
body_holds u y (taken (listed j l)) p f x o env h g = tt

-- the values for the pairs
each_value : (u : PairUse) (y : List ℕ) (j : ValueKind) (b : Tree) (p : Value × Value → Outcome) (x : Outcome) (env : Environment) → EachMeans u y j b p x env
    → ForEach (λ e. meaning b (bind y (picked u e) env) ≡ plain_part (p e)) (pairs_of (plain_part x))
each_value u y j b p x env h =
    each_then (λ e. IsPlain j b (p e) (bind y (picked u e) env)) (λ e. meaning b (bind y (picked u e) env) ≡ plain_part (p e)) (pairs_of (plain_part x)) h (λ e i. i.means)

pair_fold_holds : (m : PairMacro) (u : PairUse) (y : List ℕ) (r b : Tree) (j : ValueKind) (x : Outcome) (p : Value × Value → Outcome) (env : Environment) → IsPairRange u r x env
    → EachMeans u y j b p x env → IsPlain (pair_kind m) (macro_tree (one_name m) y r b) (outcome_of (over_pairs m (λ e. plain_part (p e)) (pairs_of (plain_part x)))) env
unfolding is_variables
pair_fold_holds m u y r b j x p env h i =
    plain_holds (pair_kind m) (macro_tree (one_name m) y r b) (over_pairs m (λ e. plain_part (p e)) (pairs_of (plain_part x))) env
    (macro_means (one_name m) y r b env
    ∙ (λ l. over_items (one_name m) (λ w. meaning b (bind y w env)) (h l))
    ∙ over_each m (λ w. meaning b (bind y w env)) (picked u) (pairs_of (plain_part x))
    ∙ over_pairs_same m (λ e. meaning b (bind y (picked u e) env)) (λ e. plain_part (p e)) (pairs_of (plain_part x)) (each_value u y j b p x env i))
    (over_pairs_kind m (λ e. plain_part (p e)) (pairs_of (plain_part x))) refl

pair_filter_holds : (u : PairUse) (y : List ℕ) (r b c : Tree) (j i : ValueKind) (x : Outcome) (p t : Value × Value → Outcome) (env : Environment) → IsPairRange u r x env
    → EachMeans u y j b p x env → EachMeans u y i c t x env
    → IsPlain kind.List (filter_map_tree y r b c) (outcome_of (pair_filter_map_over (λ e. plain_part (p e)) (λ e. plain_part (t e)) (pairs_of (plain_part x)))) env
unfolding is_variables
pair_filter_holds u y r b c j i x p t env h f g =
    plain_holds kind.List (filter_map_tree y r b c) (pair_filter_map_over (λ e. plain_part (p e)) (λ e. plain_part (t e)) (pairs_of (plain_part x))) env
    (filter_map_means y r b c env
    ∙ (λ l. filter_map_over (λ w. meaning b (bind y w env)) (λ w. meaning c (bind y w env)) (h l))
    ∙ where_each (λ w. meaning b (bind y w env)) (λ w. meaning c (bind y w env)) (picked u) (pairs_of (plain_part x))
    ∙ where_pairs_same (λ e. meaning b (bind y (picked u e) env)) (λ e. plain_part (p e)) (λ e. meaning c (bind y (picked u e) env)) (λ e. plain_part (t e)) (pairs_of (plain_part x))
    (each_value u y j b p x env f) (each_value u y i c t x env g))
    (where_kind (λ e. plain_part (p e)) (λ e. plain_part (t e)) (pairs_of (plain_part x))) refl

-- The range is the same in each environment in which the name of an index has a value.
abbrev pub Steady : Translation → Outcome → Environment → Type 0
Steady t x env = (v : Value) → WideHolds t x (bind index_name v env)

-- the table of indices is z
module _ (z : ValueOrError) where
  pub pair_holds : (s : Bool) (m : PairMacro) (u : PairUse) (y : List ℕ) (t w : Translation) (x : Outcome) (p : Value × Value → Outcome) (env : Environment)
      → (s ≡ true → IsCovered u z (plain_part x)) → meaning table_tree env ≡ z → WideHolds t x env → Steady t x env → EachPair u y w p x env
      → WideHolds (pair_translation s m u y t w) (outcome_of (over_pairs m (λ e. plain_part (p e)) (pairs_of (plain_part x)))) env
  pair_holds s m u y (refused e) w x p env c q h g i = tt
  pair_holds s m u y (taken (guarded k a b)) w x p env c q h g i = tt
  pair_holds s m u y (taken (listed k l)) w x p env c q h g i = tt
  pair_holds s m u y (taken (plain k a)) w x p env c q h g i =
      let o : Outcome = outcome_of (over_pairs m (λ e. plain_part (p e)) (pairs_of (plain_part x))) in
      range_holds z s u (is_map_kind k) k a x o env (λ r. with_plain w (λ j b. taken (plain (pair_kind m) (macro_tree (one_name m) y r b)))) refl c q h.means (part_fits k x h.kind)
      (λ v. (g v).means ∙ sym h.means)
      (λ r e. body_holds u y w p (λ j b. taken (plain (pair_kind m) (macro_tree (one_name m) y r b))) x o env i
      (λ j b l. pair_fold_holds m u y r b j x p env e l))

  pub pair_where_holds : (s : Bool) (u : PairUse) (y : List ℕ) (t w f : Translation) (x : Outcome) (p d : Value × Value → Outcome) (env : Environment)
      → (s ≡ true → IsCovered u z (plain_part x)) → meaning table_tree env ≡ z → WideHolds t x env → Steady t x env → EachPair u y w p x env → EachPair u y f d x env
      → WideHolds (pair_filter_translation s u y t w f) (outcome_of (pair_filter_map_over (λ e. plain_part (p e)) (λ e. plain_part (d e)) (pairs_of (plain_part x)))) env
  pair_where_holds s u y (refused e) w f x p d env c q h g i l = tt
  pair_where_holds s u y (taken (guarded k a b)) w f x p d env c q h g i l = tt
  pair_where_holds s u y (taken (listed k a)) w f x p d env c q h g i l = tt
  pair_where_holds s u y (taken (plain k a)) w f x p d env c q h g i l =
      let o : Outcome = outcome_of (pair_filter_map_over (λ e. plain_part (p e)) (λ e. plain_part (d e)) (pairs_of (plain_part x))) in
      range_holds z s u (is_map_kind k) k a x o env (λ r. with_plain w (λ j b. with_plain f (λ n e. taken (plain kind.List (filter_map_tree y r b e))))) refl c q h.means (part_fits k x h.kind)
      (λ v. (g v).means ∙ sym h.means)
      (λ r e. body_holds u y w p (λ j b. with_plain f (λ n a. taken (plain kind.List (filter_map_tree y r b a)))) x o env i
      (λ j b v. body_holds u y f d (λ n a. taken (plain kind.List (filter_map_tree y r b a))) x o env l
      (λ n a q. pair_filter_holds u y r b a j n x p d env e v q)))
