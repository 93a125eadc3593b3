-- What holds for each item of a range.
use Rattle.std.proofs.Common.{◌≡◌, suc, Bool, true, false, ◌||◌, List, [], ◌∷◌, Option, Some, None, if◌then◌else◌}
use Rattle.std.proofs.Common.{map as each, filter, slice_index_or, refl, ap, ◌∙◌, arith}
use Rattle.std.specs.List.{All, list_any}
use Rattle.value_store.specs.Value.{Value, ValueOrError, error}
use Rattle.cel_macros.specs.Literals.{list_literal, list_or_error}
use Rattle.cel_macros.specs.Logic.{truth}
use Rattle.cel_macros.specs.Macros.{is_yes, is_other, all_of, exists_of, exists_one_of}
use Rattle.cel_macros.specs.declared.macros.Macro.{Macro, TheVariants.All as AllOf, TheVariants.Exists}
use Rattle.cel_macros.specs.declared.macros.Macro.{TheVariants.ExistsOne, TheVariants.Filter, TheVariants.Map}
use Rattle.wide_reader.specs.declared.wide.PairMacro.{PairMacro}
use Rattle.wide_reader.specs.declared.wide.PairMacro.TheVariants as pair
use Rattle.wide_meaning.specs.Ranges.{over_items, filter_map_over, over_pairs, pair_filter_map_over}
use Rattle.wide_translation.specs.Indexed.{ForEach}

-- ---- items of a range

pub for_each : {A : Type 0} (P : A → Type 0) (o : Option (List A)) → ((x : A) → P x) → ForEach P o
for_each P None h = tt
for_each P (Some vs) h = λ k d lt. h (slice_index_or vs k d)

pub each_later : {A : Type 0} (H : Type 0) (P Q : A → Type 0) (o : Option (List A)) → (H → ForEach P o) → ((x : A) → (H → P x) → Q x) → ForEach Q o
each_later H P Q None g f = tt
each_later H P Q (Some vs) g f = λ k d lt. f (slice_index_or vs k d) (λ h. g h k d lt)

pub each_then : {A : Type 0} (P Q : A → Type 0) (o : Option (List A)) → ForEach P o → ((x : A) → P x → Q x) → ForEach Q o
each_then P Q None g f = tt
each_then P Q (Some vs) g f = λ k d lt. f (slice_index_or vs k d) (g k d lt)

-- ---- lists

-- two functions that are the same for each item
abbrev Agree : {A B : Type 0} → (A → B) → (A → B) → List A → Type 0
Agree f g vs = All (λ v. f v ≡ g v) vs

agree_here : {A B : Type 0} (f g : A → B) (v : A) (vs : List A) → Agree f g (v ∷ vs) → f v ≡ g v
agree_here f g v vs h = h 0 v (omega arith)

agree_later : {A B : Type 0} (f g : A → B) (v : A) (vs : List A) → Agree f g (v ∷ vs) → Agree f g vs
agree_later f g v vs h = λ k d lt. h (suc k) d (omega (arith, lt))

same_each : {A B : Type 0} (f g : A → B) (vs : List A) → Agree f g vs → each f vs ≡ each g vs
same_each f g [] h = refl
same_each f g (v ∷ vs) h = λ j. agree_here f g v vs h j ∷ same_each f g vs (agree_later f g v vs h) j

same_any : {A B : Type 0} (q : B → Bool) (f g : A → B) (vs : List A) → Agree f g vs → list_any (λ x. q (f x)) vs ≡ list_any (λ x. q (g x)) vs
same_any q f g [] h = refl
same_any q f g (v ∷ vs) h = λ j. q (agree_here f g v vs h j) || same_any q f g vs (agree_later f g v vs h) j

same_filter : {A B : Type 0} (q : B → Bool) (f g : A → B) (vs : List A) → Agree f g vs → filter (λ x. q (f x)) vs ≡ filter (λ x. q (g x)) vs
same_filter q f g [] h = refl
same_filter q f g (v ∷ vs) h = λ j. if q (agree_here f g v vs h j) then v ∷ same_filter q f g vs (agree_later f g v vs h) j else same_filter q f g vs (agree_later f g v vs h) j

kept_same : {A B : Type 0} (b : Bool) (f g : A → B) (v : A) (vs ws : List A) → f v ≡ g v → each f vs ≡ each g ws → each f (if b then v ∷ vs else vs) ≡ each g (if b then v ∷ ws else ws)
kept_same true f g v vs ws e h = λ j. e j ∷ h j
kept_same false f g v vs ws e h = h

same_kept : {A B C : Type 0} (q : C → Bool) (p r : A → C) (f g : A → B) (vs : List A) → Agree p r vs → Agree f g vs
    → each f (filter (λ x. q (p x)) vs) ≡ each g (filter (λ x. q (r x)) vs)
same_kept q p r f g [] h i = refl
same_kept q p r f g (v ∷ vs) h i =
    let rest : List _ = filter (λ x. q (r x)) vs in
    kept_same (q (p v)) f g v (filter (λ x. q (p x)) vs) rest (agree_here f g v vs i) (same_kept q p r f g vs (agree_later p r v vs h) (agree_later f g v vs i))
    ∙ ap (λ b. each g (if b then v ∷ rest else rest)) (ap q (agree_here p r v vs h))

-- ---- macros

same_truths : {A : Type 0} (f g : A → ValueOrError) (vs : List A) → Agree f g vs → each (λ x. truth (f x)) vs ≡ each (λ x. truth (g x)) vs
same_truths f g vs h = same_each (λ x. truth (f x)) (λ x. truth (g x)) vs (λ k d lt. ap truth (h k d lt))

pub over_same : (m : Macro) (f g : Value → ValueOrError) (o : Option (List Value)) → ForEach (λ v. f v ≡ g v) o → over_items m f o ≡ over_items m g o
over_same m f g None h = refl
over_same AllOf f g (Some vs) h = ap all_of (same_truths f g vs h)
over_same Exists f g (Some vs) h = ap exists_of (same_truths f g vs h)
over_same ExistsOne f g (Some vs) h = ap exists_one_of (same_truths f g vs h)
over_same Filter f g (Some vs) h = λ j.
    if same_any (λ x. is_other (truth x)) f g vs h j then error else list_or_error (Some (same_filter (λ x. is_yes (truth x)) f g vs h j))
over_same Map f g (Some vs) h = ap list_literal (same_each f g vs h)

pub where_same : (p r f g : Value → ValueOrError) (o : Option (List Value)) → ForEach (λ v. p v ≡ r v) o → ForEach (λ v. f v ≡ g v) o → filter_map_over p f o ≡ filter_map_over r g o
where_same p r f g None h i = refl
where_same p r f g (Some vs) h i = λ j.
    if same_any (λ x. is_other (truth x)) p r vs h j then error else list_literal (same_kept (λ x. is_yes (truth x)) p r f g vs h i j)

pub over_pairs_same : (m : PairMacro) (f g : Value × Value → ValueOrError) (o : Option (List (Value × Value))) → ForEach (λ e. f e ≡ g e) o → over_pairs m f o ≡ over_pairs m g o
over_pairs_same m f g None h = refl
over_pairs_same pair.All f g (Some ps) h = ap all_of (same_truths f g ps h)
over_pairs_same pair.Exists f g (Some ps) h = ap exists_of (same_truths f g ps h)
over_pairs_same pair.ExistsOne f g (Some ps) h = ap exists_one_of (same_truths f g ps h)
over_pairs_same pair.TransformList f g (Some ps) h = ap list_literal (same_each f g ps h)

pub where_pairs_same : (p r f g : Value × Value → ValueOrError) (o : Option (List (Value × Value))) → ForEach (λ e. p e ≡ r e) o → ForEach (λ e. f e ≡ g e) o
    → pair_filter_map_over p f o ≡ pair_filter_map_over r g o
where_pairs_same p r f g None h i = refl
where_pairs_same p r f g (Some ps) h i = λ j.
    if same_any (λ x. is_other (truth x)) p r ps h j then error else list_literal (same_kept (λ x. is_yes (truth x)) p r f g ps h i j)
