-- What the code returns of macros with two names, from what it returns of their parts.
use Rattle.std.proofs.Common.{◌≡◌, ◌∙◌, ℕ, ◌||◌, List, Result, string_bytes, refl, ap, sym, subst}
use Rattle.std.specs.declared.alloc.Global.{Global}
use Rattle.std.specs.declared.boxed.Box.{Box}
use Rattle.std.specs.declared.string.String.{String}
use Rattle.wide_reader.specs.Tree.{view}
use Rattle.wide_reader.specs.declared.wide.PairMacro.{PairMacro}
use Rattle.wide_reader.specs.declared.wide.Wide as code
use Rattle.wide_reader.specs.declared.wide.Wide.{Wide as CodeWide}
use Rattle.wide_translation.specs.declared.carried.Carried.{Carried as CodeCarried}
use Rattle.wide_translation.specs.declared.translation_error.TranslationError.{TranslationError}
use Rattle.wide_translation.specs.Carried.{Translation}
use Rattle.wide_translation.specs.Declarations.{ReturnsCarried, IsRefusal}
use Rattle.wide_translation.specs.Pairs.{PairUse, pair_use, pair_binder, within_pair, pair_translation, pair_filter_translation}
use Rattle.wide_translation.specs.Scope.{WideScope}
use Rattle.wide_translation.specs.Translated.{unless_taken}
unfoldable use Rattle.wide_translation.specs.Translated.{translated}
use Rattle.wide_translation.specs.Uses.{uses}
use Rattle.wide_translation.proofs.WideViews.{view_pair_fold, view_pair_filter_map}

-- both names may be bound
abbrev pub AreFree : List ℕ → List ℕ → Type 0
AreFree k v = (t : Translation) → unless_taken k (unless_taken v t) ≡ t

-- ---- the bytes of the names of the code

free_bytes : (k v a b : List ℕ) → AreFree k v → k ≡ a → v ≡ b → AreFree a b
free_bytes k v a b free p q = λ t. (λ j. unless_taken (sym p j) (unless_taken (sym q j) t)) ∙ free t

refused_bytes : (k v a b : List ℕ) (e : TranslationError) → k ≡ a → v ≡ b → ((t : Translation) → IsRefusal (unless_taken k (unless_taken v t)) e)
    → (t : Translation) → IsRefusal (unless_taken a (unless_taken b t)) e
refused_bytes k v a b e p q refusal = λ t m. (λ j. unless_taken (sym p j) (unless_taken (sym q j) t)) ∙ refusal t m

pub used_bytes : (u : PairUse) (k v a b : List ℕ) (e f : CodeWide) → e ≡ f → k ≡ a → v ≡ b → u ≡ pair_use (uses k (view e)) (uses v (view e))
    → u ≡ pair_use (uses a (view f)) (uses b (view f))
used_bytes u k v a b e f r p q is = is ∙ (λ j. pair_use (uses (p j) (view (r j))) (uses (q j) (view (r j))))

pub used_by_two : (u : PairUse) (k v a b : List ℕ) (e f g h : CodeWide) → e ≡ f → g ≡ h → k ≡ a → v ≡ b
    → u ≡ pair_use (uses k (view e) || uses k (view g)) (uses v (view e) || uses v (view g))
    → u ≡ pair_use (uses a (view f) || uses a (view h)) (uses b (view f) || uses b (view h))
used_by_two u k v a b e f g h r o p q is =
    is ∙ (λ j. pair_use (uses (p j) (view (r j)) || uses (p j) (view (o j))) (uses (q j) (view (r j)) || uses (q j) (view (o j))))

-- ---- a macro with a part

module _ (s : WideScope) (e : CodeWide) (m : PairMacro) (range : Box CodeWide Global) (key value : String Global) (part : Box CodeWide Global)
    (is : e ≡ code.PairFold m range key value part) where
  abbrev folded : PairUse → Translation
  folded u =
      pair_translation s.wrapped m u (pair_binder u (string_bytes key) (string_bytes value) s) (translated s (view range.value))
      (translated (within_pair u (string_bytes key) (string_bytes value) s) (view part.value))

  abbrev folds_by : PairUse
  folds_by = pair_use (uses (string_bytes key) (view part.value)) (uses (string_bytes value) (view part.value))

  fold_is : (u : PairUse) → u ≡ folds_by → translated s (view e) ≡ unless_taken (string_bytes key) (unless_taken (string_bytes value) (folded u))
  unfolding translated
  fold_is u used =
      ap (λ (x : CodeWide). translated s (view x)) is
      ∙ ap (translated s) (view_pair_fold m range key value part)
      ∙ ap (λ (w : PairUse). unless_taken (string_bytes key) (unless_taken (string_bytes value) (folded w))) (sym used)

  pub fold_names_refused : (k v : List ℕ) (err : TranslationError) → k ≡ string_bytes key → v ≡ string_bytes value
      → ((t : Translation) → IsRefusal (unless_taken k (unless_taken v t)) err) → IsRefusal (translated s (view e)) err
  fold_names_refused k v err p q refusal =
      λ n. fold_is folds_by refl ∙ refused_bytes k v (string_bytes key) (string_bytes value) err p q refusal (folded folds_by) n

  module _ (u : PairUse) (used : u ≡ folds_by) (k v : List ℕ) (first : k ≡ string_bytes key) (second : v ≡ string_bytes value) (free : AreFree k v) where
    abbrev fold_free : AreFree (string_bytes key) (string_bytes value)
    fold_free = free_bytes k v (string_bytes key) (string_bytes value) free first second

    -- what is returned of the parts, which are found by equal names and expressions
    pub fold_returned : (x y : List ℕ) (f g : CodeWide) (r : Result CodeCarried TranslationError) → x ≡ string_bytes key → y ≡ string_bytes value → f ≡ range.value → g ≡ part.value
        → ReturnsCarried (pair_translation s.wrapped m u (pair_binder u x y s) (translated s (view f)) (translated (within_pair u x y s) (view g))) r → ReturnsCarried (translated s (view e)) r
    fold_returned x y f g r third fourth p q =
        subst (λ (t : Translation). ReturnsCarried t r)
        (sym (fold_is u used ∙ fold_free (folded u)
        ∙ (λ j. pair_translation s.wrapped m u (pair_binder u (sym third j) (sym fourth j) s) (translated s (view (sym p j)))
        (translated (within_pair u (sym third j) (sym fourth j) s) (view (sym q j))))))

-- ---- `transformList` with a predicate

module _ (s : WideScope) (e : CodeWide) (range : Box CodeWide Global) (key value : String Global) (predicate transform : Box CodeWide Global)
    (is : e ≡ code.PairFilterMap range key value predicate transform) where
  abbrev mapped : PairUse → Translation
  mapped u =
      pair_filter_translation s.wrapped u (pair_binder u (string_bytes key) (string_bytes value) s) (translated s (view range.value))
      (translated (within_pair u (string_bytes key) (string_bytes value) s) (view predicate.value))
      (translated (within_pair u (string_bytes key) (string_bytes value) s) (view transform.value))

  abbrev maps_by : PairUse
  maps_by =
      pair_use (uses (string_bytes key) (view predicate.value) || uses (string_bytes key) (view transform.value))
      (uses (string_bytes value) (view predicate.value) || uses (string_bytes value) (view transform.value))

  map_is : (u : PairUse) → u ≡ maps_by → translated s (view e) ≡ unless_taken (string_bytes key) (unless_taken (string_bytes value) (mapped u))
  unfolding translated
  map_is u used =
      ap (λ (x : CodeWide). translated s (view x)) is
      ∙ ap (translated s) (view_pair_filter_map range key value predicate transform)
      ∙ ap (λ (w : PairUse). unless_taken (string_bytes key) (unless_taken (string_bytes value) (mapped w))) (sym used)

  pub map_names_refused : (k v : List ℕ) (err : TranslationError) → k ≡ string_bytes key → v ≡ string_bytes value
      → ((t : Translation) → IsRefusal (unless_taken k (unless_taken v t)) err) → IsRefusal (translated s (view e)) err
  map_names_refused k v err p q refusal =
      λ n. map_is maps_by refl ∙ refused_bytes k v (string_bytes key) (string_bytes value) err p q refusal (mapped maps_by) n

  module _ (u : PairUse) (used : u ≡ maps_by) (k v : List ℕ) (first : k ≡ string_bytes key) (second : v ≡ string_bytes value) (free : AreFree k v) where
    abbrev map_free : AreFree (string_bytes key) (string_bytes value)
    map_free = free_bytes k v (string_bytes key) (string_bytes value) free first second

    pub map_returned : (x y : List ℕ) (f g h : CodeWide) (r : Result CodeCarried TranslationError) → x ≡ string_bytes key → y ≡ string_bytes value → f ≡ range.value → g ≡ predicate.value → h ≡ transform.value
        → ReturnsCarried (pair_filter_translation s.wrapped u (pair_binder u x y s) (translated s (view f)) (translated (within_pair u x y s) (view g)) (translated (within_pair u x y s) (view h))) r
        → ReturnsCarried (translated s (view e)) r
    map_returned x y f g h r third fourth p q o =
        subst (λ (t : Translation). ReturnsCarried t r)
        (sym (map_is u used ∙ map_free (mapped u)
        ∙ (λ j. pair_filter_translation s.wrapped u (pair_binder u (sym third j) (sym fourth j) s) (translated s (view (sym p j)))
        (translated (within_pair u (sym third j) (sym fourth j) s) (view (sym q j))) (translated (within_pair u (sym third j) (sym fourth j) s) (view (sym o j))))))
