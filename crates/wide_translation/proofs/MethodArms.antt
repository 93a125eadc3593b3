-- Methods by the number of their arguments.
use Rattle.std.proofs.Common.{◌≡◌, ◌∙◌, ap, sym, ◌<◌, Bool, true, false, List, [], ◌∷◌, Result, length, get_or, map, refl, arith}
use Rattle.wide_reader.specs.Tree as wide
use Rattle.wide_reader.specs.declared.wide.Wide.{Wide as CodeWide}
use Rattle.wide_meaning.specs.Functions.{method_name}
use Rattle.wide_meaning.specs.declared.function.Method.{Method}
use Rattle.wide_meaning.specs.declared.function.Method.TheVariants as method
use Rattle.wide_translation.specs.declared.carried.Carried.{Carried as CodeCarried}
use Rattle.wide_translation.specs.declared.translation_error.TranslationError.{TranslationError}
use Rattle.wide_translation.specs.Carried.{Carried, UnknownName, Translation, refused}
use Rattle.wide_translation.specs.Declarations.{ReturnsCarried, IsRefusal}
use Rattle.wide_translation.specs.ListMethods.{is_slice}
use Rattle.wide_translation.specs.Scope.{WideScope}
use Rattle.wide_translation.specs.Translated.{method_carried, method_of}
unfoldable use Rattle.wide_translation.specs.Translated.{translated, all_translated}
use Rattle.wide_translation.proofs.Arms.{all_of_two, returns_at}

many_refused : (b : Bool) (m : Method) (c : Carried) (t u v : Translation) (ts : List Translation) → method_of b m c (t ∷ u ∷ v ∷ ts) ≡ refused (UnknownName (method_name m))
many_refused b method.Size c t u v ts = refl
many_refused b method.Slice c t u v ts = refl
many_refused b _ c t u v ts = refl

pub method_of_many : (b : Bool) (m : Method) (c : Carried) (es : List CodeWide) (s : WideScope) → 2 < length es
    → method_of b m c (all_translated s (wide.wides (map wide.view es))) ≡ refused (UnknownName (method_name m))
unfolding all_translated
method_of_many b m c (x ∷ y ∷ z ∷ es) s h = many_refused b m c _ _ _ _
method_of_many b m c _ s h = absurd (omega arith)

-- only `slice` has two arguments
two_refused : (b : Bool) (m : Method) (c : Carried) (t u : Translation) → is_slice m ≡ false → method_of b m c (t ∷ u ∷ []) ≡ refused (UnknownName (method_name m))
two_refused b method.Slice c t u n = absurd (cc)
two_refused b _ c t u n = refl

slice_is : (m : Method) → is_slice m ≡ true → m ≡ method.Slice
slice_is method.Slice h = refl
slice_is _ h = absurd (cc)

pub two_returns : (b w : Bool) (m : Method) (c : Carried) (s : WideScope) (es : List CodeWide) (x y : CodeWide) (r : Result CodeCarried TranslationError) → length es ≡ 2
    → x ≡ get_or es 0 x → y ≡ get_or es 1 y → is_slice m ≡ true → w ≡ b
    → ReturnsCarried (method_of w method.Slice c (translated s (wide.view x) ∷ translated s (wide.view y) ∷ [])) r
    → ReturnsCarried (method_of b m c (all_translated s (wide.wides (map wide.view es)))) r
two_returns b w m c s es x y r h is also e f q =
    returns_at _ _ r ((λ j. method_of (f j) (sym (slice_is m e) j) c (translated s (wide.view x) ∷ translated s (wide.view y) ∷ [])) ∙ ap (method_of b m c) (sym (all_of_two s es x y h is also))) q

pub two_unknown : (b : Bool) (m : Method) (c : Carried) (s : WideScope) (es : List CodeWide) (x y : CodeWide) (e : TranslationError) → length es ≡ 2
    → x ≡ get_or es 0 x → y ≡ get_or es 1 y → is_slice m ≡ false → IsRefusal (refused (UnknownName (method_name m))) e
    → IsRefusal (method_of b m c (all_translated s (wide.wides (map wide.view es)))) e
two_unknown b m c s es x y e h is also n q =
    λ z. ap (method_of b m c) (all_of_two s es x y h is also) ∙ two_refused b m c _ _ n ∙ q z

-- ---- methods that are translated as before

pub none_as_before : (b : Bool) (m : Method) (c : Carried) → (m ≡ method.IsSorted → ⊥) → (m ≡ method.Distinct → ⊥) → (m ≡ method.Reverse → ⊥) → method_of b m c [] ≡ method_carried m c []
none_as_before b method.IsSorted c h i j = absurd (h refl)
none_as_before b method.Distinct c h i j = absurd (i refl)
none_as_before b method.Reverse c h i j = absurd (j refl)
none_as_before b _ c h i j = refl

pub one_as_before : (b : Bool) (m : Method) (c : Carried) (t : Translation) → (m ≡ method.IndexOf → ⊥) → (m ≡ method.LastIndexOf → ⊥) → method_of b m c (t ∷ []) ≡ method_carried m c (t ∷ [])
one_as_before b method.IndexOf c t h i = absurd (h refl)
one_as_before b method.LastIndexOf c t h i = absurd (i refl)
one_as_before b _ c t h i = refl

-- what is returned with tables or without
pub with_tables : (w b : Bool) (m : Method) (c : Carried) (ts : List Translation) (r : Result CodeCarried TranslationError) → w ≡ b → ReturnsCarried (method_of w m c ts) r → ReturnsCarried (method_of b m c ts) r
with_tables w b m c ts r e h = returns_at _ _ r (λ j. method_of (e j) m c ts) h
