-- Operands, arguments and indices by their form.
use Rattle.std.proofs.lemmas.Bool.Decides.{nat_tests}
use Rattle.std.proofs.Common.{◌≡◌, ◌==◌, ◌∙◌, ap, ℕ, ℤ, pos, negsuc, ◌<◌, ◌≤ℤ◌, Bool, true, false, List, []}
use Rattle.std.proofs.Common.{◌∷◌}
use Rattle.std.proofs.Common.{Option, Some, None, Result, Ok, Err, IsErr, IsErrAnd, length, get_or, map, refl, sym}
use Rattle.std.proofs.Common.{subst, arith}
use Rattle.std.specs.declared.alloc.Global.{Global}
use Rattle.std.specs.declared.vec.Vec.{Vec}
use Rattle.cel_reader.specs.Tree as node
use Rattle.cel_reader.specs.declared.operator.BinaryOperator.{BinaryOperator, TheVariants.Equal, TheVariants.NotEqual}
use Rattle.wide_reader.specs.Tree as wide
use Rattle.wide_reader.specs.Tree.{Wide}
use Rattle.wide_reader.specs.declared.wide.Access.{Access}
use Rattle.wide_reader.specs.declared.wide.Wide.{Wide as CodeWide}
use Rattle.wide_reader.specs.declared.wide.Wide as code
use Rattle.wide_meaning.specs.Meaning.{is_empty_list}
use Rattle.wide_meaning.specs.declared.function.Function.{Function}
use Rattle.wide_meaning.specs.declared.function.Qualified.{Qualified}
use Rattle.wide_meaning.specs.declared.function.Qualified.TheVariants as qualified
use Rattle.wide_translation.specs.declared.carried.Carried.{Carried as CodeCarried}
use Rattle.wide_translation.specs.declared.translation_error.TranslationError.{TranslationError}
use Rattle.wide_translation.specs.Carried.{Carried, UnknownName, UnsignedInt, Translation, refused}
use Rattle.wide_translation.specs.Declarations.{ReturnsCarried, IsRefusal}
use Rattle.wide_translation.specs.Layers.{compared_uint, is_equality, is_of_sets, sets_test}
use Rattle.wide_translation.specs.Lists.{sets_translation}
use Rattle.wide_translation.specs.Scope.{WideScope}
use Rattle.wide_translation.specs.Translated.{on_plain, with_plain, equality, plain_binary, binary_carried, operand}
use Rattle.wide_translation.specs.Translated.{function_carried, call_translation, qualified_translation}
use Rattle.wide_translation.specs.Translated.{index_carried, count_index, count_literal}
unfoldable use Rattle.wide_translation.specs.Translated.{translated, all_translated}
use Rattle.wide_translation.proofs.WideViews.{view_list}

-- whether a list literal has no items
items_empty : (es : List (Access × CodeWide)) → is_empty_list (wide.list (wide.items (map wide.item_view es))) ≡ (length es == 0)
items_empty [] = refl
items_empty (e ∷ es) = grind (arith, nat_tests)

pub list_is_empty : (given : Vec (Access × CodeWide) Global) → is_empty_list (wide.view (code.List given)) ≡ (length given.items == 0)
list_is_empty given = ap is_empty_list (view_list given) ∙ items_empty given.items

number : Option ℕ → ℕ
number (Some n) = n
number None = 0

pub compared_some : (b : Bool) (a : Wide) (n : ℕ) (t : Translation) → Some n ≡ compared_uint b a → operand b a t ≡ operand true (wide.uint n) (refused UnsignedInt)
unfolding number
compared_some true (wide.uint m) n t h = (λ j. operand true (wide.uint (number (sym h j))) t)
compared_some true _ n t h = absurd (cc)
compared_some false a n t h = absurd (cc)

pub compared_none : (b : Bool) (a : Wide) (t : Translation) → None ≡ compared_uint b a → operand b a t ≡ t
compared_none true (wide.uint m) t h = absurd (cc)
compared_none true _ t h = refl
compared_none false a t h = refl

pub call_of_none : (f : Option Function) (n : List ℕ) (es : List CodeWide) (s : WideScope) → length es < 1
    → call_translation f n (all_translated s (wide.wides (map wide.view es))) ≡ refused (UnknownName n)
unfolding all_translated
call_of_none None n es s h = refl
call_of_none (Some f) n [] s h = refl
call_of_none (Some f) n (a ∷ es) s h = absurd (omega arith)

pub call_of_many : (f : Option Function) (n : List ℕ) (es : List CodeWide) (s : WideScope) → 1 < length es
    → call_translation f n (all_translated s (wide.wides (map wide.view es))) ≡ refused (UnknownName n)
unfolding all_translated
call_of_many None n es s h = refl
call_of_many (Some f) n (a ∷ b ∷ es) s h = refl
call_of_many (Some f) n _ s h = absurd (omega arith)

qualified_refused : (q : Qualified) (n : List ℕ) (t u v : Translation) (ts : List Translation) → qualified_translation q n (t ∷ u ∷ v ∷ ts) ≡ refused (UnknownName n)
qualified_refused qualified.OptionalOf n t u v ts = refl
qualified_refused qualified.SetsContains n t u v ts = refl
qualified_refused qualified.SetsIntersects n t u v ts = refl
qualified_refused qualified.SetsEquivalent n t u v ts = refl
qualified_refused _ n t u v ts = refl

pub qualified_of_many : (q : Qualified) (n : List ℕ) (es : List CodeWide) (s : WideScope) → 2 < length es
    → qualified_translation q n (all_translated s (wide.wides (map wide.view es))) ≡ refused (UnknownName n)
unfolding all_translated
qualified_of_many q n (a ∷ b ∷ c ∷ es) s h = qualified_refused q n _ _ _ _
qualified_of_many q n _ s h = absurd (omega arith)

sets_of_two : (q : Qualified) (n : List ℕ) (t u : Translation) → is_of_sets q ≡ true → sets_translation (sets_test q) t u ≡ qualified_translation q n (t ∷ u ∷ [])
sets_of_two qualified.SetsContains n t u h = refl
sets_of_two qualified.SetsIntersects n t u h = refl
sets_of_two qualified.SetsEquivalent n t u h = refl
sets_of_two _ n t u h = absurd (cc)

none_of_two : (q : Qualified) (n : List ℕ) (t u : Translation) → is_of_sets q ≡ false → qualified_translation q n (t ∷ u ∷ []) ≡ refused (UnknownName n)
none_of_two qualified.SetsContains n t u h = absurd (cc)
none_of_two qualified.SetsIntersects n t u h = absurd (cc)
none_of_two qualified.SetsEquivalent n t u h = absurd (cc)
none_of_two qualified.OptionalOf n t u h = refl
none_of_two _ n t u h = refl

pub counted : (z : ℤ) (o : Access) (c d : Carried) (r : Result CodeCarried TranslationError) → pos 0 ≤ℤ z → ((n : ℕ) → z ≡ pos n → ReturnsCarried (count_index n o c d) r)
    → ReturnsCarried (index_carried None (count_literal (wide.literal (node.int z))) o c d) r
counted (pos n) o c d r h f = f n refl
counted (negsuc n) o c d r h f = absurd (omega (arith, h))

pub equality_arm : (empty : Bool) (op : BinaryOperator) (c d : Carried) → is_equality op ≡ true → binary_carried empty op c d ≡ equality op c d
equality_arm empty Equal c d h = refl
equality_arm empty NotEqual c d h = refl
equality_arm empty _ c d h = absurd (cc)

pub operands_arm : (empty : Bool) (op : BinaryOperator) (c d : Carried) → is_equality op ≡ false
    → binary_carried empty op c d ≡ on_plain c (λ k a. on_plain d (λ j b. plain_binary empty op k j a b))
operands_arm empty Equal c d h = absurd (cc)
operands_arm empty NotEqual c d h = absurd (cc)
operands_arm empty _ c d h = refl

-- ---- arguments

all_of_none : (s : WideScope) (es : List CodeWide) → length es < 1 → all_translated s (wide.wides (map wide.view es)) ≡ []
unfolding all_translated
all_of_none s [] h = refl
all_of_none s (a ∷ es) h = absurd (omega arith)

all_of_one : (s : WideScope) (es : List CodeWide) (a : CodeWide) → length es ≡ 1 → a ≡ get_or es 0 a → all_translated s (wide.wides (map wide.view es)) ≡ translated s (wide.view a) ∷ []
unfolding all_translated
all_of_one s [] a h is = absurd (omega arith)
all_of_one s (b ∷ []) a h is = ap (λ (x : CodeWide). translated s (wide.view x) ∷ []) (sym is)
all_of_one s (b ∷ d ∷ es) a h is = absurd (omega arith)

pub all_of_two : (s : WideScope) (es : List CodeWide) (a b : CodeWide) → length es ≡ 2 → a ≡ get_or es 0 a → b ≡ get_or es 1 b
    → all_translated s (wide.wides (map wide.view es)) ≡ translated s (wide.view a) ∷ translated s (wide.view b) ∷ []
unfolding all_translated
all_of_two s (c ∷ d ∷ []) a b h is also = λ j. translated s (wide.view (sym is j)) ∷ translated s (wide.view (sym also j)) ∷ []
all_of_two s [] a b h is also = absurd (omega arith)
all_of_two s (c ∷ []) a b h is also = absurd (omega arith)
all_of_two s (c ∷ d ∷ f ∷ es) a b h is also = absurd (omega arith)

pub returns_at : (t u : Translation) (r : Result CodeCarried TranslationError) → t ≡ u → ReturnsCarried t r → ReturnsCarried u r
returns_at t u r h x = subst (λ (y : Translation). ReturnsCarried y r) h x

pub none_returns : (f : List Translation → Translation) (s : WideScope) (es : List CodeWide) (r : Result CodeCarried TranslationError) → length es < 1
    → ReturnsCarried (f []) r → ReturnsCarried (f (all_translated s (wide.wides (map wide.view es)))) r
none_returns f s es r h x = returns_at _ _ r (ap f (sym (all_of_none s es h))) x

pub one_returns : (f : List Translation → Translation) (s : WideScope) (es : List CodeWide) (a : CodeWide) (r : Result CodeCarried TranslationError) → length es ≡ 1 → a ≡ get_or es 0 a
    → ReturnsCarried (f (translated s (wide.view a) ∷ [])) r → ReturnsCarried (f (all_translated s (wide.wides (map wide.view es)))) r
one_returns f s es a r h is x = returns_at _ _ r (ap f (sym (all_of_one s es a h is))) x

-- a function with a namespace of two arguments
pub two_sets : (q : Qualified) (n : List ℕ) (s : WideScope) (es : List CodeWide) (a b : CodeWide) (r : Result CodeCarried TranslationError) → length es ≡ 2
    → a ≡ get_or es 0 a → b ≡ get_or es 1 b → is_of_sets q ≡ true → ReturnsCarried (sets_translation (sets_test q) (translated s (wide.view a)) (translated s (wide.view b))) r
    → ReturnsCarried (qualified_translation q n (all_translated s (wide.wides (map wide.view es)))) r
two_sets q n s es a b r h is also of x =
    returns_at _ _ r (sets_of_two q n _ _ of ∙ ap (qualified_translation q n) (sym (all_of_two s es a b h is also))) x

pub two_refused : (q : Qualified) (n : List ℕ) (s : WideScope) (es : List CodeWide) (a b : CodeWide) (e : TranslationError) → length es ≡ 2
    → a ≡ get_or es 0 a → b ≡ get_or es 1 b → is_of_sets q ≡ false → IsRefusal (refused (UnknownName n)) e
    → IsRefusal (qualified_translation q n (all_translated s (wide.wides (map wide.view es)))) e
two_refused q n s es a b e h is also of x =
    λ m. ap (qualified_translation q n) (all_of_two s es a b h is also) ∙ none_of_two q n _ _ of ∙ x m

pub call_of_one : (f : Option Function) (g : Function) (n : List ℕ) (t : Translation) (r : Result CodeCarried TranslationError) → f ≡ Some g
    → ReturnsCarried (with_plain t (function_carried g)) r → ReturnsCarried (call_translation f n (t ∷ [])) r
call_of_one f g n t r p x = returns_at _ _ r (sym (λ j. call_translation (p j) n (t ∷ []))) x

-- an error that `?` passes on
pub passed_on : (t : Translation) (e : TranslationError) (r : Result CodeCarried TranslationError) → IsRefusal t e → IsErr r → IsErrAnd r (λ x. x ≡ e) → ReturnsCarried t r
passed_on t e (Ok c) h err is = absurd is
passed_on t e (Err x) h err is = subst (λ (y : TranslationError). IsRefusal t y) (sym is) h
