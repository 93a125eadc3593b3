-- The names of pairs, and the scopes in which they are bound.
use Rattle.std.proofs.Common.{◌≡◌, ◌∙◌, ℕ, zero, suc, List, ◌∷◌, ◌++◌, replicate, length, codes, Bor, Result, refl, ap, sym, subst}
use Rattle.wide_reader.specs.Tree.{Wide}
use Rattle.wide_translation.specs.Declarations.{ReturnsCarried, place_view, scope_in, scope_step}
use Rattle.wide_translation.specs.Names.{pair_name}
use Rattle.wide_translation.specs.Pairs.{PairUse, key_place, value_place, within_pair}
use Rattle.wide_translation.specs.Scope.{WideScope, enclosed}
use Rattle.wide_translation.specs.declared.carried.Carried.{Carried as CodeCarried}
use Rattle.wide_translation.specs.declared.names.Names as names
use Rattle.wide_translation.specs.declared.names.Names.{Names, TheVariants.rolls-Within}
use Rattle.wide_translation.specs.declared.names.Names.TheFolds.{fold-roll-Names}
use Rattle.wide_translation.specs.declared.place.Place.{Place as CodePlace}
use Rattle.wide_translation.specs.declared.translation_error.TranslationError.{TranslationError}
unfoldable use Rattle.wide_translation.specs.Translated.{translated}

pub outermost : pair_name 0 ≡ codes "celbpf_p"
outermost = refl

repeated : (n : ℕ) → replicate n 112 ++ codes "p" ≡ replicate (suc n) 112
repeated zero = refl
repeated (suc n) = ap (λ ps. 112 ∷ ps) (repeated n)

pub longer : (n : ℕ) → pair_name n ++ codes "p" ≡ pair_name (suc n)
longer n = ap (λ ps. codes "celbpf_p" ++ ps) (repeated n)

-- ---- scopes

-- the scope inside a macro
pub inside : (n : Bor (List ℕ)) (p : CodePlace) (outer : Bor Names) → scope_in (names.Within n p outer) ≡ enclosed n.now (place_view p) (scope_in outer.now)
inside n p outer = ap scope_in (sym (rolls-Within n p outer)) ∙ fold-roll-Names WideScope scope_step _

-- the scope inside a macro with two names
pub inside_pair : (k v : Bor (List ℕ)) (p q : CodePlace) (all outer : Bor Names) (u : PairUse) (m n y : List ℕ)
    → outer.now ≡ names.Within k p all → place_view p ≡ key_place u y → place_view q ≡ value_place u y → y ≡ pair_name (length (scope_in all.now).names)
    → k.now ≡ m → v.now ≡ n → scope_in (names.Within v q outer) ≡ within_pair u m n (scope_in all.now)
inside_pair k v p q all outer u m n y is first second named key item =
    inside v q outer
    ∙ ap (λ (x : Names). enclosed v.now (place_view q) (scope_in x)) is
    ∙ ap (enclosed v.now (place_view q)) (inside k p all)
    ∙ (λ j. enclosed (item j) (second j) (enclosed (key j) (first j) (scope_in all.now)))
    ∙ ap (λ (z : List ℕ). enclosed n (value_place u z) (enclosed m (key_place u z) (scope_in all.now))) named

-- what the code returns in a scope, it returns in an equal one
pub in_scope : (s t : WideScope) (e : Wide) (r : Result CodeCarried TranslationError) → s ≡ t → ReturnsCarried (translated s e) r → ReturnsCarried (translated t e) r
in_scope s t e r same returns = subst (λ (x : WideScope). ReturnsCarried (translated x e) r) same returns
