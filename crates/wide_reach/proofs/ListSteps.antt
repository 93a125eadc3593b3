-- Items of list literals, one more item at a time.
use Rattle.std.proofs.Common.{◌≡◌, ℕ, zero, suc, ◌+◌, ◌<◌, ◌≤◌, Bool, true, false, ◌&&◌, List, [], ◌∷◌, length, get_or}
use Rattle.std.proofs.Common.{drop, map, ap, ◌∙◌, refl, arith}
use Rattle.wide_reader.specs.Tree as wide
use Rattle.wide_reader.specs.declared.wide.Access.{Access}
use Rattle.wide_reader.specs.declared.wide.Wide.{Wide as CodeWide}
use Rattle.wide_reach.specs.Known.{KnownNames}
unfoldable use Rattle.wide_reach.specs.Known.{has_reach, items_have_reach}

dropped : {A : Type 0} (xs : List A) (i : ℕ) (x : A) → i < length xs → x ≡ get_or xs i x → drop i xs ≡ x ∷ drop (i + 1) xs
dropped [] i x h e = absurd (omega arith)
dropped (a ∷ xs) zero x h e = grind arith
dropped (a ∷ xs) (suc i) x h e = grind (arith, dropped xs i x)

all_dropped : {A : Type 0} (xs : List A) (i : ℕ) → length xs ≤ i → drop i xs ≡ []
all_dropped [] zero h = refl
all_dropped [] (suc i) h = refl
all_dropped (a ∷ xs) zero h = absurd (omega arith)
all_dropped (a ∷ xs) (suc i) h = all_dropped xs i (omega arith)

abbrev pub known_items : KnownNames → List (Access × CodeWide) → Bool
known_items s es = items_have_reach s (wide.items (map wide.item_view es))

pub known_item : (s : KnownNames) (given : List (Access × CodeWide)) (i : ℕ) (x : Access × CodeWide) → i < length given
    → x ≡ get_or given i x
    → has_reach s (wide.view x.1) ≡ true → known_items s (drop i given) ≡ known_items s (drop (i + 1) given)
unfolding has_reach
known_item s given i x h e q = ap (known_items s) (dropped given i x h e) ∙ (λ j. q j && known_items s (drop (i + 1) given))

pub other_item : (s : KnownNames) (given : List (Access × CodeWide)) (i : ℕ) (x : Access × CodeWide) → i < length given
    → x ≡ get_or given i x
    → has_reach s (wide.view x.1) ≡ false → known_items s (drop i given) ≡ false
unfolding has_reach
other_item s given i x h e q = ap (known_items s) (dropped given i x h e) ∙ (λ j. q j && known_items s (drop (i + 1) given))

pub items_end : (s : KnownNames) (given : List (Access × CodeWide)) (i : ℕ) → length given ≤ i → known_items s (drop i given) ≡ true
unfolding has_reach
items_end s given i h = ap (known_items s) (all_dropped given i h)
