-- Names that lists of expressions use, one more expression at a time.
use Rattle.std.proofs.Common.{◌≡◌, ℕ, ◌+◌, ◌<◌, ◌≤◌, Bool, true, false, ◌||◌, List, length, get_or, drop, map, ap, ◌∙◌, refl}
use Rattle.wide_reader.specs.Tree as wide
use Rattle.wide_reader.specs.declared.wide.Access.{Access}
use Rattle.wide_reader.specs.declared.wide.Wide.{Wide as CodeWide}
unfoldable use Rattle.wide_translation.specs.Uses.{uses, any_uses, items_use, entries_use}
use Rattle.wide_translation.proofs.ItemSteps.{dropped, all_dropped}

or_true : (b : Bool) → (b || true) ≡ true
or_true true = refl
or_true false = refl

-- ---- arguments

abbrev pub rest_uses : List ℕ → List CodeWide → Bool
rest_uses n es = any_uses n (wide.wides (map wide.view es))

pub argument_next : (n : List ℕ) (given : List CodeWide) (i : ℕ) (x : CodeWide) → i < length given → x ≡ get_or given i x → uses n (wide.view x) ≡ false
    → rest_uses n (drop i given) ≡ rest_uses n (drop (i + 1) given)
unfolding uses
argument_next n given i x h e q = ap (rest_uses n) (dropped given i x h e) ∙ (λ j. q j || rest_uses n (drop (i + 1) given))

pub argument_found : (n : List ℕ) (given : List CodeWide) (i : ℕ) (x : CodeWide) → i < length given → x ≡ get_or given i x → uses n (wide.view x) ≡ true
    → rest_uses n (drop i given) ≡ true
unfolding uses
argument_found n given i x h e q = ap (rest_uses n) (dropped given i x h e) ∙ (λ j. q j || rest_uses n (drop (i + 1) given))

pub arguments_end : (n : List ℕ) (given : List CodeWide) (i : ℕ) → length given ≤ i → rest_uses n (drop i given) ≡ false
unfolding uses
arguments_end n given i h = ap (rest_uses n) (all_dropped given i h)

-- ---- items

abbrev pub rest_items : List ℕ → List (Access × CodeWide) → Bool
rest_items n es = items_use n (wide.items (map wide.item_view es))

pub item_unused : (n : List ℕ) (given : List (Access × CodeWide)) (i : ℕ) (x : Access × CodeWide) → i < length given → x ≡ get_or given i x → uses n (wide.view x.1) ≡ false
    → rest_items n (drop i given) ≡ rest_items n (drop (i + 1) given)
unfolding uses
item_unused n given i x h e q = ap (rest_items n) (dropped given i x h e) ∙ (λ j. q j || rest_items n (drop (i + 1) given))

pub item_found : (n : List ℕ) (given : List (Access × CodeWide)) (i : ℕ) (x : Access × CodeWide) → i < length given → x ≡ get_or given i x → uses n (wide.view x.1) ≡ true
    → rest_items n (drop i given) ≡ true
unfolding uses
item_found n given i x h e q = ap (rest_items n) (dropped given i x h e) ∙ (λ j. q j || rest_items n (drop (i + 1) given))

pub items_done : (n : List ℕ) (given : List (Access × CodeWide)) (i : ℕ) → length given ≤ i → rest_items n (drop i given) ≡ false
unfolding uses
items_done n given i h = ap (rest_items n) (all_dropped given i h)

-- ---- entries

abbrev pub rest_entries : List ℕ → List (Access × CodeWide × CodeWide) → Bool
rest_entries n es = entries_use n (wide.entries (map wide.entry_view es))

pub entry_unused : (n : List ℕ) (given : List (Access × CodeWide × CodeWide)) (i : ℕ) (x : Access × CodeWide × CodeWide) → i < length given → x ≡ get_or given i x
    → uses n (wide.view x.1) ≡ false → uses n (wide.view x.2) ≡ false → rest_entries n (drop i given) ≡ rest_entries n (drop (i + 1) given)
unfolding uses
entry_unused n given i x h e q r = ap (rest_entries n) (dropped given i x h e) ∙ (λ j. (q j || r j) || rest_entries n (drop (i + 1) given))

pub key_found : (n : List ℕ) (given : List (Access × CodeWide × CodeWide)) (i : ℕ) (x : Access × CodeWide × CodeWide) → i < length given → x ≡ get_or given i x → uses n (wide.view x.1) ≡ true
    → rest_entries n (drop i given) ≡ true
unfolding uses
key_found n given i x h e q = ap (rest_entries n) (dropped given i x h e) ∙ (λ j. (q j || uses n (wide.view x.2)) || rest_entries n (drop (i + 1) given))

pub value_found : (n : List ℕ) (given : List (Access × CodeWide × CodeWide)) (i : ℕ) (x : Access × CodeWide × CodeWide) → i < length given → x ≡ get_or given i x
    → uses n (wide.view x.1) ≡ false → uses n (wide.view x.2) ≡ true → rest_entries n (drop i given) ≡ true
unfolding uses
value_found n given i x h e q r = ap (rest_entries n) (dropped given i x h e) ∙ (λ j. (q j || r j) || rest_entries n (drop (i + 1) given))

pub entries_done : (n : List ℕ) (given : List (Access × CodeWide × CodeWide)) (i : ℕ) → length given ≤ i → rest_entries n (drop i given) ≡ false
unfolding uses
entries_done n given i h = ap (rest_entries n) (all_dropped given i h)
