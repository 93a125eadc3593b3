-- What is known of lists of expressions, one more expression at a time.
use Rattle.std.proofs.Common.{◌≡◌, ℕ, suc, ◌+◌, ◌<◌, ◌≤◌, Bool, true, false, ◌&&◌, List, [], ◌∷◌, length, get_or, drop, map, ap, ◌∙◌, refl}
use Rattle.wide_reader.specs.Tree as wide
use Rattle.wide_reader.specs.declared.wide.Access.{Access}
use Rattle.wide_reader.specs.declared.wide.Wide.{Wide as CodeWide}
use Rattle.wide_widths.specs.Narrow.{NarrowNames, items_count, entries_count}
unfoldable use Rattle.wide_widths.specs.Narrow.{is_narrow, are_items_narrow, are_entries_narrow}
unfoldable use Rattle.wide_indices.specs.Narrow.{has_narrow_ranges, all_have_narrow_ranges, items_have_narrow_ranges, entries_have_narrow_ranges}
use Rattle.wide_translation.proofs.ItemSteps.{dropped, all_dropped}

-- ---- ranges in arguments

abbrev pub argument_ranges : NarrowNames → List CodeWide → Bool
argument_ranges s es = all_have_narrow_ranges s (wide.wides (map wide.view es))

pub argument_next : (s : NarrowNames) (given : List CodeWide) (i : ℕ) (x : CodeWide) → i < length given → x ≡ get_or given i x
    → has_narrow_ranges s (wide.view x) ≡ true → argument_ranges s (drop i given) ≡ argument_ranges s (drop (i + 1) given)
unfolding has_narrow_ranges
argument_next s given i x h e q = ap (argument_ranges s) (dropped given i x h e) ∙ (λ j. q j && argument_ranges s (drop (i + 1) given))

pub argument_found : (s : NarrowNames) (given : List CodeWide) (i : ℕ) (x : CodeWide) → i < length given → x ≡ get_or given i x
    → has_narrow_ranges s (wide.view x) ≡ false → argument_ranges s (drop i given) ≡ false
unfolding has_narrow_ranges
argument_found s given i x h e q = ap (argument_ranges s) (dropped given i x h e) ∙ (λ j. q j && argument_ranges s (drop (i + 1) given))

pub arguments_end : (s : NarrowNames) (given : List CodeWide) (i : ℕ) → length given ≤ i → argument_ranges s (drop i given) ≡ true
unfolding has_narrow_ranges
arguments_end s given i h = ap (argument_ranges s) (all_dropped given i h)

-- ---- ranges in items

abbrev pub item_ranges : NarrowNames → List (Access × CodeWide) → Bool
item_ranges s es = items_have_narrow_ranges s (wide.items (map wide.item_view es))

pub item_next : (s : NarrowNames) (given : List (Access × CodeWide)) (i : ℕ) (x : Access × CodeWide) → i < length given → x ≡ get_or given i x
    → has_narrow_ranges s (wide.view x.1) ≡ true → item_ranges s (drop i given) ≡ item_ranges s (drop (i + 1) given)
unfolding has_narrow_ranges
item_next s given i x h e q = ap (item_ranges s) (dropped given i x h e) ∙ (λ j. q j && item_ranges s (drop (i + 1) given))

pub item_found : (s : NarrowNames) (given : List (Access × CodeWide)) (i : ℕ) (x : Access × CodeWide) → i < length given → x ≡ get_or given i x
    → has_narrow_ranges s (wide.view x.1) ≡ false → item_ranges s (drop i given) ≡ false
unfolding has_narrow_ranges
item_found s given i x h e q = ap (item_ranges s) (dropped given i x h e) ∙ (λ j. q j && item_ranges s (drop (i + 1) given))

pub items_end : (s : NarrowNames) (given : List (Access × CodeWide)) (i : ℕ) → length given ≤ i → item_ranges s (drop i given) ≡ true
unfolding has_narrow_ranges
items_end s given i h = ap (item_ranges s) (all_dropped given i h)

-- ---- ranges in entries

abbrev pub entry_ranges : NarrowNames → List (Access × CodeWide × CodeWide) → Bool
entry_ranges s es = entries_have_narrow_ranges s (wide.entries (map wide.entry_view es))

pub entry_next : (s : NarrowNames) (given : List (Access × CodeWide × CodeWide)) (i : ℕ) (x : Access × CodeWide × CodeWide) → i < length given
    → x ≡ get_or given i x → has_narrow_ranges s (wide.view x.1) ≡ true → has_narrow_ranges s (wide.view x.2) ≡ true
    → entry_ranges s (drop i given) ≡ entry_ranges s (drop (i + 1) given)
unfolding has_narrow_ranges
entry_next s given i x h e q r = ap (entry_ranges s) (dropped given i x h e) ∙ (λ j. q j && (r j && entry_ranges s (drop (i + 1) given)))

pub key_found : (s : NarrowNames) (given : List (Access × CodeWide × CodeWide)) (i : ℕ) (x : Access × CodeWide × CodeWide) → i < length given
    → x ≡ get_or given i x → has_narrow_ranges s (wide.view x.1) ≡ false → entry_ranges s (drop i given) ≡ false
unfolding has_narrow_ranges
key_found s given i x h e q =
    ap (entry_ranges s) (dropped given i x h e) ∙ (λ j. q j && (has_narrow_ranges s (wide.view x.2) && entry_ranges s (drop (i + 1) given)))

pub value_found : (s : NarrowNames) (given : List (Access × CodeWide × CodeWide)) (i : ℕ) (x : Access × CodeWide × CodeWide) → i < length given
    → x ≡ get_or given i x → has_narrow_ranges s (wide.view x.1) ≡ true → has_narrow_ranges s (wide.view x.2) ≡ false
    → entry_ranges s (drop i given) ≡ false
unfolding has_narrow_ranges
value_found s given i x h e q r = ap (entry_ranges s) (dropped given i x h e) ∙ (λ j. q j && (r j && entry_ranges s (drop (i + 1) given)))

pub entries_end : (s : NarrowNames) (given : List (Access × CodeWide × CodeWide)) (i : ℕ) → length given ≤ i → entry_ranges s (drop i given) ≡ true
unfolding has_narrow_ranges
entries_end s given i h = ap (entry_ranges s) (all_dropped given i h)

-- ---- narrow items

abbrev pub narrow_items : NarrowNames → List (Access × CodeWide) → Bool
narrow_items s es = are_items_narrow s (wide.items (map wide.item_view es))

pub narrow_item : (s : NarrowNames) (given : List (Access × CodeWide)) (i : ℕ) (x : Access × CodeWide) → i < length given → x ≡ get_or given i x
    → is_narrow s (wide.view x.1) ≡ true → narrow_items s (drop i given) ≡ narrow_items s (drop (i + 1) given)
unfolding is_narrow
narrow_item s given i x h e q = ap (narrow_items s) (dropped given i x h e) ∙ (λ j. q j && narrow_items s (drop (i + 1) given))

pub other_item : (s : NarrowNames) (given : List (Access × CodeWide)) (i : ℕ) (x : Access × CodeWide) → i < length given → x ≡ get_or given i x
    → is_narrow s (wide.view x.1) ≡ false → narrow_items s (drop i given) ≡ false
unfolding is_narrow
other_item s given i x h e q = ap (narrow_items s) (dropped given i x h e) ∙ (λ j. q j && narrow_items s (drop (i + 1) given))

pub narrow_items_end : (s : NarrowNames) (given : List (Access × CodeWide)) (i : ℕ) → length given ≤ i → narrow_items s (drop i given) ≡ true
unfolding is_narrow
narrow_items_end s given i h = ap (narrow_items s) (all_dropped given i h)

-- ---- narrow entries

abbrev pub narrow_entries : NarrowNames → List (Access × CodeWide × CodeWide) → Bool
narrow_entries s es = are_entries_narrow s (wide.entries (map wide.entry_view es))

pub narrow_entry : (s : NarrowNames) (given : List (Access × CodeWide × CodeWide)) (i : ℕ) (x : Access × CodeWide × CodeWide) → i < length given
    → x ≡ get_or given i x → is_narrow s (wide.view x.2) ≡ true → narrow_entries s (drop i given) ≡ narrow_entries s (drop (i + 1) given)
unfolding is_narrow
narrow_entry s given i x h e q = ap (narrow_entries s) (dropped given i x h e) ∙ (λ j. q j && narrow_entries s (drop (i + 1) given))

pub other_entry : (s : NarrowNames) (given : List (Access × CodeWide × CodeWide)) (i : ℕ) (x : Access × CodeWide × CodeWide) → i < length given
    → x ≡ get_or given i x → is_narrow s (wide.view x.2) ≡ false → narrow_entries s (drop i given) ≡ false
unfolding is_narrow
other_entry s given i x h e q = ap (narrow_entries s) (dropped given i x h e) ∙ (λ j. q j && narrow_entries s (drop (i + 1) given))

pub narrow_entries_end : (s : NarrowNames) (given : List (Access × CodeWide × CodeWide)) (i : ℕ) → length given ≤ i → narrow_entries s (drop i given) ≡ true
unfolding is_narrow
narrow_entries_end s given i h = ap (narrow_entries s) (all_dropped given i h)

-- ---- the number of parts

pub items_are_counted : (given : List (Access × CodeWide)) → items_count (wide.items (map wide.item_view given)) ≡ length given
items_are_counted [] = refl
items_are_counted (x ∷ given) = ap suc (items_are_counted given)

pub entries_are_counted : (given : List (Access × CodeWide × CodeWide)) → entries_count (wide.entries (map wide.entry_view given)) ≡ length given
entries_are_counted [] = refl
entries_are_counted (x ∷ given) = ap suc (entries_are_counted given)
