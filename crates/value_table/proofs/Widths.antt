-- The width of a value, from the widths of its parts.
use Rattle.std.proofs.Common.{◌≡◌, ℕ, None, option_map, suc, ◌+◌, ◌<◌, ◌≤◌, max, List, [], ◌∷◌, length, get_or, drop, drop-cons, Some, slice_get, refl, sym, ap, ◌∙◌, arith, add-one}
use Rattle.std.proofs.lemmas.List.{drop_all, length-map}
use Rattle.std.proofs.lemmas.Option.{get_or_from_slice_get}
use Rattle.value_store.specs.Value as kind
use Rattle.value_store.specs.Value.{Value, items_of, list_of, keys_of}
use Rattle.value_widths.specs.Width.{width_of, items_width, entries_width, widest, result_width}
use Rattle.value_table.specs.Equality.{AreContents, AreMeanings}
use Rattle.value_table.specs.Heads.{parts, texts_of, values_at, entries_of}
use Rattle.value_table.specs.Heaps.{IsContent}
use Rattle.value_table.specs.Meaning.{meaning, value_in, keys_at, refs_at}
use Rattle.value_table.specs.References.{place_at, reference_values}
use Rattle.value_table.specs.declared.cell.Cell.{Cell}
use Rattle.value_table.specs.declared.content.Content.{Content}
use Rattle.value_table.specs.declared.content.Content.TheVariants as cell
use Rattle.value_table.specs.declared.heap.Heap.{Heap}
use Rattle.value_backings.specs.declared.backings.Backings.{Backings}
use Rattle.value_table.proofs.Heads.{meaning_built, map_fits}
use Rattle.value_table.proofs.Named.{no_place}

items_long : (ws : List Value) → length (list_of (items_of ws)) ≡ length ws
items_long [] = refl
items_long (w ∷ ws) = ap suc (items_long ws)

items_wide : (ws : List Value) → items_width (items_of ws) ≡ widest ws
items_wide [] = refl
items_wide (w ∷ ws) = ap (max (width_of w)) (items_wide ws)

list_width : (ws : List Value) → width_of (kind.list (items_of ws)) ≡ max (length ws) (widest ws)
list_width ws = λ i. max (items_long ws i) (items_wide ws i)

entries_long : (ks : List (List ℕ)) (ws : List Value) → length ks ≡ length ws → length (keys_of (entries_of ks ws)) ≡ length ws
entries_long [] [] e = refl
entries_long (k ∷ ks) (w ∷ ws) e = ap suc (entries_long ks ws (omega (arith, e)))
entries_long [] (w ∷ ws) e = absurd (omega (arith, e))
entries_long (k ∷ ks) [] e = absurd (omega (arith, e))

entries_wide : (ks : List (List ℕ)) (ws : List Value) → length ks ≡ length ws → entries_width (entries_of ks ws) ≡ widest ws
entries_wide [] [] e = refl
entries_wide (k ∷ ks) (w ∷ ws) e = ap (max (width_of w)) (entries_wide ks ws (omega (arith, e)))
entries_wide [] (w ∷ ws) e = absurd (omega (arith, e))
entries_wide (k ∷ ks) [] e = absurd (omega (arith, e))

map_width : (ks : List (List ℕ)) (ws : List Value) → length ks ≡ length ws → width_of (kind.map (entries_of ks ws)) ≡ max (length ws) (widest ws)
map_width ks ws e = λ i. max (entries_long ks ws e i) (entries_wide ks ws e i)

-- the width of a cell's value, from the values of its parts
meaning_width : (bs : Backings) (vs : List Value) (i : ℕ) (c : Content) → IsContent bs i c
    → width_of (meaning bs vs c) ≡ max (length (parts bs c)) (widest (values_at vs (parts bs c)))
meaning_width bs vs i cell.Null h = refl
meaning_width bs vs i (cell.Bool b) h = refl
meaning_width bs vs i (cell.Int n) h = refl
meaning_width bs vs i (cell.Text p) h = refl
meaning_width bs vs i (cell.List b n) h =
    ap width_of (meaning_built bs vs (cell.List b n)) ∙ list_width (values_at vs (refs_at bs.lists b n))
    ∙ ap (λ k. max k (widest (values_at vs (refs_at bs.lists b n)))) (length-map (refs_at bs.lists b n) (value_in vs))
meaning_width bs vs i (cell.Map k b n) h =
    ap width_of (meaning_built bs vs (cell.Map k b n))
    ∙ map_width (texts_of bs.bytes (keys_at bs.keys k n)) (values_at vs (refs_at bs.lists b n)) (map_fits bs vs i k b n h)
    ∙ ap (λ j. max j (widest (values_at vs (refs_at bs.lists b n)))) (length-map (refs_at bs.lists b n) (value_in vs))

-- before the first part
pub width_begins : (bs : Backings) (vs : List Value) (cs : List Cell) (i : ℕ) (c : Cell) (ps : List ℕ) → AreContents bs cs → AreMeanings bs vs cs
    → slice_get cs i ≡ Some c → ps ≡ parts bs c.content → max (length ps) (widest (values_at vs (drop 0 ps))) ≡ width_of (value_in vs i)
width_begins bs vs cs i c ps s m e p =
    ap (λ qs. max (length qs) (widest (values_at vs qs))) p ∙ sym (meaning_width bs vs i c.content (s i c e))
    ∙ ap width_of (sym (get_or_from_slice_get vs i _ kind.null (m i c e)))

max_later : (w v u : ℕ) → max (max w v) u ≡ max w (max v u)
max_later w v u = omega arith

-- after one more part
pub width_step : (vs : List Value) (ps : List ℕ) (i w v : ℕ) → i < length ps → v ≡ width_of (value_in vs (get_or ps i 0))
    → max (max w v) (widest (values_at vs (drop (i + 1) ps))) ≡ max w (widest (values_at vs (drop i ps)))
width_step vs ps i w v l e =
    rw (add-one, drop-cons ps i 0 l) (ap (λ u. max (max w u) (widest (values_at vs (drop (suc i) ps)))) e ∙ max_later w (width_of (value_in vs (get_or ps i 0))) (widest (values_at vs (drop (suc i) ps))))

-- after the last
pub width_ends : (vs : List Value) (ps : List ℕ) (i w n : ℕ) → length ps ≤ i → max w (widest (values_at vs (drop i ps))) ≡ n → w ≡ n
width_ends vs ps i w n l e =
    let h : max w (widest (values_at vs [])) ≡ n = ap (λ qs. max w (widest (values_at vs qs))) (sym (drop_all i ps l)) ∙ e in
    omega (arith, h)

-- a reference without a place is the error's
pub no_width : (t : Heap) (qs : List ℕ) (h : ℕ) → h < length (reference_values t qs) → place_at qs h ≡ None
    → Some 0 ≡ option_map result_width (slice_get (reference_values t qs) h)
no_width t qs h l e = ap (option_map result_width) (sym (no_place t qs h l e))
