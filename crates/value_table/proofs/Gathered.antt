-- Lists and maps of existing values.
use Rattle.value_table.proofs.Prelude.{◌≡◌, ℕ, ◌+◌, List, [], ◌∷◌, ◌++◌, length, refl, sym, ap, ap₂, ◌∙◌, arith, max, Some, Value, saturated, quoted, IsOrdered, part_of, items_at, entries_at, AreTexts, AreBelow, CellFound, IsCell, HoldsItems, commas, IsMeasure, with_one, HoldsKeys, Part, Cell, Measure, Backings, push_depth}
use Rattle.value_store.specs.Value as kind
use Rattle.value_table.specs.declared.content.Content.TheVariants as cell
use Rattle.value_table.proofs.Listed.{Made, items_length, items_more}
use Rattle.value_table.proofs.Mapped.{depth_one}
use Rattle.value_table.proofs.TextLengths.{push_long, put_long}

-- the measure of a list with one more item
pub list_measured : (bs : Backings) (vs : List Value) (rs : List ℕ) (x : ℕ) (m m' : Measure) (xc : Cell)
    → IsMeasure (length vs) (kind.list (items_at vs rs)) m → CellFound bs vs x xc
    → m'.depth ≡ max m.depth (xc.depth + 1) → m'.json ≡ saturated (m.json + commas (length rs) 1 + xc.json)
    → IsMeasure (length vs) (kind.list (items_at vs (rs ++ x ∷ []))) m'
list_measured bs vs rs x m m' xc h fx deep long = grind (arith, items_more, push_long, items_length, push_depth)

with_last : {A : Type 0} (x : A) (xs : List A) → with_one (length xs) x xs ≡ xs ++ x ∷ []
with_last x [] = refl
with_last x (y ∷ ys) = ap (λ zs. y ∷ zs) (with_last x ys)

-- the measure of a map with `n` entries, and after one more entry
pub record AddsEntry (bs : Backings) (vs : List Value) (k : Part) (x n : ℕ) (m m' : Measure) : Type 0 where
  pub value : Cell
  pub found : CellFound bs vs x value
  pub key : k.json ≡ saturated (length (quoted (part_of bs.bytes k)))
  pub deep : m'.depth ≡ max m.depth (value.depth + 1)
  pub long : m'.json ≡ saturated (m.json + (1 + commas n 1) + k.json + value.json)

-- the measure of a map with one more entry at the end
pub map_measured : (bs : Backings) (vs : List Value) (ks : List Part) (rs : List ℕ) (k : Part) (x : ℕ) (m m' : Measure) → length ks ≡ length rs
    → IsMeasure (length vs) (kind.map (entries_at bs.bytes vs ks rs)) m → AddsEntry bs vs k x (length ks) m m'
    → IsMeasure (length vs) (kind.map (entries_at bs.bytes vs (ks ++ k ∷ []) (rs ++ x ∷ []))) m'
map_measured bs vs ks rs k x m m' same h adds =
    let bytes = bs.bytes in
    let xc = adds.value in
    let fx = adds.found in
    let key = adds.key in
    let deep = adds.deep in
    let long = adds.long in
    let more : entries_at bytes vs (ks ++ k ∷ []) (rs ++ x ∷ []) ≡ entries_at bytes vs (with_one (length ks) k ks) (with_one (length ks) x rs) =
    ap₂ (entries_at bytes vs) (sym (with_last k ks)) (sym (ap (λ i. with_one i x rs) same ∙ with_last x rs)) in
    grind (arith, depth_one, put_long)

-- the cells of lists and maps
pub list_gathered : (cs : Backings) (vs : List Value) (xs rs : List ℕ) (b : ℕ) (m : Measure) → xs ≡ rs → HoldsItems cs.lists b (length xs) xs
    → AreBelow (length vs) rs → IsMeasure (length vs) (kind.list (items_at vs rs)) m → IsOrdered (kind.list (items_at vs rs))
    → Made cs vs (record { content = cell.List b (length rs); depth = m.depth; json = m.json }) (Some (kind.list (items_at vs rs)))
list_gathered cs vs xs rs b m all held below measure ordered = grind arith

pub list_new : (cs : Backings) (vs : List Value) (b n : ℕ) (rs : List ℕ) → HoldsItems cs.lists b n rs
    → IsCell cs vs (record { content = cell.List b 0; depth = 1; json = 2 })
list_new cs vs b n rs h = record { content = record { inside = h.inside; long = omega arith; below = tt }; depth = refl; shallow = omega arith; json = refl; ordered = tt }

-- keys and values that can become a map
pub record MakeMap (bytes : List ℕ) (vs : List Value) (ks : List Part) (rs : List ℕ) (m : Measure) : Type 0 where
  pub pairs : length ks ≡ length rs
  pub texts : AreTexts bytes ks
  pub below : AreBelow (length vs) rs
  pub measure : IsMeasure (length vs) (kind.map (entries_at bytes vs ks rs)) m
  pub ordered : IsOrdered (kind.map (entries_at bytes vs ks rs))

-- backings that hold these keys and values
pub record HoldsMap (cs : Backings) (row b : ℕ) (ks : List Part) (rs : List ℕ) : Type 0 where
  pub keys : HoldsKeys cs.keys row (length ks) ks
  pub values : HoldsItems cs.lists b (length rs) rs

pub map_gathered : (bs cs : Backings) (vs : List Value) (ks : List Part) (rs : List ℕ) (row b : ℕ) (m : Measure) → cs.bytes ≡ bs.bytes → HoldsMap cs row b ks rs
    → MakeMap bs.bytes vs ks rs m
    → Made cs vs (record { content = cell.Map row b (length rs); depth = m.depth; json = m.json }) (Some (kind.map (entries_at bs.bytes vs ks rs)))
map_gathered bs cs vs ks rs row b m same holds make =
    let pairs = make.pairs in
    let texts = make.texts in
    let below = make.below in
    let measure = make.measure in
    let ordered = make.ordered in
    let keys = holds.keys in
    let values = holds.values in
    grind arith
