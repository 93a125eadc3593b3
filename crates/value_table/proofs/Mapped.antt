-- Maps with one more entry.
use Rattle.value_table.proofs.Prelude.{◌≡◌, ℕ, zero, suc, ◌+◌, ◌<◌, ◌≤◌, List, [], ◌∷◌, length, refl, sym, ap, ◌∙◌, arith, subst, max, true≢false, true, Option, Some, is_some, not, IsSome, option_map, Ordering, Less, Greater, nat_cmp, slice_cmp, length-map, Value, Entries, entry, keys_of, depth_of, entries_depth, Ascend, IsOrdered, saturated, put_of, inserted, inserted_by, put_ordered, inserted_once, has_key_place, part_of, value_in, entries_at, refs_at, keys_at, meaning, IsText, AreTexts, AreBelow, IsContent, IsCell, CellFound, HoldsItems, commas, texts_of, IsKeyAt, IsInsertionPlace, put_values, with_one, HoldsKeys, Part, Cell, Backings}
use Rattle.std.specs.List.Sorted.{IsStrictlySortedBy}
use Rattle.value_store.specs.Value as kind
use Rattle.value_table.specs.declared.content.Content.TheVariants as cell
use Rattle.value_table.proofs.Lookups.{place_by_keys, found_place}
use Rattle.value_table.proofs.Heads.{range_long}
use Rattle.value_table.proofs.TextLengths.{put_long}
use Rattle.value_table.proofs.Listed.{Made, below_le, if_made}

-- ---- an entry inserted at its place

inserted_at : (o : Ordering) (key : List ℕ) (v : Value) (k : List ℕ) (w : Value) (more : Entries) (rest : Option Entries) → slice_cmp nat_cmp key k ≡ o
    → inserted_by (slice_cmp nat_cmp key k) key v k w more rest ≡ inserted_by o key v k w more rest
inserted_at o key v k w more rest e = ap (λ p. inserted_by p key v k w more rest) e

pub entry_put : (bytes : List ℕ) (vs : List Value) (ks : List Part) (rs : List ℕ) (k : Part) (x i : ℕ) → length ks ≡ length rs
    → IsInsertionPlace (texts_of bytes ks) (part_of bytes k) i
    → inserted (part_of bytes k) (value_in vs x) (entries_at bytes vs ks rs) ≡ Some (entries_at bytes vs (with_one i k ks) (with_one i x rs))
entry_put bytes vs [] [] k x zero e g = refl
entry_put bytes vs [] [] k x (suc i) e g = absurd (let l = g.inside in omega arith)
entry_put bytes vs (p ∷ ks) (r ∷ rs) k x zero e g =
    inserted_at Less (part_of bytes k) (value_in vs x) (part_of bytes p) (value_in vs r) (entries_at bytes vs ks rs) (inserted (part_of bytes k) (value_in vs x) (entries_at bytes vs ks rs)) (g.behind 0 [] (omega arith) (omega arith))
entry_put bytes vs (p ∷ ks) (r ∷ rs) k x (suc i) e g =
    let key = part_of bytes k in
    let inside = g.inside in
    let rest : IsInsertionPlace (texts_of bytes ks) key i = record { inside = omega arith; before = λ j d l. g.before (suc j) d (omega arith); behind = λ j d l m. g.behind (suc j) d (omega arith) (omega arith) } in
    inserted_at Greater key (value_in vs x) (part_of bytes p) (value_in vs r) (entries_at bytes vs ks rs) (inserted key (value_in vs x) (entries_at bytes vs ks rs)) (g.before 0 [] (omega arith))
    ∙ ap (option_map (entry (part_of bytes p) (value_in vs r))) (entry_put bytes vs ks rs k x i (omega arith) rest)
entry_put bytes vs _ _ k x i e g = absurd (omega arith)

-- ---- the new parts are below, readable, and as deep

below_one : (i : ℕ) (rs : List ℕ) (x p : ℕ) → AreBelow i rs → x < i → AreBelow i (with_one p x rs)
below_one i [] x zero b h = (h, tt)
below_one i [] x (suc p) b h = (h, tt)
below_one i (r ∷ rs) x zero b h = (h, b)
below_one i (r ∷ rs) x (suc p) b h = (b.0, below_one i rs x p b.1 h)

texts_one : (bytes : List ℕ) (ks : List Part) (k : Part) (p : ℕ) → AreTexts bytes ks → IsText bytes k → AreTexts bytes (with_one p k ks)
texts_one bytes [] k zero b h = (h, tt)
texts_one bytes [] k (suc p) b h = (h, tt)
texts_one bytes (j ∷ ks) k zero b h = (h, b)
texts_one bytes (j ∷ ks) k (suc p) b h = (b.0, texts_one bytes ks k p b.1 h)

pub depth_one : (bytes : List ℕ) (vs : List Value) (ks : List Part) (rs : List ℕ) (k : Part) (x p : ℕ) → length ks ≡ length rs → p ≤ length ks
    → entries_depth (entries_at bytes vs (with_one p k ks) (with_one p x rs)) ≡ max (entries_depth (entries_at bytes vs ks rs)) (depth_of (value_in vs x))
depth_one bytes vs [] [] k x zero e l = omega arith
depth_one bytes vs (j ∷ ks) (r ∷ rs) k x zero e l = omega arith
depth_one bytes vs (j ∷ ks) (r ∷ rs) k x (suc p) e l = let h = depth_one bytes vs ks rs k x p (omega arith) (omega arith) in omega (arith, h)
depth_one bytes vs _ _ k x _ e l = absurd (omega arith)

-- the cell of a map with one more entry
module _ (bs : Backings) (vs : List Value) (m k x : ℕ) where
  -- the map, the key and the value with their cells, and the place where the key belongs
  pub record IsPut (row b n i : ℕ) (key : Part) : Type 0 where
    pub map : Cell
    pub name : Cell
    pub value : Cell
    pub map_found : CellFound bs vs m map
    pub name_found : CellFound bs vs k name
    pub value_found : CellFound bs vs x value
    pub map_is : map.content ≡ cell.Map row b n
    pub name_is : name.content ≡ cell.Text key
    pub pairs : length (keys_at bs.keys row n) ≡ length (refs_at bs.lists b n)
    pub gap : IsInsertionPlace (texts_of bs.bytes (keys_at bs.keys row n)) (part_of bs.bytes key) i

  -- backings that hold the map with the new entry
  pub record HoldsPut (cs : Backings) (row b n row' b' i : ℕ) (key : Part) : Type 0 where
    pub bytes : cs.bytes ≡ bs.bytes
    pub values : HoldsItems cs.lists b' (n + 1) (with_one i x (refs_at bs.lists b n))
    pub keys : HoldsKeys cs.keys row' (n + 1) (with_one i key (keys_at bs.keys row n))

  pub map_put : (cs : Backings) (row b n row' b' i : ℕ) (key : Part) (put : IsPut row b n i key) → HoldsPut cs row b n row' b' i key
      → Made cs vs (record {
        content = cell.Map row' b' (n + 1);
        depth = max put.map.depth (put.value.depth + 1);
        json = saturated (put.map.json + (1 + commas n 1) + put.name.json + put.value.json);
      }) (put_values (value_in vs m) (value_in vs k) (value_in vs x))
  map_put cs row b n row' b' i key is_put holds =
      let mc = is_put.map in
      let kc = is_put.name in
      let xc = is_put.value in
      let fm = is_put.map_found in
      let fk = is_put.name_found in
      let fx = is_put.value_found in
      let em = is_put.map_is in
      let ek = is_put.name_is in
      let long = is_put.pairs in
      let gap = is_put.gap in
      let same = holds.bytes in
      let hr = holds.values in
      let hk = holds.keys in
      let ks = keys_at bs.keys row n in
      let rs = refs_at bs.lists b n in
      let old = entries_at bs.bytes vs ks rs in
      let new = entries_at bs.bytes vs (with_one i key ks) (with_one i x rs) in
      let content = subst (IsContent bs m) em fm.content in
      let put = entry_put bs.bytes vs ks rs key x i long gap in
      let inside = gap.inside in
      let count = length-map ks (part_of bs.bytes) in
      let depths = depth_one bs.bytes vs ks rs key x i long (omega (arith, inside, count)) in
      let text = put_long bs.bytes vs ks rs key x i n long (range_long bs.keys row n content.1.inside) (omega (arith, inside, count)) in
      let low : AreBelow (length vs) rs = below_le m (length vs) rs (omega arith) content.0.below in
      let ordered : IsOrdered (kind.map old) = subst IsOrdered (ap (meaning bs vs) em) fm.ordered in
      let value : IsOrdered (value_in vs x) = subst IsOrdered (sym fx.is) fx.ordered in
      let order : IsOrdered (kind.map new) =
      if_made IsOrdered _ _ (ap (option_map kind.map) put) (put_ordered old (part_of bs.bytes key) (value_in vs x) ordered value) in
      grind (arith, below_one, texts_one)

pub map_new : (cs : Backings) (vs : List Value) (b n : ℕ) (rs : List ℕ) → HoldsItems cs.lists b n rs
    → IsCell cs vs (record { content = cell.Map 0 b 0; depth = 1; json = 2 })
unfolding IsStrictlySortedBy
map_new cs vs b n rs h = record { content = (record { inside = h.inside; long = omega arith; below = tt }, record { inside = omega arith; texts = tt }); depth = refl; shallow = omega arith; json = refl; ordered = (tt, tt) }

-- ---- a key that the map already has cannot be added

there : (o : Option Entries) → IsSome (option_map kind.map o) → is_some o ≡ true
there o h = grind arith

pub taken : (es : Entries) (key : List ℕ) (v : Value) (i : ℕ) → Ascend (keys_of es) → IsKeyAt (keys_of es) key i → IsSome (put_of es key v) → ⊥
taken es key v i a at h =
    let has = has_key_place key es ∙ ap is_some (place_by_keys key es ∙ found_place key (keys_of es) i a at) in
    true≢false (sym (there (inserted key v es) h) ∙ inserted_once key v es a ∙ ap not has)
