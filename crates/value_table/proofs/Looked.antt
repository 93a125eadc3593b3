-- Views of cells.
use Rattle.value_table.proofs.Prelude.{◌≡◌, ℕ, zero, suc, ◌<◌, ◌≤◌, List, [], ◌∷◌, length, get_or, map, refl, sym, ap, ◌∙◌, arith, subst, Some, slice_get, IsSome, option_map, length-map, slice_get-map, slice_get-get_or, Value, parts_of, part_of, value_in, entries_at, refs_at, keys_at, meaning, grown, key_in, parts, texts_of, values_at, IsText, IsRange, IsContent, CellFound, Part, Content, Cell, Backings, outcome_view, sees_list, sees_map}
use Rattle.value_store.specs.Value as kind
use Rattle.value_table.specs.declared.content.Content.TheVariants as cell
use Rattle.value_table.proofs.Listed.{below_le, list_found}
use Rattle.value_table.proofs.Growth.{count_values}
use Rattle.value_table.proofs.Heads.{meaning_built, list_back, values_back, range_long, map_fits, map_keys}
use Rattle.value_table.proofs.Walks.{text_here, part_below as below_its_cell}

meaning_parts : (bs : Backings) (vs : List Value) (i : ℕ) (c : Content) → IsContent bs i c → parts_of (meaning bs vs c) ≡ map (value_in vs) (parts bs c)
meaning_parts bs vs i (cell.List b n) h = ap parts_of (meaning_built bs vs (cell.List b n)) ∙ list_back (values_at vs (refs_at bs.lists b n))
meaning_parts bs vs i (cell.Map k b n) h =
    ap parts_of (meaning_built bs vs (cell.Map k b n))
    ∙ values_back (texts_of bs.bytes (keys_at bs.keys k n)) (values_at vs (refs_at bs.lists b n)) (map_fits bs vs i k b n h)
meaning_parts bs vs i _ h = refl

-- the parts of a value are the values of the parts of its cell
found_parts : (bs : Backings) (vs : List Value) (p : ℕ) (c : Cell) → CellFound bs vs p c → parts_of (value_in vs p) ≡ map (value_in vs) (parts bs c.content)
found_parts bs vs p c f = ap parts_of f.is ∙ meaning_parts bs vs p c.content f.content

some_inside : {A : Type 0} (xs : List A) (i : ℕ) → IsSome (slice_get xs i) → i < length xs
some_inside [] i s = absurd (cc)
some_inside (x ∷ xs) zero s = omega arith
some_inside (x ∷ xs) (suc i) s = let h = some_inside xs i s in omega arith

pub part_inside : (bs : Backings) (vs : List Value) (p i : ℕ) (c : Cell) → CellFound bs vs p c → IsSome (slice_get (parts_of (value_in vs p)) i)
    → i < length (parts bs c.content)
part_inside bs vs p i c f s =
    let long = ap length (found_parts bs vs p c f) ∙ length-map (parts bs c.content) (value_in vs) in
    omega (arith, long, some_inside (parts_of (value_in vs p)) i s)

pub part_below : (bs : Backings) (vs : List Value) (p i d : ℕ) (c : Cell) → CellFound bs vs p c → i < length (parts bs c.content)
    → get_or (parts bs c.content) i d < length vs
part_below bs vs p i d c f h = omega (arith, f.inside, below_its_cell bs p c.content i d f.content h)

pub part_value : (bs : Backings) (vs : List Value) (p i d : ℕ) (c : Cell) → CellFound bs vs p c → i < length (parts bs c.content)
    → slice_get (parts_of (value_in vs p)) i ≡ Some (value_in vs (get_or (parts bs c.content) i d))
part_value bs vs p i d c f h =
    ap (λ ws. slice_get ws i) (found_parts bs vs p c f) ∙ slice_get-map (value_in vs) (parts bs c.content) i
    ∙ ap (option_map (value_in vs)) (slice_get-get_or (parts bs c.content) i d h)

pub widen : (lists : List (List ℕ)) (i j b n : ℕ) → i ≤ j → IsRange lists i b n → IsRange lists j b n
widen lists i j b n le h = record { inside = h.inside; long = h.long; below = below_le i j (refs_at lists b n) le h.below }

pub range_here : (bs : Backings) (cs : List Cell) (p b n : ℕ) (c : Cell) → CellFound bs (grown bs [] cs) p c → c.content ≡ cell.List b n
    → IsRange bs.lists (length cs) b n
range_here bs cs p b n c f e = widen bs.lists p (length cs) b n (omega (arith, f.inside, count_values bs cs)) (subst (IsContent bs p) e f.content)

pub map_here : (bs : Backings) (cs : List Cell) (p k b n : ℕ) (c : Cell) → CellFound bs (grown bs [] cs) p c → c.content ≡ cell.Map k b n
    → IsRange bs.lists (length cs) b n
map_here bs cs p k b n c f e =
    let h : IsContent bs p (cell.Map k b n) = subst (IsContent bs p) e f.content in
    widen bs.lists p (length cs) b n (omega (arith, f.inside, count_values bs cs)) h.0

pub seen_list : (bs : Backings) (vs : List Value) (p b n r : ℕ) (c : Cell) → CellFound bs vs p c → c.content ≡ cell.List b n → r ≡ n
    → sees_list r ≡ outcome_view (kind.value (value_in vs p))
seen_list bs vs p b n r c f e q = grind (arith, list_found)

pub seen_map : (bs : Backings) (vs : List Value) (p k b n r : ℕ) (c : Cell) → CellFound bs vs p c → c.content ≡ cell.Map k b n → r ≡ n
    → sees_map r ≡ outcome_view (kind.value (value_in vs p))
seen_map bs vs p k b n r c f e q =
    let m : value_in vs p ≡ kind.map (entries_at bs.bytes vs (keys_at bs.keys k n) (refs_at bs.lists b n)) = f.is ∙ ap (meaning bs vs) e in
    let h : IsContent bs p (cell.Map k b n) = subst (IsContent bs p) e f.content in
    let long = length-map (keys_at bs.keys k n) (part_of bs.bytes) ∙ range_long bs.keys k n h.1.inside in
    ap sees_map (q ∙ sym (ap length (map_keys bs vs p k b n h) ∙ long)) ∙ ap (λ v. outcome_view (kind.value v)) (sym m)

-- ---- keys

module _ (bs : Backings) (vs : List Value) (p k b n : ℕ) where
  keys_are : (i : ℕ) (c : Cell) → CellFound bs vs p c → c.content ≡ cell.Map k b n
      → key_in (value_in vs p) i ≡ slice_get (map (part_of bs.bytes) (keys_at bs.keys k n)) i
  keys_are i c f e =
      let m : value_in vs p ≡ meaning bs vs (cell.Map k b n) = f.is ∙ ap (meaning bs vs) e in
      ap (λ v. key_in v i) m ∙ ap (λ ts. slice_get ts i) (map_keys bs vs p k b n (subst (IsContent bs p) e f.content))

  pub key_inside : (i : ℕ) (c : Cell) → CellFound bs vs p c → c.content ≡ cell.Map k b n → IsSome (key_in (value_in vs p) i)
      → i < length (keys_at bs.keys k n)
  key_inside i c f e s =
      let inside = some_inside (texts_of bs.bytes (keys_at bs.keys k n)) i (subst (λ o. IsSome o) (keys_are i c f e) s) in
      omega (arith, length-map (keys_at bs.keys k n) (part_of bs.bytes), inside)

  pub key_text : (i : ℕ) (d : Part) (c : Cell) → CellFound bs vs p c → c.content ≡ cell.Map k b n
      → i < length (keys_at bs.keys k n) → IsText bs.bytes (get_or (keys_at bs.keys k n) i d)
  key_text i d c f e h =
      let m : IsContent bs p (cell.Map k b n) = subst (IsContent bs p) e f.content in
      text_here bs.bytes (keys_at bs.keys k n) i d m.1.texts h

  pub key_value : (i : ℕ) (d : Part) (c : Cell) → CellFound bs vs p c → c.content ≡ cell.Map k b n
      → i < length (keys_at bs.keys k n) → key_in (value_in vs p) i ≡ Some (part_of bs.bytes (get_or (keys_at bs.keys k n) i d))
  key_value i d c f e h =
      keys_are i c f e ∙ slice_get-map (part_of bs.bytes) (keys_at bs.keys k n) i
      ∙ ap (option_map (part_of bs.bytes)) (slice_get-get_or (keys_at bs.keys k n) i d h)
