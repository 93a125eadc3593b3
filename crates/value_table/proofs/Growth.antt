-- Values are unchanged when backings grow and when values are added.
use Rattle.value_table.proofs.Prelude.{◌≡◌, ℕ, zero, suc, ◌+◌, ◌<◌, List, [], ◌∷◌, ◌++◌, length, get_or, map, refl, sym, ap, ap₂, ◌∙◌, arith, length-append, append_assoc, append-nil, subst, zero-add, Some, slice_get, take-append-le, get_or_append_left, get_or-append_seam, Value, value_in, items_at, entries_at, refs_at, keys_at, meaning, grown, AreTexts, AreBelow, IsRange, AreKeys, IsContent, IsCell, AreCells, ExtendsBackings, CellFound, Part, Content, Cell, Backings}
use Rattle.value_store.specs.Value as kind
use Rattle.shared_lists.proofs.Kept.{range_kept}
use Rattle.value_backings.proofs.Kept.{text_kept}
use Rattle.value_table.specs.declared.content.Content.TheVariants as cell

-- ---- parts of lists that have grown

pub texts_kept : (bytes rest : List ℕ) (ks : List Part) → AreTexts bytes ks → AreTexts (bytes ++ rest) ks
texts_kept bytes rest [] h = tt
texts_kept bytes rest (k ∷ ks) h = ((text_kept bytes rest k h.0).1, texts_kept bytes rest ks h.1)

entries_kept : (bytes rest : List ℕ) (vs : List Value) (ks : List Part) (rs : List ℕ) → AreTexts bytes ks
    → entries_at (bytes ++ rest) vs ks rs ≡ entries_at bytes vs ks rs
entries_kept bytes rest vs (k ∷ ks) (r ∷ rs) h = rw ((text_kept bytes rest k h.0).0, entries_kept bytes rest vs ks rs h.1)
entries_kept bytes rest vs _ _ h = refl

refs_kept : (bs cs : Backings) (i b n : ℕ) → ExtendsBackings bs cs → IsRange bs.lists i b n → refs_at cs.lists b n ≡ refs_at bs.lists b n
refs_kept bs cs i b n e h = let m = e.items b h.inside in rw m.1 (take-append-le n (get_or bs.lists b []) m.0 h.long)

range_stays : (bs cs : Backings) (i b n : ℕ) → ExtendsBackings bs cs → IsRange bs.lists i b n → IsRange cs.lists i b n
range_stays bs cs i b n e h =
    let m = e.items b h.inside in
    let longer = length-append (get_or bs.lists b []) m.0 in
    record { inside = omega (arith, h.inside, e.lists); long = rw m.1 (omega (arith, h.long, longer)); below = rw (refs_kept bs cs i b n e h) h.below }

keys_kept : (bs cs : Backings) (k n : ℕ) → ExtendsBackings bs cs → AreKeys bs.bytes bs.keys k n → keys_at cs.keys k n ≡ keys_at bs.keys k n
keys_kept bs cs k n e h = let m = e.keys in rw m.1 (range_kept bs.keys m.0 k (k + n) (omega arith) h.inside)

keys_stay : (bs cs : Backings) (k n : ℕ) → ExtendsBackings bs cs → AreKeys bs.bytes bs.keys k n → AreKeys cs.bytes cs.keys k n
keys_stay bs cs k n e h = grind (arith, length-append, keys_kept, texts_kept)

pub meaning_kept : (bs cs : Backings) (i : ℕ) (vs : List Value) (c : Content) → ExtendsBackings bs cs → IsContent bs i c → meaning cs vs c ≡ meaning bs vs c
meaning_kept bs cs i vs (cell.Text p) e h = rw e.bytes.1 (ap kind.text (text_kept bs.bytes e.bytes.0 p h).0)
meaning_kept bs cs i vs (cell.List b n) e h = rw (refs_kept bs cs i b n e h)
meaning_kept bs cs i vs (cell.Map k b n) e h =
    rw (refs_kept bs cs i b n e h.0, keys_kept bs cs k n e h.1, e.bytes.1)
    (ap kind.map (entries_kept bs.bytes e.bytes.0 vs (keys_at bs.keys k n) (refs_at bs.lists b n) h.1.texts))
meaning_kept bs cs i vs _ e h = refl

pub content_kept : (bs cs : Backings) (i : ℕ) (c : Content) → ExtendsBackings bs cs → IsContent bs i c → IsContent cs i c
content_kept bs cs i (cell.Text p) e h = rw e.bytes.1 (text_kept bs.bytes e.bytes.0 p h).1
content_kept bs cs i (cell.List b n) e h = range_stays bs cs i b n e h
content_kept bs cs i (cell.Map k b n) e h = (range_stays bs cs i b n e h.0, keys_stay bs cs k n e h.1)
content_kept bs cs i _ e h = tt

cell_kept : (bs cs : Backings) (vs : List Value) (c : Cell) → ExtendsBackings bs cs → IsCell bs vs c → IsCell cs vs c
cell_kept bs cs vs c e h = grind (arith, meaning_kept, content_kept)

-- every old value is unchanged when backings grow
pub grown_kept : (bs cs : Backings) (vs : List Value) (xs : List Cell) → ExtendsBackings bs cs → AreCells bs vs xs → grown cs vs xs ≡ grown bs vs xs
grown_kept bs cs vs [] e h = refl
grown_kept bs cs vs (c ∷ xs) e h = grind (arith, meaning_kept, grown_kept bs cs (vs ++ meaning bs vs c.content ∷ []) xs e h.1)

pub cells_kept : (bs cs : Backings) (vs : List Value) (xs : List Cell) → ExtendsBackings bs cs → AreCells bs vs xs → AreCells cs vs xs
cells_kept bs cs vs [] e h = tt
cells_kept bs cs vs (c ∷ xs) e h = grind (arith, cell_kept, meaning_kept, cells_kept bs cs (vs ++ meaning bs vs c.content ∷ []) xs e h.1)

-- ---- one more cell

pub grown_one : (bs : Backings) (vs : List Value) (xs : List Cell) (c : Cell)
    → grown bs vs (xs ++ c ∷ []) ≡ grown bs vs xs ++ meaning bs (grown bs vs xs) c.content ∷ []
grown_one bs vs [] c = refl
grown_one bs vs (d ∷ xs) c = grown_one bs (vs ++ meaning bs vs d.content ∷ []) xs c

pub cells_one : (bs : Backings) (vs : List Value) (xs : List Cell) (c : Cell) → AreCells bs vs xs → IsCell bs (grown bs vs xs) c → AreCells bs vs (xs ++ c ∷ [])
cells_one bs vs [] c h k = (k, tt)
cells_one bs vs (d ∷ xs) c h k = (h.0, cells_one bs (vs ++ meaning bs vs d.content ∷ []) xs c h.1 k)

pub length_grown : (bs : Backings) (vs : List Value) (xs : List Cell) → length (grown bs vs xs) ≡ length vs + length xs
length_grown bs vs [] = omega arith
length_grown bs vs (d ∷ xs) = omega (arith, length_grown bs (vs ++ meaning bs vs d.content ∷ []) xs, length-append vs (meaning bs vs d.content ∷ []))

pub count_values : (bs : Backings) (xs : List Cell) → length (grown bs [] xs) ≡ length xs
count_values bs xs = length_grown bs [] xs ∙ zero-add (length xs)

-- ---- a cell among the others

pub value_stable : (vs ws : List Value) (r : ℕ) → r < length vs → value_in (vs ++ ws) r ≡ value_in vs r
value_stable vs ws r h = get_or_append_left vs ws kind.null r h

-- a function of the values at earlier places is unchanged
pub mapped_stable : {A : Type 0} (f : Value → A) (vs ws : List Value) (rs : List ℕ) → AreBelow (length vs) rs
    → map (λ r. f (value_in (vs ++ ws) r)) rs ≡ map (λ r. f (value_in vs r)) rs
mapped_stable f vs ws [] h = refl
mapped_stable f vs ws (r ∷ rs) h = ap₂ (λ x xs. x ∷ xs) (ap f (value_stable vs ws r h.0)) (mapped_stable f vs ws rs h.1)

pub items_stable : (vs ws : List Value) (rs : List ℕ) → AreBelow (length vs) rs → items_at (vs ++ ws) rs ≡ items_at vs rs
items_stable vs ws [] h = refl
items_stable vs ws (r ∷ rs) h = rw (value_stable vs ws r h.0, items_stable vs ws rs h.1)

pub entries_stable : (bytes : List ℕ) (vs ws : List Value) (ks : List Part) (rs : List ℕ) → AreBelow (length vs) rs
    → entries_at bytes (vs ++ ws) ks rs ≡ entries_at bytes vs ks rs
entries_stable bytes vs ws (k ∷ ks) (r ∷ rs) h = rw (value_stable vs ws r h.0, entries_stable bytes vs ws ks rs h.1)
entries_stable bytes vs ws _ _ h = refl

pub meaning_stable : (bs : Backings) (vs ws : List Value) (c : Content) → IsContent bs (length vs) c → meaning bs (vs ++ ws) c ≡ meaning bs vs c
meaning_stable bs vs ws c h = grind (arith, items_stable, entries_stable)

pub grows : (bs : Backings) (vs : List Value) (xs : List Cell) → (more : List Value) × (grown bs vs xs ≡ vs ++ more)
grows bs vs [] = ([], sym (append-nil vs))
grows bs vs (c ∷ xs) = grind (arith, append_assoc, grows bs (vs ++ meaning bs vs c.content ∷ []) xs)

here : (bs : Backings) (vs : List Value) (xs : List Cell) (c : Cell) → AreCells bs vs (c ∷ xs) → CellFound bs (grown bs vs (c ∷ xs)) (length vs) c
here bs vs xs c h =
    let g = grows bs (vs ++ meaning bs vs c.content ∷ []) xs in
    grind (arith, append_assoc, meaning_stable, length-append, get_or-append_seam)

found_at : (bs : Backings) (vs : List Value) (xs : List Cell) (r : ℕ) (c : Cell) → slice_get xs r ≡ Some c → AreCells bs vs xs
    → CellFound bs (grown bs vs xs) (length vs + r) c
found_at bs vs [] r c e h = absurd (cc)
found_at bs vs (d ∷ xs) zero c e h =
    let s : d ≡ c = cc in
    let k : length vs ≡ length vs + zero = omega arith in
    subst (λ i. CellFound bs (grown bs vs (d ∷ xs)) i c) k (subst (CellFound bs (grown bs vs (d ∷ xs)) (length vs)) s (here bs vs xs d h))
found_at bs vs (d ∷ xs) (suc r) c e h =
    let n : length (vs ++ meaning bs vs d.content ∷ []) ≡ length vs + 1 = length-append vs (meaning bs vs d.content ∷ []) in
    let k : length (vs ++ meaning bs vs d.content ∷ []) + r ≡ length vs + suc r = omega (arith, n) in
    subst (λ i. CellFound bs (grown bs vs (d ∷ xs)) i c) k (found_at bs (vs ++ meaning bs vs d.content ∷ []) xs r c e h.1)

pub found : (bs : Backings) (xs : List Cell) (r : ℕ) (c : Cell) → slice_get xs r ≡ Some c → AreCells bs [] xs → CellFound bs (grown bs [] xs) r c
found bs xs r c e h = subst (λ i. CellFound bs (grown bs [] xs) i c) (zero-add r) (found_at bs [] xs r c e h)
