-- Rows are unchanged when the pool grows; the items of one more row.
use Rattle.shared_lists.proofs.Prelude.{◌≡◌, ℕ, ◌+◌, ◌<◌, List, [], ◌∷◌, ◌++◌, length, get_or, slice_set, map-append, get_or-map, refl, sym, ap, ap₂, ◌∙◌, arith, length-append}
use Rattle.std.proofs.lemmas.List.{map-set}
use Rattle.shared_lists.specs.Pool.{row_items, rows_items, IsPoolRow, AreRows}
use Rattle.shared_lists.specs.declared.row.Row.{Row}
use Rattle.shared_lists.specs.declared.row.Row.TheVariants as row
use Rattle.shared_lists.proofs.Kept.{range_kept}
use Rattle.shared_lists.proofs.Pushed.{whole_behind}

row_kept : (pool more : List ℕ) (r : Row) → IsPoolRow pool r → row_items (pool ++ more) r ≡ row_items pool r
row_kept pool more (row.Own items) h = refl
row_kept pool more (row.Pooled from count) h = range_kept pool more from (from + count) (omega arith) h

rows_kept : (pool more : List ℕ) (rows : List Row) → AreRows pool rows → rows_items (pool ++ more) rows ≡ rows_items pool rows
rows_kept pool more [] h = refl
rows_kept pool more (r ∷ rs) h = ap₂ (λ x xs. x ∷ xs) (row_kept pool more r h.0) (rows_kept pool more rs h.1)

-- a row with its own items is added
pub rows_pushed : (pool : List ℕ) (rows : List Row) (items : List ℕ) → rows_items pool (rows ++ row.Own items ∷ []) ≡ rows_items pool rows ++ items ∷ []
rows_pushed pool rows items = map-append (row_items pool) rows (row.Own items ∷ [])

-- a row without items is added
pub rows_begun : (pool : List ℕ) (rows : List Row) → rows_items pool (rows ++ row.Pooled 0 0 ∷ []) ≡ rows_items pool rows ++ [] ∷ []
rows_begun pool rows = map-append (row_items pool) rows (row.Pooled 0 0 ∷ [])

-- a row with the items that are appended to the pool is added
pub rows_put : (pool items : List ℕ) (rows : List Row) → AreRows pool rows
    → rows_items (pool ++ items) (rows ++ row.Pooled (length pool) (length items) ∷ []) ≡ rows_items pool rows ++ items ∷ []
rows_put pool items rows h =
    let last = whole_behind pool items (length pool) (length pool + length items) refl (sym (length-append pool items)) in
    map-append (row_items (pool ++ items)) rows (row.Pooled (length pool) (length items) ∷ []) ∙ ap₂ (λ xs x. xs ++ x ∷ []) (rows_kept pool items rows h) last

-- items are appended to a row
pub rows_extended : (pool : List ℕ) (rows : List Row) (i : ℕ) (old new : Row) (items : List ℕ) → i < length rows → get_or rows i old ≡ old
    → row_items pool new ≡ row_items pool old ++ items
    → rows_items pool (slice_set rows i new) ≡ slice_set (rows_items pool rows) i (get_or (rows_items pool rows) i [] ++ items)
rows_extended pool rows i old new items h is e =
    let here = get_or-map (row_items pool) rows i old [] h ∙ ap (row_items pool) is in
    map-set (row_items pool) rows i new ∙ ap (slice_set (rows_items pool rows) i) (e ∙ ap (λ xs. xs ++ items) (sym here))
