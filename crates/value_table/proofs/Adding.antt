-- A heap after a cell is added, and after its backings have grown.
use Rattle.value_table.proofs.Prelude.{◌≡◌, ℕ, ◌+◌, ◌<◌, ◌≤◌, List, [], ◌∷◌, ◌++◌, length, refl, sym, ap, ◌∙◌, arith, length-append, append-nil, slice_get, Option, Some, Ok, get_or_append_left, slice_get-get_or, slice_index_or, vec_capacity, Value, meaning, grown, AreSame, ExtendsBackings, heap_values, content_at, IsHeap, IsUnchangedHeap, Gains, Heap, Cell, Content, Backings}
use Rattle.value_store.specs.Value as kind
use Rattle.value_table.specs.declared.content.Content.TheVariants as cell
use Rattle.value_table.proofs.Growth.{grown_kept, cells_kept, grown_one, cells_one, count_values}
use Rattle.value_table.proofs.Listed.{Made}

get_front : (vs ws : List Value) (r : ℕ) → r < length vs → slice_get (vs ++ ws) r ≡ slice_get vs r
get_front vs ws r h =
    slice_get-get_or (vs ++ ws) r kind.null (omega (arith, h, length-append vs ws)) ∙ ap Some (get_or_append_left vs ws kind.null r h)
    ∙ sym (slice_get-get_or vs r kind.null h)

pub same_more : (vs ws : List Value) (same : List ℕ) → AreSame vs same → AreSame (vs ++ ws) same
same_more vs ws same h = grind (arith, length-append, get_front)

pub values_added : (bs : Backings) (xs ys : List Cell) (c : Cell) → ys ≡ xs ++ c ∷ [] → grown bs [] ys ≡ grown bs [] xs ++ meaning bs (grown bs [] xs) c.content ∷ []
values_added bs xs ys c e = rw e (grown_one bs [] xs c)

pub extends_same : (bs : Backings) → ExtendsBackings bs bs
extends_same bs = record { bytes = ([], sym (append-nil bs.bytes)); keys = ([], sym (append-nil bs.keys)); lists = omega arith; items = λ b h. ([], sym (append-nil (slice_index_or bs.lists b []))) }

-- ---- a call that reserves capacity first

-- the allocation fails
pub heap_before : (old new : Heap) → IsHeap old → IsUnchangedHeap old new → vec_capacity old.same ≤ vec_capacity new.same → IsHeap new
heap_before old new h b longer = grind arith

-- only the backings have grown
pub values_grown : (old : Heap) (bs : Backings) (cells : List Cell) → IsHeap old → ExtendsBackings old.backings bs → cells ≡ old.cells → grown bs [] cells ≡ heap_values old
values_grown old bs cells h e same = ap (grown bs []) same ∙ grown_kept old.backings bs [] old.cells e h.cells

pub heap_grown : (old new : Heap) → IsHeap old → ExtendsBackings old.backings new.backings → new.cells ≡ old.cells → new.same ≡ old.same → IsHeap new
heap_grown old new h e cells same =
    let kept = values_grown old new.backings new.cells h e cells in
    record { cells = rw cells (cells_kept old.backings new.backings [] old.cells e h.cells); same = rw (kept, same) h.same; room = rw (cells, same) h.room }

-- cell c is added at place i to the cells `mid`, which were there once capacity was reserved; nothing else changed
pub record IsAppended (old new : Heap) (mid : List Cell) (c : Cell) (i : ℕ) : Type 0 where
  pub words : new.same.items ≡ old.same.items
  pub fits : length old.cells + 1 ≤ vec_capacity new.same
  pub same : mid ≡ old.cells
  pub cells : new.cells ≡ mid ++ c ∷ []
  pub at : i ≡ length mid

-- the allocation succeeds
pub gained : (old new : Heap) (mid : List Cell) (c : Cell) (i : ℕ) (due : Option Value) → IsHeap old → ExtendsBackings old.backings new.backings
    → IsAppended old new mid c i → Made new.backings (heap_values old) c due → Gains old due (Ok i) new
gained old new mid c i due h e appended made =
    let words = appended.words in
    let fits = appended.fits in
    let same = appended.same in
    let cells = appended.cells in
    let at = appended.at in
    let kept = grown_kept old.backings new.backings [] old.cells e h.cells in
    let v = meaning new.backings (heap_values old) c.content in
    let all : new.cells ≡ old.cells ++ c ∷ [] = cells ∙ ap (λ xs. xs ++ c ∷ []) same in
    let put = values_added new.backings old.cells new.cells c all ∙ ap (λ vs. vs ++ meaning new.backings vs c.content ∷ []) kept in
    record {
      heap = record {
        cells = rw all (cells_one new.backings [] old.cells c (cells_kept old.backings new.backings [] old.cells e h.cells) (rw kept made.cell));
        same = rw (put, words) (same_more (heap_values old) (v ∷ []) old.same.items h.same);
        room = omega (arith, length-append old.cells (c ∷ []), ap length all, fits);
      };
      added = rw made.value (at ∙ ap length same ∙ sym (count_values old.backings old.cells), put);
      kept = tt;
    }

-- the cell of a list that shares the backing of a shorter one
get_last : (xs : List Cell) (c : Cell) → slice_get (xs ++ c ∷ []) (length xs) ≡ Some c
get_last [] c = refl
get_last (x ∷ xs) c = get_last xs c

-- the content of a cell, and of the last one
pub content_is : (xs : List Cell) (c : Cell) (r : ℕ) (x : Content) → slice_get xs r ≡ Some c → c.content ≡ x → content_at xs r ≡ Some x
content_is xs c r x get is = grind arith

pub content_last : (ys xs : List Cell) (c : Cell) (i : ℕ) → ys ≡ xs ++ c ∷ [] → i ≡ length xs → content_at ys i ≡ Some c.content
content_last ys xs c i cells at = grind (arith, slice_get, get_last)

-- if a list has all items of its backing, the list with one more item at `i` has the same backing
abbrev pub IsShared : Heap → Backings → List Cell → ℕ → ℕ → Type 0
IsShared old bs ys l i =
    (b n : ℕ) → content_at old.cells l ≡ Some (cell.List b n) → n ≡ length (slice_index_or old.backings.lists b [])
    → (content_at ys i ≡ Some (cell.List b (n + 1))) × (length bs.lists ≡ length old.backings.lists)

pub shared_put : (old : Heap) (bs : Backings) (ys : List Cell) (l b n p i : ℕ) → content_at old.cells l ≡ Some (cell.List b n)
    → content_at ys i ≡ Some (cell.List p (n + 1))
    → (n ≡ length (slice_index_or old.backings.lists b []) → (p ≡ b) × (length bs.lists ≡ length old.backings.lists)) → IsShared old bs ys l i
shared_put old bs ys l b n p i list longer shared b' n' e end = grind arith
