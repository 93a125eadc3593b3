-- The results of comparisons in a heap.
use Rattle.value_table.proofs.Prelude.{◌≡◌, ℕ, suc, ◌+◌, ◌≤◌, ◌<◌, List, [], ◌∷◌, ◌++◌, inl, inr, length, Option, length-append, subst, Bool, ◌||◌, add-one, drop-cons, Some, slice_get, get_or, drop, sym, ap, ◌∙◌, arith, Decides, is_some, option_map, get_or_append_left, get_or-append_seam, one_answer, same_Some, slice_get-get_or, Value, equal, equal_decides, has_item, member, place_of_key, entries_part, has_key_place, value_in, items_at, grown, AreCells, AreSame, AreContents, AreMeanings, Cell, Backings, true, false, refl, slice_get_within, false_from_ne_true, json_length, head, parts, values_at, nil_from_length, IsContent, Content}
use Rattle.value_table.specs.Heads.{IsReadable}
use Rattle.value_table.specs.Known.{AreKnown}
use Rattle.value_table.specs.declared.content.Content.TheVariants as cell
use Rattle.value_store.specs.Value as kind
use Rattle.value_table.proofs.Growth.{found}
use Rattle.value_table.proofs.Searches.{up_to}
use Rattle.value_table.proofs.Walks.{same_value, same_place, same_heads, same_cells, same_long}

-- a comparison of two places returns whether their values are equal
pub answer_is : (bs : Backings) (vs : List Value) (cs : List Cell) (a b : ℕ) (r : Bool) → AreMeanings bs vs cs → a < length cs → b < length cs
    → Decides r (slice_get vs a ≡ slice_get vs b)
    → r ≡ equal (value_in vs a) (value_in vs b)
answer_is bs vs cs a b r m h k d =
    let e = equal_decides (value_in vs a) (value_in vs b) in
    one_answer r (equal (value_in vs a) (value_in vs b)) d (λ s. same_place bs vs cs a b m h k (e.0 s), λ s. e.1 (same_value vs a b s))

-- values whose JSON texts differ in length are not equal
pub lengths_apart : (bs : Backings) (vs : List Value) (cs : List Cell) (a b : ℕ) (c d : Cell) → AreKnown bs vs cs → slice_get cs a ≡ Some c → slice_get cs b ≡ Some d
    → (c.json ≡ d.json → ⊥) → false ≡ equal (value_in vs a) (value_in vs b)
lengths_apart bs vs cs a b c d k h g differ =
    let same = λ (e : equal (value_in vs a) (value_in vs b) ≡ true). k.lengths a c h ∙ ap json_length ((equal_decides (value_in vs a) (value_in vs b)).0 e) ∙ sym (k.lengths b d g) in
    sym (false_from_ne_true (equal (value_in vs a) (value_in vs b)) (λ e. differ (same e)))

-- a value without parts is equal to another if their heads are the same
pub alone_equal : (bs : Backings) (vs : List Value) (cs : List Cell) (a b : ℕ) (c d : Cell) (xs : List ℕ) (r : Bool) → AreContents bs cs → AreKnown bs vs cs
    → slice_get cs a ≡ Some c → slice_get cs b ≡ Some d → xs ≡ parts bs c.content → length xs ≡ 0 → Decides r (head bs c.content ≡ head bs d.content)
    → r ≡ equal (value_in vs a) (value_in vs b)
alone_equal bs vs cs a b c d xs r s k h g p none decides =
    let ys = parts bs d.content in
    let same = λ (t : r ≡ true).
    let heads = decides.0 t in
    let second : length ys ≡ 0 = sym (same_long bs cs a b c d xs ys p refl s h g heads) ∙ none in
    same_cells bs vs cs a b c d xs ys p refl k.meanings h g heads (ap (values_at vs) (nil_from_length xs none ∙ sym (nil_from_length ys second))) in
    answer_is bs vs cs a b r k.meanings (slice_get_within cs a c h) (slice_get_within cs b d g) (same, λ e. decides.1 (same_heads bs vs cs a b c d s k.meanings h g e))

pub contents_of : (bs : Backings) (cs : List Cell) → AreCells bs [] cs → AreContents bs cs
contents_of bs cs h = λ r c e. (found bs cs r c e h).content

pub meanings_of : (bs : Backings) (cs : List Cell) → AreCells bs [] cs → AreMeanings bs (grown bs [] cs) cs
meanings_of bs cs h = λ r c e. let f = found bs cs r c e h in slice_get-get_or (grown bs [] cs) r kind.null f.inside ∙ ap (λ v. Some v) f.is

-- the first of some places, and those after it
pub item_step : (vs : List Value) (x : Value) (rs : List ℕ) (i : ℕ) (r : Bool) → i < length rs → r ≡ equal x (value_in vs (get_or rs i 0))
    → has_item x (items_at vs (drop i rs)) ≡ r || has_item x (items_at vs (drop (i + 1) rs))
item_step vs x rs i r h e = rw (add-one, drop-cons rs i 0 h) (ap (λ b. b || has_item x (items_at vs (drop (suc i) rs))) (sym e))

pub known_of : (bs : Backings) (cs : List Cell) → AreCells bs [] cs → AreKnown bs (grown bs [] cs) cs
known_of bs cs h = record { meanings = meanings_of bs cs h; lengths = λ r c e. let f = found bs cs r c e h in f.json ∙ ap json_length (sym f.is) }

-- what a cell refers to can be read
pub readable : (bs : Backings) (i : ℕ) (c : Content) → IsContent bs i c → IsReadable bs c
readable bs i cell.Null h = tt
readable bs i (cell.Bool b) h = tt
readable bs i (cell.Int n) h = tt
readable bs i (cell.Text p) h = h
readable bs i (cell.List b n) h = tt
readable bs i (cell.Map k b n) h = h.1

-- ---- one more word

pub word_added : (vs : List Value) (same more : List ℕ) (n : ℕ) → AreSame vs same → length same ≡ n → n < length vs → more ≡ same ++ n ∷ [] → AreSame vs more
word_added vs same more n h e l is =
    subst (AreSame vs) (sym is)
    (record {
      long = let k = length-append same (n ∷ []) in let o = h.long in omega (arith, k);
      below = λ i d b. elim (up_to (length same) i (omega (arith, length-append same (n ∷ []), b))) [
        | inl j ↦ subst (λ w. w ≤ i) (sym (get_or_append_left same (n ∷ []) d i j)) (h.below i d j)
        | inr j ↦ subst (λ w. w ≤ i) (sym (ap (λ p. get_or (same ++ n ∷ []) p d) (sym j) ∙ get_or-append_seam same n [] d)) (omega arith)
      ];
      equal = λ i d b. elim (up_to (length same) i (omega (arith, length-append same (n ∷ []), b))) [
        | inl j ↦ ap (slice_get vs) (get_or_append_left same (n ∷ []) d i j) ∙ h.equal i d j
        | inr j ↦ ap (slice_get vs) (ap (λ p. get_or (same ++ n ∷ []) p d) (sym j) ∙ get_or-append_seam same n [] d ∙ sym e ∙ j)
      ];
    })

-- ---- members

-- a map has a text as a key if the key has a place
pub key_member : (x m : Value) (key : List ℕ) (o : Option ℕ) → x ≡ kind.text key → Some o ≡ option_map (place_of_key key) (entries_part m)
    → Some (is_some o) ≡ member x m
key_member x m key o e f = grind (arith, same_Some, has_key_place)
