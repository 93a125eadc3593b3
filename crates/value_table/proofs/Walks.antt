-- Facts for comparing the parts of two cells.
use Rattle.value_table.proofs.Prelude.{◌≡◌, ℕ, zero, suc, ◌<◌, List, [], ◌∷◌, length, get_or, Some, slice_get, sym, ap, ◌∙◌, arith, unwrap_or, same_Some, slice_get-get_or, unwrap_or-slice_get, get_or_from_slice_get, Value, value_in, meaning, IsContent, AreBelow, AreTexts, IsText, head, parts, values_at, AreContents, AreMeanings, Part, Cell, Content, Backings}
use Rattle.value_store.specs.Value as kind
use Rattle.value_table.specs.declared.content.Content.TheVariants as cell
use Rattle.value_table.proofs.Heads.{Alike, same_meaning, meaning_apart, parts_long}

pub below_here : (i : ℕ) (rs : List ℕ) (k d : ℕ) → AreBelow i rs → k < length rs → get_or rs k d < i
below_here i [] k d h l = absurd (omega arith)
below_here i (r ∷ rs) zero d h l = h.0
below_here i (r ∷ rs) (suc k) d h l = below_here i rs k d h.1 (omega arith)

-- a part is before its cell
pub part_below : (bs : Backings) (i : ℕ) (c : Content) (k d : ℕ) → IsContent bs i c → k < length (parts bs c) → get_or (parts bs c) k d < i
part_below bs i c k d h l = let b : AreBelow i (parts bs c) = grind arith in below_here i (parts bs c) k d b l

pub text_here : (bytes : List ℕ) (ps : List Part) (k : ℕ) (d : Part) → AreTexts bytes ps → k < length ps → IsText bytes (get_or ps k d)
text_here bytes [] k d h l = absurd (omega arith)
text_here bytes (p ∷ ps) zero d h l = h.0
text_here bytes (p ∷ ps) (suc k) d h l = text_here bytes ps k d h.1 (omega arith)

pub value_here : (bs : Backings) (vs : List Value) (cs : List Cell) (r : ℕ) (d : Cell) → AreMeanings bs vs cs → r < length cs
    → slice_get vs r ≡ Some (meaning bs vs (get_or cs r d).content)
value_here bs vs cs r d h l = h r (get_or cs r d) (slice_get-get_or cs r d l)

-- ---- values at places, and reading them

pub same_value : (vs : List Value) (r s : ℕ) → slice_get vs r ≡ slice_get vs s → value_in vs r ≡ value_in vs s
same_value vs r s e = sym (unwrap_or-slice_get vs r kind.null) ∙ ap (λ o. unwrap_or o kind.null) e ∙ unwrap_or-slice_get vs s kind.null

stands : (vs : List Value) (r : ℕ) (v : Value) → slice_get vs r ≡ Some v → slice_get vs r ≡ Some (value_in vs r)
stands vs r v e = e ∙ ap (λ w. Some w) (sym (get_or_from_slice_get vs r v kind.null e))

-- any cell
abbrev pub some_cell : Cell
some_cell = record { content = cell.Null; depth = 0; json = 0 }

pub same_place : (bs : Backings) (vs : List Value) (cs : List Cell) (r s : ℕ) → AreMeanings bs vs cs → r < length cs → s < length cs
    → value_in vs r ≡ value_in vs s → slice_get vs r ≡ slice_get vs s
same_place bs vs cs r s m h k same =
    stands vs r _ (value_here bs vs cs r some_cell m h) ∙ ap (λ w. Some w) same ∙ sym (stands vs s _ (value_here bs vs cs s some_cell m k))

-- ---- the cells at two places

module _ (bs : Backings) (vs : List Value) (cs : List Cell) (x y : ℕ) (c d : Cell) where
  met : AreContents bs cs → AreMeanings bs vs cs → slice_get cs x ≡ Some c
      → slice_get cs y ≡ Some d → slice_get vs x ≡ slice_get vs y
      → Alike bs vs c.content d.content
  met s m h k e =
      let v = m x c h in
      let w = m y d k in
      let same : meaning bs vs c.content ≡ meaning bs vs d.content = same_Some _ _ (sym v ∙ e ∙ w) in
      meaning_apart bs vs x y c.content d.content (s x c h) (s y d k) same

  -- equal values have the same head
  pub same_heads : AreContents bs cs → AreMeanings bs vs cs → slice_get cs x ≡ Some c
      → slice_get cs y ≡ Some d → slice_get vs x ≡ slice_get vs y
      → head bs c.content ≡ head bs d.content
  same_heads s m h k e = (met s m h k e).heads

  -- and equal parts
  pub same_parts : (xs ys : List ℕ) → xs ≡ parts bs c.content → ys ≡ parts bs d.content
      → AreContents bs cs → AreMeanings bs vs cs → slice_get cs x ≡ Some c → slice_get cs y ≡ Some d → slice_get vs x ≡ slice_get vs y
      → values_at vs xs ≡ values_at vs ys
  same_parts xs ys p q s m h k e = ap (values_at vs) p ∙ (met s m h k e).values ∙ sym (ap (values_at vs) q)

  -- two values with the same head and equal parts are equal
  pub same_cells : (xs ys : List ℕ) → xs ≡ parts bs c.content → ys ≡ parts bs d.content
      → AreMeanings bs vs cs → slice_get cs x ≡ Some c → slice_get cs y ≡ Some d → head bs c.content ≡ head bs d.content → values_at vs xs ≡ values_at vs ys
      → slice_get vs x ≡ slice_get vs y
  same_cells xs ys p q m h k e f =
      let v = m x c h in
      let w = m y d k in
      v ∙ ap (λ u. Some u) (same_meaning bs vs c.content d.content e (sym (ap (values_at vs) p) ∙ f ∙ ap (values_at vs) q)) ∙ sym w

module _ (bs : Backings) (cs : List Cell) (x : ℕ) where
  -- the same head has the same number of parts
  pub same_long : (y : ℕ) (c d : Cell) (xs ys : List ℕ) → xs ≡ parts bs c.content → ys ≡ parts bs d.content
      → AreContents bs cs → slice_get cs x ≡ Some c → slice_get cs y ≡ Some d → head bs c.content ≡ head bs d.content → length xs ≡ length ys
  same_long y c d xs ys p q s h k e = grind (arith, parts_long)

  -- a part is before its cell
  pub part_before : (c : Cell) (xs : List ℕ) (k d : ℕ) → xs ≡ parts bs c.content → AreContents bs cs
      → slice_get cs x ≡ Some c → k < length xs → get_or xs k d < x
  part_before c xs k d p s h l = grind (arith, get_or, part_below)
