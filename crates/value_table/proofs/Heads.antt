-- A value determines its head and the values of its parts.
use Rattle.value_table.proofs.Prelude.{◌≡◌, ◌≤◌, ℕ, ◌+◌, ◌-◌, List, [], ◌∷◌, length, take, drop, refl, sym, ap, ap₂, ◌∙◌, subst, arith, length-drop, length-take, ⊤, slice_index_or, slice_range, length-map, nil_from_length, Value, items_of, list_of, keys_of, values_of, part_of, value_in, items_at, entries_at, refs_at, keys_at, meaning, IsContent, Head, simple, items, entries, head, parts, texts_of, values_at, entries_of, built, Part, Content, Backings}
use Rattle.value_store.specs.Value as kind
use Rattle.value_table.specs.declared.content.Content.TheVariants as cell

-- ---- the meaning of a cell is built from its head and its parts

items_built : (vs : List Value) (rs : List ℕ) → items_at vs rs ≡ items_of (values_at vs rs)
items_built vs [] = refl
items_built vs (r ∷ rs) = ap (kind.item (value_in vs r)) (items_built vs rs)

pub entries_built : (bytes : List ℕ) (vs : List Value) (ks : List Part) (rs : List ℕ)
    → entries_at bytes vs ks rs ≡ entries_of (texts_of bytes ks) (values_at vs rs)
entries_built bytes vs (k ∷ ks) (r ∷ rs) = ap (kind.entry (part_of bytes k) (value_in vs r)) (entries_built bytes vs ks rs)
entries_built bytes vs _ _ = refl

pub meaning_built : (bs : Backings) (vs : List Value) (c : Content) → meaning bs vs c ≡ built (head bs c) (values_at vs (parts bs c))
meaning_built bs vs c = grind (arith, items_built, entries_built)

-- ---- the head determines the number of parts

abbrev pub HasNoParts : Value → Type 0
HasNoParts (kind.list is) = ⊥
HasNoParts (kind.map es) = ⊥
HasNoParts _ = ⊤

abbrev pub Fits : Head → ℕ → Type 0
Fits (simple v) n = HasNoParts v × (n ≡ 0)
Fits (items m) n = m ≡ n
Fits (entries ks) n = length ks ≡ n

pub range_long : {A : Type 0} (xs : List A) (k n : ℕ) → k + n ≤ length xs → length (slice_range xs k (k + n)) ≡ n
range_long xs k n h = length-take (k + n - k) (drop k xs) ∙ (let l = length-drop k xs in omega arith)

pub taken_long : {A : Type 0} (xs : List A) (n : ℕ) → n ≤ length xs → length (take n xs) ≡ n
taken_long xs n h = length-take n xs ∙ omega arith

pub fits : (bs : Backings) (i : ℕ) (c : Content) → IsContent bs i c → Fits (head bs c) (length (parts bs c))
fits bs i c h = grind (arith, taken_long, length-map, range_long)

pub parts_long : (bs : Backings) (i j : ℕ) (c d : Content) → IsContent bs i c → IsContent bs j d → head bs c ≡ head bs d
    → length (parts bs c) ≡ length (parts bs d)
parts_long bs i j c d f g e = grind (arith, fits)

-- ---- values built from heads and parts are equal only if these are

pub list_back : (vs : List Value) → list_of (items_of vs) ≡ vs
list_back [] = refl
list_back (v ∷ vs) = ap (λ ws. v ∷ ws) (list_back vs)

pub keys_back : (ks : List (List ℕ)) (vs : List Value) → length ks ≡ length vs → keys_of (entries_of ks vs) ≡ ks
keys_back [] vs e = refl
keys_back (k ∷ ks) [] e = absurd (omega arith)
keys_back (k ∷ ks) (v ∷ vs) e = ap (λ ls. k ∷ ls) (keys_back ks vs (omega arith))

pub values_back : (ks : List (List ℕ)) (vs : List Value) → length ks ≡ length vs → values_of (entries_of ks vs) ≡ vs
values_back [] [] e = refl
values_back (k ∷ ks) (v ∷ vs) e = ap (λ ws. v ∷ ws) (values_back ks vs (omega arith))
values_back _ _ e = absurd (omega arith)

apart : (h k : Head) (vs ws : List Value) → Fits h (length vs) → Fits k (length ws) → built h vs ≡ built k ws → (h ≡ k) × (vs ≡ ws)
apart (simple v) (simple w) vs ws f g e = (ap simple e, nil_from_length vs f.1 ∙ sym (nil_from_length ws g.1))
apart (items m) (items n) vs ws f g e =
    let is : items_of vs ≡ items_of ws = cc in
    let same : vs ≡ ws = sym (list_back vs) ∙ ap list_of is ∙ list_back ws in
    (ap items (f ∙ ap length same ∙ sym g), same)
apart (items n) (entries ks) vs ws f g e = absurd (cc)
apart (entries ks) (items n) vs ws f g e = absurd (cc)
apart (entries ks) (entries ls) vs ws f g e =
    let es : entries_of ks vs ≡ entries_of ls ws = cc in
    (ap entries (sym (keys_back ks vs f) ∙ ap keys_of es ∙ keys_back ls ws g), sym (values_back ks vs f) ∙ ap values_of es ∙ values_back ls ws g)
apart (simple v) _ vs ws f g e = absurd (subst HasNoParts e f.0)
apart _ (simple w) vs ws f g e = absurd (subst HasNoParts (sym e) g.0)

pub same_meaning : (bs : Backings) (vs : List Value) (c d : Content) → head bs c ≡ head bs d → values_at vs (parts bs c) ≡ values_at vs (parts bs d)
    → meaning bs vs c ≡ meaning bs vs d
same_meaning bs vs c d h p = meaning_built bs vs c ∙ ap₂ built h p ∙ sym (meaning_built bs vs d)

pub record Alike (bs : Backings) (vs : List Value) (c d : Content) : Type 0 where
  pub heads : head bs c ≡ head bs d
  pub values : values_at vs (parts bs c) ≡ values_at vs (parts bs d)

pub meaning_apart : (bs : Backings) (vs : List Value) (i j : ℕ) (c d : Content) → IsContent bs i c → IsContent bs j d → meaning bs vs c ≡ meaning bs vs d
    → Alike bs vs c d
meaning_apart bs vs i j c d f g e = grind (arith, length-map, fits, apart, meaning_built)

-- ---- the keys of a map

-- a map has the same number of keys and values
pub map_long : (bs : Backings) (i k b n : ℕ) → IsContent bs i (cell.Map k b n) → length (keys_at bs.keys k n) ≡ length (refs_at bs.lists b n)
map_long bs i k b n h = range_long bs.keys k n h.1.inside ∙ sym (taken_long (slice_index_or bs.lists b []) n h.0.long)

pub map_fits : (bs : Backings) (vs : List Value) (i k b n : ℕ) → IsContent bs i (cell.Map k b n)
    → length (texts_of bs.bytes (keys_at bs.keys k n)) ≡ length (values_at vs (refs_at bs.lists b n))
map_fits bs vs i k b n h = search (arith, length-map, map_long)

pub map_keys : (bs : Backings) (vs : List Value) (i k b n : ℕ) → IsContent bs i (cell.Map k b n)
    → keys_of (entries_at bs.bytes vs (keys_at bs.keys k n) (refs_at bs.lists b n)) ≡ texts_of bs.bytes (keys_at bs.keys k n)
map_keys bs vs i k b n h = search (arith, entries_built, keys_back, map_fits)
