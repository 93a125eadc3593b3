-- Documents become values one after the other.
use Rattle.value_table.proofs.Prelude.{◌≡◌, ℕ, false, List, [], ◌∷◌, ◌++◌, length, refl, sym, ap, ap₂, ◌∙◌, arith, length-append, append_assoc, append-nil, Result, Ok, Some, or_parts, map-append, AllocError, Value, Items, no_items, item, items_push, items_join, Entries, no_entries, entry, keys_of, values_of, AreItemsOrdered, AreEntriesOrdered, items_have_other, members_have_other, plain_value, plain_items, plain_entries, part_of, items_at, entries_at, AddsValue, IsText, AreTexts, AreBelow, ExtendsBackings, texts_of, values_at, entries_of, Part, Backings, HasGrown, IsValueAt, Enters, heap_values, Gains, Heap}
use Rattle.serde_json.specs.Data as json
use Rattle.value_backings.proofs.Kept.{text_kept}
use Rattle.value_table.proofs.Growth.{value_stable, mapped_stable, items_stable, texts_kept}
use Rattle.value_table.proofs.Listed.{below_le, below_append, items_more}
use Rattle.value_table.proofs.Heads.{entries_built}
use Rattle.value_table.proofs.Named.{place_added}

pub grown_more : (us vs ws : List Value) → HasGrown us vs → HasGrown vs ws → HasGrown us ws
grown_more us vs ws a b = (a.0 ++ b.0, b.1 ∙ ap (λ xs. xs ++ b.0) a.1 ∙ append_assoc us a.0 b.0)

pub grown_none : (vs : List Value) → HasGrown vs vs
grown_none vs = ([], sym (append-nil vs))

pub grown_added : (vs ws : List Value) (v : Value) (r : Result ℕ AllocError) → AddsValue vs v r ws → HasGrown vs ws
grown_added vs ws v r a = grind (arith, append-nil)

pub stands_added : (vs ws : List Value) (v : Value) (i : ℕ) → AddsValue vs v (Ok i) ws → IsValueAt ws i v
stands_added vs ws v i a = let p = place_added vs ws v i a in record { inside = p.0; is = p.1 }

-- one more value
pub enters : (old new : Heap) (v : Value) (r : Result ℕ AllocError) → Gains old (Some v) r new → Enters old v r new
enters old new v r g = grind (arith, grown_added, stands_added)

-- after others
pub enters_on : (first old new : Heap) (v w : Value) (r : Result ℕ AllocError) → HasGrown (heap_values first) (heap_values old) → w ≡ v → Enters old w r new
    → Enters first v r new
enters_on first old new v w r g e h = record { heap = h.heap; grown = grown_more _ _ _ g h.grown; value = rw (← e) h.value }

pub stands_on : (vs ws : List Value) (r : ℕ) (v : Value) → HasGrown vs ws → IsValueAt vs r v → IsValueAt ws r v
stands_on vs ws r v g s = grind (arith, length-append, value_stable)

-- ---- lists

join_pushed : (is : Items) (v : Value) (js : Items) → items_join (items_push is v) js ≡ items_join is (item v js)
join_pushed no_items v js = refl
join_pushed (item w is) v js = ap (item w) (join_pushed is v js)

join_none : (is : Items) → items_join is no_items ≡ is
join_none no_items = refl
join_none (item w is) = ap (item w) (join_none is)

-- these places hold the values of the array's items, except the remaining ones
pub record ItemsStand (all : Items) (vs : List Value) (places : List ℕ) (rest : json.Items) : Type 0 where
  pub is : items_join (items_at vs places) (plain_items rest) ≡ all
  pub below : AreBelow (length vs) places
  pub whole : items_have_other rest ≡ false
  pub ordered : AreItemsOrdered (plain_items rest)

pub items_step : (all : Items) (us vs : List Value) (places : List ℕ) (r : ℕ) (d : json.Data) (rest : json.Items) → HasGrown us vs
    → IsValueAt vs r (plain_value d) → ItemsStand all us places (json.item d rest) → ItemsStand all vs (places ++ r ∷ []) rest
items_step all us vs places r d rest up s g =
    grind (arith, items_stable, items_more, length-append, join_pushed, below_append, below_le, or_parts)

pub items_end : (all : Items) (vs : List Value) (places : List ℕ) (rest : json.Items) → ItemsStand all vs places rest → rest ≡ json.no_items
    → items_at vs places ≡ all
items_end all vs places rest g e = grind (arith, join_none)

-- ---- the keys of a map

-- these texts are the keys
pub record KeysStand (keys : List (List ℕ)) (bytes : List ℕ) (parts : List Part) : Type 0 where
  pub are : texts_of bytes parts ≡ keys
  pub texts : AreTexts bytes parts

texts_same : (bytes more : List ℕ) (ks : List Part) → AreTexts bytes ks → texts_of (bytes ++ more) ks ≡ texts_of bytes ks
texts_same bytes more [] h = refl
texts_same bytes more (k ∷ ks) h = ap₂ (λ t ts. t ∷ ts) (text_kept bytes more k h.0).0 (texts_same bytes more ks h.1)

texts_append : (bytes : List ℕ) (ks : List Part) (k : Part) → AreTexts bytes ks → IsText bytes k → AreTexts bytes (ks ++ k ∷ [])
texts_append bytes [] k h t = (t, tt)
texts_append bytes (j ∷ ks) k h t = (h.0, texts_append bytes ks k h.1 t)

pub keys_step : (bs cs : Backings) (keys : List (List ℕ)) (parts : List Part) (k : Part) (key : List ℕ) → ExtendsBackings bs cs → IsText cs.bytes k
    → part_of cs.bytes k ≡ key → KeysStand keys bs.bytes parts → KeysStand (keys ++ key ∷ []) cs.bytes (parts ++ k ∷ [])
keys_step bs cs keys parts k key up t is g = grind (arith, texts_same, map-append, ap₂, texts_append, texts_kept)

-- the entries with these keys
pub entries_stand : (bytes : List ℕ) (us vs : List Value) (keys all : List (List ℕ)) (parts : List Part) (places : List ℕ) → keys ≡ all
    → KeysStand keys bytes parts → vs ≡ us → entries_at bytes vs parts places ≡ entries_of all (values_at us places)
entries_stand bytes us vs keys all parts places k g e = entries_built bytes vs parts places ∙ ap₂ (λ ks ws. entries_of ks (values_at ws places)) (g.are ∙ k) e

-- ---- the members of an object

-- the keys and the values of the object's members, except the remaining ones
pub record MembersStand (all : Entries) (vs : List Value) (keys : List (List ℕ)) (places : List ℕ) (rest : json.Members) : Type 0 where
  pub keys_are : keys ++ keys_of (plain_entries rest) ≡ keys_of all
  pub values_are : values_at vs places ++ values_of (plain_entries rest) ≡ values_of all
  pub pairs : length keys ≡ length places
  pub below : AreBelow (length vs) places
  pub whole : members_have_other rest ≡ false
  pub ordered : AreEntriesOrdered (plain_entries rest)

-- the values have grown, and this value is among them
pub record HasAdded (us vs : List Value) (r : ℕ) (v : Value) : Type 0 where
  pub grown : HasGrown us vs
  pub value : IsValueAt vs r v

pub members_step : (all : Entries) (us vs : List Value) (keys : List (List ℕ)) (places : List ℕ) (r : ℕ) (key : List ℕ) (d : json.Data) (rest : json.Members)
    → HasAdded us vs r (plain_value d) → MembersStand all us keys places (json.member key d rest) → MembersStand all vs (keys ++ key ∷ []) (places ++ r ∷ []) rest
members_step all us vs keys places r key d rest added m =
    let up = added.grown in
    let s = added.value in
    let left = values_of (plain_entries rest) in
    let kept : values_at vs places ≡ values_at us places = ap (λ ws. values_at ws places) up.1 ∙ mapped_stable (λ v. v) us up.0 places m.below in
    grind (arith, map-append, length-append, append_assoc, below_append, below_le, or_parts)

entries_back : (es : Entries) → entries_of (keys_of es) (values_of es) ≡ es
entries_back no_entries = refl
entries_back (entry k v es) = ap (entry k v) (entries_back es)

pub members_end : (all : Entries) (vs : List Value) (keys : List (List ℕ)) (places : List ℕ) (rest : json.Members) → MembersStand all vs keys places rest
    → rest ≡ json.no_members → entries_of keys (values_at vs places) ≡ all
members_end all vs keys places rest m e = grind (arith, ap₂, append-nil, entries_back)
