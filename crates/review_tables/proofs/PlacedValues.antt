-- Values that were added, and the items of a list.
use Rattle.value_table.proofs.Prelude.{◌≡◌, ℕ, ◌+◌, List, [], ◌∷◌, ◌++◌, true, false, Bool, Option, Some, None, option_map, if◌then◌else◌, Ok, refl, sym, ap, ◌∙◌, subst, arith, length-append, append-nil, Value, Items, no_items, item, items_push, AreItemsOrdered, IsOrdered, saturated, value_in, items_at, HasGrown, Enters, heap_values, Gains, IsHeap}
use Rattle.value_table.specs.declared.heap.Heap.{Heap}
use Rattle.std.specs.Prelude.{option_and_then}
use Rattle.json.specs.Token.{Token}
use Rattle.serde_json.specs.Data as json
use Rattle.serde_json.specs.View as document
use Rattle.value_store.specs.Value as kind
use Rattle.value_store.specs.Size.{size_of, items_size}
use Rattle.value_store.specs.Roots.{value_of, items_value}
use Rattle.review_tables.specs.Reading.{IsPlacedValue, PlacesValue, AddsPlaced, ReadsValue, AddsItem, IsPendingList, pending_value}
use Rattle.review_tables.specs.declared.placed.Placed.{Placed}
use Rattle.review_tables.specs.declared.pending_list.PendingList.{PendingList}
use Rattle.value_table.proofs.Growth.{value_stable, items_stable}
use Rattle.value_table.proofs.Listed.{below_le, below_append, items_more}
use Rattle.value_table.proofs.Growing.{enters, grown_more}

-- a value that was added is unchanged
placed_stays : (us vs : List Value) (p : Placed) → HasGrown us vs → IsPlacedValue us p → IsPlacedValue vs p
placed_stays us vs p g h = grind (arith, value_stable, length-append)

pub answers_stay : (us vs : List Value) (p : Option Placed) (due : Option Value) → HasGrown us vs → PlacesValue us p due → PlacesValue vs p due
answers_stay us vs None due g h = record { sound = tt; is = h.is }
answers_stay us vs (Some p) due g h =
    record { sound = placed_stays us vs p g h.sound; is = ap (λ v. Some v) (ap (λ ws. value_in ws p.place) g.1 ∙ value_stable us g.0 p.place h.sound.inside) ∙ h.is }

-- a value that was added
pub put_entered : (old new : Heap) (v : Value) (i n : ℕ) → Enters old v (Ok i) new → n ≡ saturated (size_of v) → IsOrdered v
    → AddsPlaced old new (Some (record { place = i; size = n })) (Some v)
put_entered old new v i n e size o =
    let is = e.value.is in
    record {
      heap = e.heap;
      grown = e.grown;
      value = record {
        sound = record { inside = e.value.inside; size = size ∙ ap (λ w. saturated (size_of w)) (sym is); ordered = subst IsOrdered (sym is) o };
        is = ap (λ w. Some w) is;
      };
    }

pub put_gained : (old new : Heap) (v : Value) (i n : ℕ) → Gains old (Some v) (Ok i) new → n ≡ saturated (size_of v) → IsOrdered v
    → AddsPlaced old new (Some (record { place = i; size = n })) (Some v)
put_gained old new v i n g size o = put_entered old new v i n (enters old new v (Ok i) g) size o

pub none_put : (h : Heap) → IsHeap h → AddsPlaced h h None None
none_put h is = record { heap = is; grown = ([], sym (append-nil (heap_values h))); value = record { sound = tt; is = refl } }

pub put_on : (first old new : Heap) (p : Option Placed) (v w : Option Value) → HasGrown (heap_values first) (heap_values old) → v ≡ w
    → AddsPlaced old new p v → AddsPlaced first new p w
put_on first old new p v w g e h =
    record { heap = h.heap; grown = grown_more _ _ _ g h.grown; value = record { sound = h.value.sound; is = h.value.is ∙ e } }

-- ---- lists

pushed : (x : Option Value) (v : Value) (o : Option Items)
    → option_map (item v) (option_and_then (λ is. option_map (items_push is) x) o) ≡ option_and_then (λ is. option_map (items_push is) x) (option_map (item v) o)
pushed x v None = refl
pushed None v (Some is) = refl
pushed (Some w) v (Some is) = refl

first_pushed : (x : Option Value) → option_and_then (λ v. option_map (item v) (Some no_items)) x ≡ option_map (items_push no_items) x
first_pushed None = refl
first_pushed (Some v) = refl

behind : (x y : Option Value) (o : Option Items)
    → option_and_then (λ v. option_map (item v) (option_and_then (λ is. option_map (items_push is) x) o)) y
    ≡ option_and_then (λ is. option_map (items_push is) x) (option_and_then (λ v. option_map (item v) o) y)
behind x None o = refl
behind x (Some v) o = pushed x v o

items_value_more : (ds : List json.Data) (d : json.Data)
    → items_value (document.items_of (ds ++ d ∷ [])) ≡ option_and_then (λ is. option_map (items_push is) (value_of d)) (items_value (document.items_of ds))
items_value_more [] d = first_pushed (value_of d)
items_value_more (e ∷ ds) d =
    ap (λ o. option_and_then (λ v. option_map (item v) o) (value_of e)) (items_value_more ds d) ∙ behind (value_of d) (value_of e) (items_value (document.items_of ds))

push_ordered : (is : Items) (v : Value) → AreItemsOrdered is → IsOrdered v → AreItemsOrdered (items_push is v)
push_ordered no_items v h o = (o, tt)
push_ordered (item w is) v h o = (h.0, push_ordered is v h.1 o)

push_size : (is : Items) (v : Value) → items_size (items_push is v) ≡ items_size is + size_of v
push_size no_items v = omega arith
push_size (item w is) v = omega (arith, push_size is v)

-- the list of these documents
pub record RowStands (vs : List Value) (pending : PendingList) (done : List json.Data) : Type 0 where
  pub stand : IsPendingList vs pending
  pub is : items_value (document.items_of done) ≡ (if pending.whole then Some (items_at vs pending.places.items) else None)

row_stays : (us vs : List Value) (pending : PendingList) → HasGrown us vs → IsPendingList us pending → IsPendingList vs pending
row_stays us vs pending g h = grind (arith, items_stable, below_le, length-append)

row_taken : (vs : List Value) (old new : PendingList) (p : Placed) → IsPendingList vs old → IsPlacedValue vs p → AddsItem old (Some p) new → IsPendingList vs new
row_taken vs old new p h s m = grind (arith, items_more, below_append, push_ordered, push_size)

row_passed : (vs : List Value) (old new : PendingList) → IsPendingList vs old → AddsItem old None new → IsPendingList vs new
row_passed vs old new h m = grind arith

none_behind : (o : Option Items) → option_and_then (λ is. option_map (items_push is) None) o ≡ None
none_behind None = refl
none_behind (Some is) = refl

one_behind : (b : Bool) (is : Items) (v : Value)
    → option_and_then (λ js. option_map (items_push js) (Some v)) (if b then Some is else None) ≡ (if b then Some (items_push is v) else None)
one_behind true is v = refl
one_behind false is v = refl

if_same : (b c : Bool) (is js : Items) → b ≡ c → is ≡ js → (if b then Some is else None) ≡ (if c then Some js else None)
if_same b c is js e f = rw (e, f)

stays_is : (us vs : List Value) (pending : PendingList) (o : Option Items) → HasGrown us vs → IsPendingList us pending
    → o ≡ (if pending.whole then Some (items_at us pending.places.items) else None) → o ≡ (if pending.whole then Some (items_at vs pending.places.items) else None)
stays_is us vs pending o g h e = e ∙ if_same pending.whole pending.whole _ _ refl (sym (ap (λ ws. items_at ws pending.places.items) g.1 ∙ items_stable us g.0 pending.places.items h.below))

pub row_step : (us vs : List Value) (old new : PendingList) (p : Option Placed) (d : json.Data) (done : List json.Data) → RowStands us old done → HasGrown us vs
    → PlacesValue vs p (value_of d) → AddsItem old p new → RowStands vs new (done ++ d ∷ [])
row_step us vs old new None d done h g a m =
    let kept = row_stays us vs old g h.stand in
    let off : new.whole ≡ false = m.2 in
    record {
      stand = row_passed vs old new kept m;
      is = items_value_more done d ∙ ap (λ x. option_and_then (λ is. option_map (items_push is) x) (items_value (document.items_of done))) (sym a.is)
          ∙ none_behind (items_value (document.items_of done)) ∙ rw off;
    }
row_step us vs old new (Some p) d done h g a m =
    let kept = row_stays us vs old g h.stand in
    let was = stays_is us vs old _ g h.stand h.is in
    let more : items_push (items_at vs old.places.items) (value_in vs p.place) ≡ items_at vs new.places.items = sym (ap (items_at vs) m.0 ∙ items_more vs old.places.items p.place) in
    record {
      stand = row_taken vs old new p kept a.sound m;
      is = items_value_more done d ∙ ap (λ x. option_and_then (λ is. option_map (items_push is) x) (items_value (document.items_of done))) (sym a.is)
          ∙ ap (option_and_then (λ is. option_map (items_push is) (Some (value_in vs p.place)))) was
          ∙ one_behind old.whole (items_at vs old.places.items) (value_in vs p.place) ∙ if_same old.whole new.whole _ _ (sym m.2) more;
    }

pub row_starts : (vs : List Value) (pending : PendingList) → pending.places.items ≡ [] → pending.size ≡ 1 → pending.whole ≡ true → RowStands vs pending []
row_starts vs pending e n b = grind arith

listed : (b : Bool) (is : Items) → option_map kind.list (if b then Some is else None) ≡ (if b then Some (kind.list is) else None)
listed true is = refl
listed false is = refl

pub row_ends : (vs : List Value) (pending : PendingList) (done : List json.Data) → RowStands vs pending done → pending_value vs pending ≡ value_of (json.array (document.items_of done))
row_ends vs pending done h = sym (ap (option_map kind.list) h.is ∙ listed pending.whole (items_at vs pending.places.items))

-- the same result of reading, stated with other terms
pub read_as : (old new : Heap) (p : Option Placed) (o q : Option (json.Data × List Token)) (rest : List Token) → q ≡ o → ReadsValue old new p o rest → ReadsValue old new p q rest
read_as old new p o q rest e h = record { document = h.document; is = e ∙ h.is; puts = h.puts }

pub read_alone : (old new : Heap) (p : Option Placed) (o : Option (json.Data × List Token)) (rest : List Token) (d : json.Data) → o ≡ Some (d, rest) → AddsPlaced old new p (value_of d) → ReadsValue old new p o rest
read_alone old new p o rest d e h = record { document = d; is = e; puts = h }
