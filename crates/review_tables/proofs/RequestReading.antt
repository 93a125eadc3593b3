-- The members of a request are looked up, removed, and become its parts.
use Rattle.value_table.proofs.Prelude.{◌≡◌, ◌<◌, ℕ, List, [], ◌∷◌, length, Bool, true, false, cond, Option, Some, None, option_map, unwrap_or, if◌then◌else◌, Ordering, Less, Greater, refl, sym, ap, ◌∙◌, subst, arith, bytes_eq, bytes_eq-Decides, is_eq, is_eq-slice_cmp, nat_cmp, slice_cmp, Value, value_in, heap_values, IsHeap, IsValueAt, same_Some}
use Rattle.value_table.specs.declared.heap.Heap.{Heap}
use Rattle.std.specs.Prelude.{codes}
use Rattle.std.specs.declared.cmp.Ordering.TheVariants.{Equal}
use Rattle.std.specs.Ordering.{match_ordering}
use Rattle.std.specs.BTreeMap.{is_at}
use Rattle.std.specs.Map.{remove_entry, lookup}
use Rattle.std.specs.Borrow.{Bor}
use Rattle.serde_json.specs.Data as json
use Rattle.serde_json.specs.Find.{get_member}
use Rattle.value_store.specs.Value as kind
use Rattle.value_store.specs.Roots.{value_of}
use Rattle.review_tables.specs.Reading.{PlacesValue, AddsPlaced, PlacedEntry, AreMembers, AreSomeMembers, placed_entries}
use Rattle.value_store.specs.Documents.{is_text}
use Rattle.value_store.specs.Reviews.{without, member_or_null, parts_of}
use Rattle.review_tables.specs.ReviewReading.{is_text_value, IsPlacedRequest, IsRequestOf, TakesMember, MakesRequest, IsUid}
use Rattle.review_tables.specs.declared.placed.Placed.{Placed}
use Rattle.review_tables.specs.Members.{key_at}
use Rattle.review_tables.proofs.PlacedValues.{answers_stay}
use Rattle.review_tables.proofs.PlacedMembers.{members_stay, members_are}
use Rattle.value_table.proofs.Growing.{grown_more, grown_none, stands_on}

-- ---- look-ups

abbrev pub IsFound : List Value → Option (Option Placed) → Option json.Data → Type 0
IsFound vs None None = Unit {0}
IsFound vs None (Some d) = ⊥
IsFound vs (Some p) None = ⊥
IsFound vs (Some p) (Some d) = PlacesValue vs p (value_of d)

found_by : (o : Ordering) (vs : List Value) (p : Option Placed) (d : json.Data) (rest : Option (Option Placed)) (g : Option json.Data) → PlacesValue vs p (value_of d) → IsFound vs rest g
    → IsFound vs (cond (is_eq o) (Some p) rest) (match_ordering o g (Some d) g)
found_by Less vs p d rest g a h = h
found_by Equal vs p d rest g a h = a
found_by Greater vs p d rest g a h = h

pub found_there : (key : List ℕ) (vs : List Value) (es : List PlacedEntry) (ms : json.Members) → AreMembers vs es ms → IsFound vs (lookup (is_at (key_at key)) es) (get_member key ms)
found_there key vs [] json.no_members h = tt
found_there key vs (e ∷ es) (json.member k d ms) h =
    subst (λ l. IsFound vs (lookup (is_at (key_at key)) (e ∷ es)) (match_ordering (slice_cmp nat_cmp key l) (get_member key ms) (Some d) (get_member key ms))) h.0
    (found_by (slice_cmp nat_cmp key e.0.now) vs e.1 d (lookup (is_at (key_at key)) es) (get_member key ms) h.1 (found_there key vs es ms h.2))
found_there key vs _ _ h = absurd h

gone_by : (b : Bool) (vs : List Value) (e : PlacedEntry) (es rest : List PlacedEntry) (k : List ℕ) (d : json.Data) (ms more : json.Members) → e.0.now ≡ k → PlacesValue vs e.1 (value_of d) → AreMembers vs es ms
    → AreMembers vs rest more → AreMembers vs (cond b es (e ∷ rest)) (if b then ms else json.member k d more)
gone_by true vs e es rest k d ms more n a h g = h
gone_by false vs e es rest k d ms more n a h g = (n, a, g)

pub removed : (key : List ℕ) (vs : List Value) (es : List PlacedEntry) (ms : json.Members) → AreMembers vs es ms → AreMembers vs (remove_entry (is_at (key_at key)) es) (without key ms)
removed key vs [] json.no_members h = tt
removed key vs (e ∷ es) (json.member k d ms) h =
    let same : bytes_eq key k ≡ is_eq (slice_cmp nat_cmp key e.0.now) = sym (is_eq-slice_cmp key e.0.now ∙ ap (bytes_eq key) h.0) in
    subst (λ b. AreMembers vs (remove_entry (is_at (key_at key)) (e ∷ es)) (if b then ms else json.member k d (without key ms))) (sym same)
    (gone_by (is_eq (slice_cmp nat_cmp key e.0.now)) vs e es (remove_entry (is_at (key_at key)) es) k d ms (without key ms) h.0 h.1 h.2 (removed key vs es ms h.2))
removed key vs _ _ h = absurd h

-- ---- texts

text_told : (d : json.Data) (v : Value) → value_of d ≡ Some v → is_text (Some d) ≡ is_text_value v
text_told json.null v e = grind arith
text_told (json.boolean b) v e = grind arith
text_told (json.number n) v e = grind arith
text_told (json.string s) v e = grind arith
text_told (json.array ds) v e = grind arith
text_told (json.object ms) v e = grind arith

no_text : (d : json.Data) → value_of d ≡ None → is_text (Some d) ≡ false
no_text json.null e = refl
no_text (json.boolean b) e = refl
no_text (json.number n) e = refl
no_text (json.string s) e = absurd (cc)
no_text (json.array ds) e = refl
no_text (json.object ms) e = refl

pub has_text : (vs : List Value) (p : Placed) (g : Option json.Data) → IsFound vs (Some (Some p)) g → is_text_value (value_in vs p.place) ≡ is_text g
has_text vs p None h = absurd h
has_text vs p (Some d) h = sym (text_told d (value_in vs p.place) (sym h.is))

pub has_none : (vs : List Value) (g : Option json.Data) → IsFound vs None g → false ≡ is_text g
has_none vs None h = refl
has_none vs (Some d) h = absurd h

pub has_other : (vs : List Value) (g : Option json.Data) → IsFound vs (Some None) g → false ≡ is_text g
has_other vs None h = absurd h
has_other vs (Some d) h = sym (no_text d (sym h.is))

text_is : (d : json.Data) → is_text (Some d) ≡ true → (s : List ℕ) × (d ≡ json.string s)
text_is (json.string s) e = (s, refl)
text_is _ e = absurd (cc)

text_there : (vs : List Value) (p : Placed) (g : Option json.Data) → IsFound vs (Some (Some p)) g → is_text_value (value_in vs p.place) ≡ true
    → (s : List ℕ) × (g ≡ Some (json.string s)) × IsValueAt vs p.place (kind.text s)
text_there vs p None h e = absurd h
text_there vs p (Some d) h e =
    let s = text_is d (text_told d (value_in vs p.place) (sym h.is) ∙ e) in
    (s.0, ap (λ x. Some x) s.1, record { inside = h.sound.inside; is = same_Some _ _ (h.is ∙ ap value_of s.1) })

pub uid_there : (vs : List Value) (p : Placed) (ms : json.Members) → IsFound vs (Some (Some p)) (get_member (codes "uid") ms) → is_text_value (value_in vs p.place) ≡ true
    → IsUid vs p.place ms
uid_there vs p ms h e = let s = text_there vs p (get_member (codes "uid") ms) h e in record { text = s.0; is = s.1; value = s.2 }

-- ---- a member that is removed

answer_some : (vs : List Value) (p : Option Placed) (g : Option json.Data) → IsFound vs (Some p) g → PlacesValue vs p (value_of (unwrap_or g json.null))
answer_some vs p None h = absurd h
answer_some vs p (Some d) h = h

answer_none : (vs : List Value) (g : Option json.Data) → IsFound vs None g → Some kind.null ≡ value_of (unwrap_or g json.null)
answer_none vs None h = refl
answer_none vs (Some d) h = absurd h

pub take_some : (h : Heap) (key : List ℕ) (es es' : List PlacedEntry) (p : Option Placed) (ms : json.Members) → IsHeap h → Some p ≡ lookup (is_at (key_at key)) es → es' ≡ remove_entry (is_at (key_at key)) es
    → AreMembers (heap_values h) es ms → TakesMember h h key es es' p ms
take_some h key es es' p ms ok e f a = record {
  heap = ok;
  grown = grown_none (heap_values h);
  value = answer_some (heap_values h) p (get_member key ms) (subst (λ o. IsFound (heap_values h) o (get_member key ms)) (sym e) (found_there key (heap_values h) es ms a));
  rest = subst (λ xs. AreMembers (heap_values h) xs (without key ms)) (sym f) (removed key (heap_values h) es ms a);
}

pub take_none : (old new : Heap) (key : List ℕ) (es es' : List PlacedEntry) (p : Option Placed) (ms : json.Members) → AddsPlaced old new p (Some kind.null) → None ≡ lookup (is_at (key_at key)) es
    → es' ≡ remove_entry (is_at (key_at key)) es → AreMembers (heap_values old) es ms → TakesMember old new key es es' p ms
take_none old new key es es' p ms put e f a =
    let none = answer_none (heap_values old) (get_member key ms) (subst (λ o. IsFound (heap_values old) o (get_member key ms)) (sym e) (found_there key (heap_values old) es ms a)) in
    record {
      heap = put.heap;
      grown = put.grown;
      value = record { sound = put.value.sound; is = put.value.is ∙ none };
      rest = members_stay (heap_values old) (heap_values new) es' (without key ms) put.grown (subst (λ xs. AreMembers (heap_values old) xs (without key ms)) (sym f) (removed key (heap_values old) es ms a));
    }

-- ---- the request

either : (o : Ordering) (a b : Option json.Data) → is_eq o ≡ false → match_ordering o a b a ≡ a
either o a b e = grind arith

kept_by : (key other k : List ℕ) (d : json.Data) (ms : json.Members) (b : Bool) → bytes_eq key k ≡ b → bytes_eq other key ≡ false → get_member other (without key ms) ≡ get_member other ms
    → get_member other (if b then ms else json.member k d (without key ms)) ≡ get_member other (json.member k d ms)
kept_by key other k d ms b is apart later = grind (arith, either, is_eq-slice_cmp, bytes_eq-Decides)

-- the other keys keep their values
member_kept : (key other : List ℕ) (ms : json.Members) → bytes_eq other key ≡ false → get_member other (without key ms) ≡ get_member other ms
member_kept key other json.no_members apart = refl
member_kept key other (json.member k d ms) apart = kept_by key other k d ms (bytes_eq key k) refl apart (member_kept key other ms apart)

pub request_made : (h0 h1 h2 h3 : Heap) (ms : json.Members) (es1 es2 es3 : List PlacedEntry) (uid : ℕ) (object old rest : Option Placed) → TakesMember h0 h1 (codes "object") es1 es2 object ms
    → TakesMember h1 h2 (codes "oldObject") es2 es3 old (without (codes "object") ms) → AddsPlaced h2 h3 rest (option_map kind.map (placed_entries (heap_values h2) es3))
    → IsUid (heap_values h0) uid ms → MakesRequest h0 h3 (Some (record { uid = uid; object = object; old_object = old; rest = rest })) ms
unfolding parts_of
request_made h0 h1 h2 h3 ms es1 es2 es3 uid object old rest a b c u =
    let kept : value_of (member_or_null (codes "oldObject") (without (codes "object") ms)) ≡ value_of (member_or_null (codes "oldObject") ms) =
    ap (λ g. value_of (unwrap_or g json.null)) (member_kept (codes "object") (codes "oldObject") ms refl) in
    let second = answers_stay (heap_values h2) (heap_values h3) old _ c.grown b.value in
    let texted : is_text (get_member (codes "uid") ms) ≡ true = ap is_text u.is in
    let grown = grown_more _ _ _ a.grown (grown_more _ _ _ b.grown c.grown) in
    let whole : IsPlacedRequest (heap_values h3) (record { uid = uid; object = object; old_object = old; rest = rest }) ms = record {
      uid = record { text = u.text; is = u.is; value = stands_on (heap_values h0) (heap_values h3) uid _ grown u.value };
      object = answers_stay (heap_values h1) (heap_values h3) object _ (grown_more _ _ _ b.grown c.grown) a.value;
      old_object = record { sound = second.sound; is = second.is ∙ kept };
      rest = record { sound = c.value.sound; is = c.value.is ∙ ap (option_map kind.map) (members_are (heap_values h2) es3 _ b.rest) };
    } in
    record {
      heap = c.heap;
      grown = grown;
      request = subst (λ v. IsRequestOf (heap_values h3) (Some (record { uid = uid; object = object; old_object = old; rest = rest })) (if v then Some ms else None)) (sym texted) whole;
    }

pub request_none : (h : Heap) (ms : json.Members) → IsHeap h → is_text (get_member (codes "uid") ms) ≡ false → MakesRequest h h None ms
request_none h ms ok e = record { heap = ok; grown = grown_none (heap_values h); request = subst (λ v. IsRequestOf (heap_values h) None (if v then Some ms else None)) (sym e) tt }

-- ---- results

pub copied_some : {A : Type 0} (r : Option (Bor A)) (x : Bor A) (o : Option A) → r ≡ Some x → option_map (λ y. y.now) r ≡ o → Some x.now ≡ o
copied_some r x o e f = sym (ap (option_map (λ y. y.now)) e) ∙ f

pub copied_none : {A : Type 0} (r : Option (Bor A)) (o : Option A) → r ≡ None → option_map (λ y. y.now) r ≡ o → None ≡ o
copied_none r o e f = sym (ap (option_map (λ y. y.now)) e) ∙ f

pub found_as : (key : List ℕ) (vs : List Value) (es : List PlacedEntry) (ms : json.Members) (o : Option (Option Placed)) → o ≡ lookup (is_at (key_at key)) es → AreMembers vs es ms
    → IsFound vs o (get_member key ms)
found_as key vs es ms o e h = subst (λ p. IsFound vs p (get_member key ms)) (sym e) (found_there key vs es ms h)

inside_of : (vs : List Value) (p : Placed) (g : Option json.Data) → IsFound vs (Some (Some p)) g → p.place < length vs
inside_of vs p None h = absurd h
inside_of vs p (Some d) h = h.sound.inside

pub is_inside : (key : List ℕ) (vs : List Value) (es : List PlacedEntry) (p : Placed) → Some (Some p) ≡ lookup (is_at (key_at key)) es → AreSomeMembers vs es → p.place < length vs
is_inside key vs es p e h = inside_of vs p (get_member key h.0) (found_as key vs es h.0 (Some (Some p)) e h.1)
