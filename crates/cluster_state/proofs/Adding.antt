-- Items are added one after another.
use Rattle.cluster_state.proofs.Prelude.{◌≡◌, ◌∙◌, ◌∷◌, Bool, true, false, not, List, Result, Err, ap, refl, sym, insert_entry, is_some, nat_cmp, object_named, slice_cmp, Collection, Item, Objects, Refusal, duplicate_item, is_collection, is_taken, no_objects, with_item, with_items, if◌then◌else◌}

-- the objects of the code hold the items before `rest`
pub record AddGo (all rest : List Item) (code : Objects) : Type 0 where
  pub so_far : Objects
  pub are : (c : Collection) → code c ≡ so_far c
  pub left : with_items no_objects all ≡ with_items so_far rest

same_with : (o p : Objects) (i : Item) → ((c : Collection) → o c ≡ p c) → (c : Collection) → with_item o i c ≡ with_item p i c
same_with o p i e c =
    ap (λ x. if is_collection i.collection c then insert_entry (slice_cmp nat_cmp) x i.name i.document else o c) (e i.collection)
    ∙ ap (λ y. if is_collection i.collection c then insert_entry (slice_cmp nat_cmp) (p i.collection) i.name i.document else y) (e c)

same_taken : (o p : Objects) (i : Item) → ((c : Collection) → o c ≡ p c) → is_taken o i ≡ is_taken p i
same_taken o p i e = ap (λ x. is_some (object_named i.name x)) (e i.collection)

not_not : (b : Bool) → true ≡ not b → b ≡ false
not_not true e = e
not_not false e = refl

not_false : (b : Bool) → false ≡ not b → b ≡ true
not_false true e = refl
not_false false e = e

free_next : (b : Bool) (x y : Result Objects Refusal) → b ≡ false → (if b then x else y) ≡ y
free_next b x y e = rw e refl

taken_next : (b : Bool) (x y : Result Objects Refusal) → b ≡ true → (if b then x else y) ≡ x
taken_next b x y e = rw e refl

pub add_more : (all rest : List Item) (i : Item) (old new : Objects) → AddGo all (i ∷ rest) old → true ≡ not (is_taken old i)
    → ((c : Collection) → new c ≡ with_item old i c) → AddGo all rest new
add_more all rest i old new go free added = record {
  so_far = with_item go.so_far i;
  are = λ c. added c ∙ same_with old go.so_far i go.are c;
  left =
      go.left
      ∙ free_next (is_taken go.so_far i) (Err (duplicate_item i.name)) (with_items (with_item go.so_far i) rest)
      (sym (same_taken old go.so_far i go.are) ∙ not_not (is_taken old i) free);
}

pub add_stop : (all rest : List Item) (i : Item) (old : Objects) → AddGo all (i ∷ rest) old → false ≡ not (is_taken old i)
    → with_items no_objects all ≡ Err (duplicate_item i.name)
add_stop all rest i old go taken =
    go.left
    ∙ taken_next (is_taken go.so_far i) (Err (duplicate_item i.name)) (with_items (with_item go.so_far i) rest)
    (sym (same_taken old go.so_far i go.are) ∙ not_false (is_taken old i) taken)
