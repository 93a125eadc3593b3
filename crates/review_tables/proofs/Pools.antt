-- Reviews that are read beside documents, and the roots of their tables.
use Rattle.value_table.proofs.Prelude.{◌≡◌, List, [], ◌∷◌, Option, Some, None, refl, sym, subst, Value, HasGrown, heap_values}
use Rattle.value_table.specs.declared.heap.Heap.{Heap}
use Rattle.std.specs.Prelude.{option_and_then}
use Rattle.serde_json.specs.Data as json
use Rattle.value_store.specs.Reviews.{parts_in, parts_of}
use Rattle.value_store.specs.Roots.{value_of}
use Rattle.value_store.specs.Value as kind
use Rattle.review_tables.specs.DocumentPool.{HoldsReview, IsGiven, IsSoundGiven, place_or}
use Rattle.review_tables.specs.Reading.{AddsPlaced, IsSoundPlace, PlacesValue}
use Rattle.review_tables.specs.ReviewTable.{ReviewIsRead, RootsArePlaced}
use Rattle.review_tables.specs.RootPlaces.{AreSoundPlaces}
use Rattle.review_tables.specs.declared.placed.Placed.{Placed}
use Rattle.review_tables.specs.declared.placed_request.PlacedRequest.{PlacedRequest}
use Rattle.review_tables.specs.declared.pooled_document.PooledDocument.{PooledDocument}
use Rattle.review_tables.proofs.PlacedValues.{answers_stay}
use Rattle.review_tables.proofs.ReviewTables.{all_there, parts_are}

-- ---- reviews

-- the review was read, and then a null was added
pub review_held : (old new last : Heap) (r : PlacedRequest) (null : Placed) (review : Option json.Data) → ReviewIsRead old new r review
    → AddsPlaced new last (Some null) (Some kind.null) → HoldsReview (heap_values last) r null review
review_held old new last r null review read added = record {
  members = read.members;
  is = read.is;
  object = answers_stay (heap_values new) (heap_values last) r.object _ added.grown read.request.object;
  old_object = answers_stay (heap_values new) (heap_values last) r.old_object _ added.grown read.request.old_object;
  rest = answers_stay (heap_values new) (heap_values last) r.rest _ added.grown read.request.rest;
  null_value = added.value;
}

-- it is there still after values were added
pub review_stays : (us vs : List Value) (r : PlacedRequest) (null : Placed) (review : Option json.Data) → HasGrown us vs → HoldsReview us r null review
    → HoldsReview vs r null review
review_stays us vs r null review grown held = record {
  members = held.members;
  is = held.is;
  object = answers_stay us vs r.object _ grown held.object;
  old_object = answers_stay us vs r.old_object _ grown held.old_object;
  rest = answers_stay us vs r.rest _ grown held.rest;
  null_value = answers_stay us vs (Some null) _ grown held.null_value;
}

-- ---- roots

given_place : (vs : List Value) (null : Placed) (o : Option PooledDocument) (d : json.Data) → PlacesValue vs (Some null) (Some kind.null) → IsGiven vs o d
    → PlacesValue vs (place_or o null) (value_of d)
given_place vs null (Some p) d none given = given
given_place vs null None d none given = subst (λ e. PlacesValue vs (Some null) (value_of e)) (sym given) none

sound_place : (vs : List Value) (null : Placed) (o : Option PooledDocument) → PlacesValue vs (Some null) (Some kind.null) → IsSoundGiven vs o
    → IsSoundPlace vs (place_or o null)
sound_place vs null (Some p) none sound = sound
sound_place vs null None none sound = none.sound

module _ (h : Heap) (r : PlacedRequest) (null : Placed) (namespace params : Option PooledDocument) (review : Option json.Data) (held : HoldsReview (heap_values h) r null review)
    (n p : Option Placed) (n_is : n ≡ place_or namespace null) (p_is : p ≡ place_or params null) where
  -- the roots are those of the review, the namespace and the params
  pub roots_there : (d e : json.Data) → IsGiven (heap_values h) namespace d → IsGiven (heap_values h) params e
      → RootsArePlaced h (r.object ∷ r.old_object ∷ p ∷ n ∷ r.rest ∷ []) (option_and_then parts_in review) (Some d) (Some e)
  roots_there d e given also =
      let parts = parts_of held.members in
      let one = given_place (heap_values h) null namespace d held.null_value given in
      let other = given_place (heap_values h) null params e held.null_value also in
      record {
        documents = parts.object ∷ parts.old_object ∷ e ∷ d ∷ parts.request ∷ [];
        is = all_there _ (Some d) (Some e) parts d e (parts_are review held.members held.is) refl refl;
        answer = (held.object, (held.old_object, (rw p_is other, (rw n_is one, (held.rest, tt)))));
      }

  pub roots_sound : IsSoundGiven (heap_values h) namespace → IsSoundGiven (heap_values h) params
      → AreSoundPlaces (heap_values h) (r.object ∷ r.old_object ∷ p ∷ n ∷ r.rest ∷ [])
  roots_sound sound also =
      let one = sound_place (heap_values h) null namespace held.null_value sound in
      let other = sound_place (heap_values h) null params held.null_value also in
      (held.object.sound, (held.old_object.sound, (rw p_is other, (rw n_is one, (held.rest.sound, tt)))))
