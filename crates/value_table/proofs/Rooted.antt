-- Tables whose roots are values of another table.
use Rattle.std.proofs.Common.{◌≡◌, ℕ, zero, suc, ◌+◌, ◌<◌, ◌≤◌, List, [], ◌∷◌, ◌++◌, length, take, get_or, Some, IsSome, slice_get, slice_index_or, refl, sym, ap, ◌∙◌, subst, append_assoc, arith}
use Rattle.std.proofs.lemmas.List.{take_more, take_all}
use Rattle.std.proofs.lemmas.Option.{get_or_from_slice_get}
use Rattle.value_store.specs.Calls.{value_at}
use Rattle.value_store.specs.Placing.{first_values}
use Rattle.value_store.specs.Value.{Value, ValueOrError, error, value}
use Rattle.value_table.specs.Growing.{HasGrown}
use Rattle.value_table.specs.Heap.{heap_values, IsHeap}
use Rattle.value_table.specs.Meaning.{value_in}
use Rattle.value_table.specs.References.{reference_values, AreReferences, IsPlace}
use Rattle.value_table.specs.Rooted.{HaveValues, picked}
use Rattle.value_table.specs.Start.{StartsWithValues}
use Rattle.value_table.specs.declared.heap.Heap.{Heap}
use Rattle.value_table.proofs.Named.{Grows, grows_by, name_sound, name_values}

-- the references keep their values while a heap grows
pub still : (old new : Heap) (ps : List ℕ) → AreReferences old ps → IsHeap new → HasGrown (heap_values old) (heap_values new) → Grows old ps new
still old new ps a k g = grows_by old ps new g.0 a k g.1

-- a reference among those that have values
has_value : (vs : List ValueOrError) (hs : List ℕ) (i d : ℕ) → HaveValues vs hs → i < length hs → IsSome (value_at (slice_get vs (get_or hs i d)))
has_value vs [] i d h l = absurd (omega (arith, l))
has_value vs (h ∷ hs) zero d k l = k.0
has_value vs (h ∷ hs) (suc i) d k l = has_value vs hs i d k.1 (omega (arith, l))

pub value_still : (old new : Heap) (ps hs : List ℕ) (i d : ℕ) → Grows old ps new → HaveValues (reference_values old ps) hs → i < length hs
    → IsSome (value_at (slice_get (reference_values new ps) (get_or hs i d)))
value_still old new ps hs i d g k l =
    subst (λ (vs : List ValueOrError). IsSome (value_at (slice_get vs (get_or hs i d)))) (sym g.values) (has_value (reference_values old ps) hs i d k l)

picked_append : (vs : List ValueOrError) (hs : List ℕ) (h : ℕ) → picked vs (hs ++ h ∷ []) ≡ picked vs hs ++ slice_index_or vs h error ∷ []
picked_append vs [] h = refl
picked_append vs (g ∷ hs) h = ap (λ xs. slice_index_or vs g error ∷ xs) (picked_append vs hs h)

-- one more root
picked_more : (vs : List ValueOrError) (hs : List ℕ) (i d : ℕ) (x : ValueOrError) → i < length hs → slice_get vs (get_or hs i d) ≡ Some x
    → picked vs (take (i + 1) hs) ≡ picked vs (take i hs) ++ x ∷ []
picked_more vs hs i d x l s =
    ap (picked vs) (take_more hs i d l) ∙ picked_append vs (take i hs) (get_or hs i d)
    ∙ ap (λ y. picked vs (take i hs) ++ y ∷ []) (get_or_from_slice_get vs (get_or hs i d) x error s)

pub root_chosen : (old new : Heap) (ps hs chosen next : List ℕ) (i d p : ℕ) → Grows old ps new → i < length hs → IsPlace new ps (get_or hs i d) p
    → next ≡ chosen ++ p ∷ []
    → StartsWithValues new chosen (first_values ++ picked (reference_values old ps) (take i hs))
    → StartsWithValues new next (first_values ++ picked (reference_values old ps) (take (i + 1) hs))
root_chosen old new ps hs chosen next i d p g l at n s =
    let x : ValueOrError = value (value_in (heap_values new) p) in
    let there : slice_get (reference_values old ps) (get_or hs i d) ≡ Some x = ap (λ vs. slice_get vs (get_or hs i d)) (sym g.values) ∙ at.value_is in
    let more = picked_more (reference_values old ps) hs i d x l there in
    record {
      sound = name_sound new chosen next p s.sound at.inside n;
      values = name_values new chosen next p n ∙ ap (λ vs. vs ++ x ∷ []) s.values
          ∙ append_assoc first_values (picked (reference_values old ps) (take i hs)) (x ∷ [])
          ∙ ap (λ vs. first_values ++ vs) (sym more);
    }

pub all_chosen : (new : Heap) (vs : List ValueOrError) (hs chosen : List ℕ) (i : ℕ) → length hs ≤ i
    → StartsWithValues new chosen (first_values ++ picked vs (take i hs)) → StartsWithValues new chosen (first_values ++ picked vs hs)
all_chosen new vs hs chosen i l s = subst (λ (rs : List ℕ). StartsWithValues new chosen (first_values ++ picked vs rs)) (take_all i hs l) s
