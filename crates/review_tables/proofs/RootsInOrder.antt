-- Roots, one after the other.
use Rattle.value_table.proofs.Prelude.{◌≡◌, ◌<◌, ◌≤◌, ℕ, suc, ◌+◌, List, [], ◌∷◌, ◌++◌, map, Option, Some, None, Result, Ok, Err, inl, inr, ◌⊎◌, refl, sym, ap, ◌∙◌, subst, arith, add-one, append-nil, append_assoc, map-append, Value, value, first_values, start_contents, saturated, TableError, heap_values, value_in, StartsWithValues, reference_values}
use Rattle.value_table.specs.declared.heap.Heap.{Heap}
use Rattle.std.proofs.Common.{le-leb}
use Rattle.std.proofs.lemmas.Bool.Decides.{nat_tests}
use Rattle.serde_json.specs.Data as json
use Rattle.value_store.specs.Size.{size_of}
use Rattle.value_store.specs.Roots.{root_of, root_then, roots_of, before, sizes, within_limit, contents_of, value_of}
use Rattle.value_store.specs.declared.table_error.TableError.TheVariants.{NotAnObject, NumberOutOfInt64, RootsTooLarge}
use Rattle.review_tables.specs.Reading.{PlacesValue, IsPlacedValue}
use Rattle.review_tables.specs.RootKind.{IsRootOrRefused}
use Rattle.review_tables.specs.RootPlaces.{ArePlacedValues}
use Rattle.review_tables.specs.declared.placed.Placed.{Placed}
use Rattle.value_table.proofs.Named.{name_sound, name_values}

-- values in front of the later ones, or the refusal of these
abbrev pub befores : List Value → Result (List Value) TableError → Result (List Value) TableError
befores [] r = r
befores (v ∷ vs) r = before v (befores vs r)

befores_err : (vs : List Value) (e : TableError) → befores vs (Err e) ≡ Err e
befores_err [] e = refl
befores_err (v ∷ vs) e = ap (before v) (befores_err vs e)

befores_ok : (vs : List Value) → befores vs (Ok []) ≡ Ok vs
befores_ok [] = refl
befores_ok (v ∷ vs) = ap (before v) (befores_ok vs)

befores_more : (vs : List Value) (v : Value) (r : Result (List Value) TableError) → befores vs (before v r) ≡ befores (vs ++ v ∷ []) r
befores_more [] v r = refl
befores_more (w ∷ vs) v r = ap (before w) (befores_more vs v r)

sizes_more : (vs : List Value) (v : Value) → sizes (vs ++ v ∷ []) ≡ sizes vs + size_of v
sizes_more [] v = omega arith
sizes_more (w ∷ vs) v = omega (arith, sizes_more vs v)

charged : (a b c d : ℕ) → a ≡ saturated b → c ≡ saturated d → saturated (a + c) ≡ saturated (b + d)
charged a b c d e f = omega arith

mapped_more : (vs : List Value) (v : Value) → (first_values ++ map value vs) ++ value v ∷ [] ≡ first_values ++ map value (vs ++ v ∷ [])
mapped_more vs v = append_assoc first_values (map value vs) (value v ∷ []) ∙ ap (λ xs. first_values ++ xs) (sym (map-append value vs (v ∷ [])))

-- the roots so far, and the remaining documents
pub record Opening (h : Heap) (rest : List (Option Placed)) (places : List ℕ) (reference n : ℕ) (ds : List json.Data) : Type 0 where
  pub done : List Value
  pub left : List json.Data
  pub answers : ArePlacedValues (heap_values h) rest left
  pub is : roots_of 4 ds ≡ befores done (roots_of reference left)
  pub starts : StartsWithValues h places (first_values ++ map value done)
  pub charge : n ≡ saturated (sizes done)

pub opening_start : (h : Heap) (all : List (Option Placed)) (places : List ℕ) (ds : List json.Data) → StartsWithValues h places first_values → ArePlacedValues (heap_values h) all ds → Opening h all places 4 0 ds
opening_start h all places ds s a = record {
  done = [];
  left = ds;
  answers = a;
  is = refl;
  starts = subst (StartsWithValues h places) (sym (append-nil first_values)) s;
  charge = refl;
}

stepped : (h : Heap) (rest : List (Option Placed)) (places places' : List ℕ) (reference n n' : ℕ) (ds : List json.Data) (p : Option Placed) (q : Placed) (done : List Value) (left : List json.Data)
    → ArePlacedValues (heap_values h) (p ∷ rest) left → roots_of 4 ds ≡ befores done (roots_of reference left) → StartsWithValues h places (first_values ++ map value done) → n ≡ saturated (sizes done)
    → ((d : json.Data) → PlacesValue (heap_values h) p (value_of d) → IsRootOrRefused (heap_values h) reference (Some q) (root_of reference d)) → IsPlacedValue (heap_values h) q → places' ≡ places ++ q.place ∷ []
    → n' ≡ saturated (n + q.size) → Opening h rest places' (reference + 1) n' ds
stepped h rest places places' reference n n' ds p q done [] a is s c g o e f = absurd a
stepped h rest places places' reference n n' ds p q done (d ∷ left) a is s c g o e f =
    let vs = heap_values h in
    let v = value_in vs q.place in
    let this : root_of reference d ≡ Ok v = g d a.0 in
    record {
      done = done ++ v ∷ [];
      left = left;
      answers = a.1;
      is = is ∙ ap (λ r. befores done (root_then r (roots_of (suc reference) left))) this ∙ befores_more done v (roots_of (suc reference) left)
          ∙ ap (λ k. befores (done ++ v ∷ []) (roots_of k left)) (sym (add-one reference));
      starts = record {
        sound = name_sound h places places' q.place s.sound o.inside e;
        values = name_values h places places' q.place e ∙ ap (λ xs. xs ++ value v ∷ []) s.values ∙ mapped_more done v;
      };
      charge = f ∙ charged n (sizes done) q.size (size_of v) c o.size ∙ ap saturated (sym (sizes_more done v));
    }

pub opening_step : (h : Heap) (rest : List (Option Placed)) (places places' : List ℕ) (reference n n' : ℕ) (ds : List json.Data) (p : Option Placed) (q : Placed)
    → Opening h (p ∷ rest) places reference n ds
    → ((d : json.Data) → PlacesValue (heap_values h) p (value_of d) → IsRootOrRefused (heap_values h) reference (Some q) (root_of reference d)) → IsPlacedValue (heap_values h) q → places' ≡ places ++ q.place ∷ []
    → n' ≡ saturated (n + q.size) → Opening h rest places' (reference + 1) n' ds
opening_step h rest places places' reference n n' ds p q s g o e f = stepped h rest places places' reference n n' ds p q s.done s.left s.answers s.is s.starts s.charge g o e f

failed : (vs : List Value) (rest : List (Option Placed)) (reference : ℕ) (ds : List json.Data) (p : Option Placed) (done : List Value) (left : List json.Data) → ArePlacedValues vs (p ∷ rest) left
    → roots_of 4 ds ≡ befores done (roots_of reference left) → ((d : json.Data) → PlacesValue vs p (value_of d) → IsRootOrRefused vs reference None (root_of reference d))
    → (start_contents ds ≡ Err (NotAnObject reference)) ⊎ (start_contents ds ≡ Err (NumberOutOfInt64 reference))
failed vs rest reference ds p done [] a is g = absurd a
failed vs rest reference ds p done (d ∷ left) a is g =
    elim (g d a.0) [
      | inl e ↦ inl (ap contents_of (is ∙ ap (λ r. befores done (root_then r (roots_of (suc reference) left))) e ∙ befores_err done (NotAnObject reference)))
      | inr e ↦ inr (ap contents_of (is ∙ ap (λ r. befores done (root_then r (roots_of (suc reference) left))) e ∙ befores_err done (NumberOutOfInt64 reference)))
    ]

pub opening_fails : (h : Heap) (rest : List (Option Placed)) (places : List ℕ) (reference n : ℕ) (ds : List json.Data) (p : Option Placed) → Opening h (p ∷ rest) places reference n ds
    → ((d : json.Data) → PlacesValue (heap_values h) p (value_of d) → IsRootOrRefused (heap_values h) reference None (root_of reference d))
    → (start_contents ds ≡ Err (NotAnObject reference)) ⊎ (start_contents ds ≡ Err (NumberOutOfInt64 reference))
opening_fails h rest places reference n ds p s g = failed (heap_values h) rest reference ds p s.done s.left s.answers s.is g

over : (done : List Value) (left : List json.Data) (vs : List Value) (reference : ℕ) (ds : List json.Data) → ArePlacedValues vs [] left → roots_of 4 ds ≡ befores done (roots_of reference left)
    → start_contents ds ≡ within_limit done
over done [] vs reference ds a is = ap contents_of (is ∙ befores_ok done)
over done (d ∷ left) vs reference ds a is = absurd a

limited : (vs : List Value) (n : ℕ) → n ≡ saturated (sizes vs) → n ≤ 16777216 → within_limit vs ≡ Ok (record { values = first_values ++ map value vs; charge = n })
limited vs n e h =
    let same : n ≡ sizes vs = omega arith in
    let low : sizes vs ≤ 16777216 = omega arith in
    rw (le-leb (sizes vs) 16777216 low) (ap (λ k. Ok (record { values = first_values ++ map value vs; charge = k })) (sym same))

beyond : (vs : List Value) (n : ℕ) → n ≡ saturated (sizes vs) → 16777216 < n → within_limit vs ≡ Err RootsTooLarge
beyond vs n e h = let high : 16777216 < sizes vs = omega arith in grind (arith, nat_tests)

pub opening_ends : (h : Heap) (rest : List (Option Placed)) (places : List ℕ) (reference n : ℕ) (ds : List json.Data) → Opening h rest places reference n ds → rest ≡ [] → n ≤ 16777216
    → start_contents ds ≡ Ok (record { values = reference_values h places; charge = n })
opening_ends h rest places reference n ds s e low =
    over s.done s.left (heap_values h) reference ds (subst (λ r. ArePlacedValues (heap_values h) r s.left) e s.answers) s.is ∙ limited s.done n s.charge low
    ∙ ap (λ xs. Ok (record { values = xs; charge = n })) (sym s.starts.values)

pub opening_too_large : (h : Heap) (rest : List (Option Placed)) (places : List ℕ) (reference n : ℕ) (ds : List json.Data) → Opening h rest places reference n ds → rest ≡ [] → 16777216 < n
    → start_contents ds ≡ Err RootsTooLarge
opening_too_large h rest places reference n ds s e high =
    over s.done s.left (heap_values h) reference ds (subst (λ r. ArePlacedValues (heap_values h) r s.left) e s.answers) s.is ∙ beyond s.done n s.charge high
