-- Values by reference, as cells and references are added.
use Rattle.value_table.proofs.Prelude.{◌≡◌, ℕ, zero, suc, ◌+◌, ◌<◌, true, List, [], ◌∷◌, ◌++◌, length, get_or, refl, sym, ap, ap₂, ◌∙◌, arith, length-append, append_assoc, subst, Option, Some, None, Ok, slice_get, IfSome, IsSome, option_map, slice_get-get_or, get_or-append_seam, Value, ValueOrError, error, value, put_values, result_depth, IsOrdered, AreOrdered, place, placed, is_appended, Places, value_at, text_at, key_at, push_of, join_of, pushed, put_in, part_at, parts_of, value_in, grown, key_in, meaning, reference_of, AreBelow, AreCells, AddsValue, heap_values, IsHeap, Gains, named, place_at, reference_values, AreReferences, IsPlace, Content, Cell, Backings, Heap}
use Rattle.value_store.specs.Value as kind
use Rattle.value_store.specs.Calls.{joined}
use Rattle.value_table.specs.References.{values_at}
use Rattle.value_table.specs.declared.content.Content.TheVariants as cell
use Rattle.value_table.proofs.Growth.{value_stable, count_values, found}
use Rattle.value_table.proofs.Listed.{below_le, below_append}

values_stable : (vs ws : List Value) (rs : List ℕ) → AreBelow (length vs) rs → values_at (vs ++ ws) rs ≡ values_at vs rs
values_stable vs ws [] h = refl
values_stable vs ws (r ∷ rs) h = rw (value_stable vs ws r h.0, values_stable vs ws rs h.1)

values_push : (vs : List Value) (rs : List ℕ) (r : ℕ) → values_at vs (rs ++ r ∷ []) ≡ values_at vs rs ++ value (value_in vs r) ∷ []
values_push vs [] r = refl
values_push vs (s ∷ rs) r = ap (λ xs. value (value_in vs s) ∷ xs) (values_push vs rs r)

length_values : (vs : List Value) (rs : List ℕ) → length (values_at vs rs) ≡ length rs
length_values vs [] = refl
length_values vs (r ∷ rs) = ap suc (length_values vs rs)

pub count_named : (vs : List Value) (rs : List ℕ) → length (named vs rs) ≡ length rs + 1
count_named vs rs = let l = length_values vs rs in omega (arith, l)

pub values_get : (vs : List Value) (rs : List ℕ) (h : ℕ) → slice_get (values_at vs rs) h ≡ option_map (λ r. value (value_in vs r)) (slice_get rs h)
values_get vs [] h = refl
values_get vs (r ∷ rs) zero = refl
values_get vs (r ∷ rs) (suc h) = values_get vs rs h

below_at : (n : ℕ) (rs : List ℕ) (h r : ℕ) → AreBelow n rs → slice_get rs h ≡ Some r → r < n
below_at n [] h r b e = absurd (cc)
below_at n (s ∷ rs) zero r b e = let q : s ≡ r = cc in subst (λ i. i < n) q b.0
below_at n (s ∷ rs) (suc h) r b e = below_at n rs h r b.1 e

pub at_place : (t : Heap) (qs : List ℕ) (h r : ℕ) → AreReferences t qs → place_at qs h ≡ Some r → IsPlace t qs h r
at_place t qs h r a e = grind (arith, below_at, values_get)

pub value_has_place : (t : Heap) (qs : List ℕ) (h : ℕ) → IsSome (value_at (slice_get (reference_values t qs) h)) → IsSome (place_at qs h)
value_has_place t qs h s = grind (arith, slice_get, values_get)

-- ---- all values are ordered

pub cell_ordered : (bs : Backings) (cs : List Cell) (r : ℕ) → AreCells bs [] cs → r < length (grown bs [] cs) → IsOrdered (value_in (grown bs [] cs) r)
cell_ordered bs cs r h lt =
    let n = count_values bs cs in
    let f = found bs cs r (get_or cs r (record { content = cell.Null; depth = 0; json = 0 })) (slice_get-get_or cs r _ (omega (arith, n, lt))) h in
    rw f.is f.ordered

values_ordered : (bs : Backings) (cs : List Cell) (rs : List ℕ) → AreCells bs [] cs → AreBelow (length (grown bs [] cs)) rs
    → AreOrdered (values_at (grown bs [] cs) rs)
values_ordered bs cs [] h b = tt
values_ordered bs cs (r ∷ rs) h b = (cell_ordered bs cs r h b.0, values_ordered bs cs rs h b.1)

pub references_ordered : (t : Heap) (qs : List ℕ) → AreReferences t qs → AreOrdered (reference_values t qs)
references_ordered t qs a = (tt, values_ordered t.backings t.cells qs a.heap.cells a.places)

-- ---- one more cell

pub record Grows (t : Heap) (qs : List ℕ) (h : Heap) : Type 0 where
  pub sound : AreReferences h qs
  pub values : reference_values h qs ≡ reference_values t qs

pub grows_by : (t : Heap) (qs : List ℕ) (h : Heap) (ws : List Value) → AreReferences t qs → IsHeap h → heap_values h ≡ heap_values t ++ ws → Grows t qs h
grows_by t qs h ws a k e = grind (arith, values_stable, below_le, length-append)

pub place_added : (vs ws : List Value) (v : Value) (i : ℕ) → AddsValue vs v (Ok i) ws → (i < length ws) × (value_in ws i ≡ v)
place_added vs ws v i e = grind (arith, length-append, get_or-append_seam)

-- ---- one more reference

pub name_sound : (t : Heap) (qs : List ℕ) (places : List ℕ) (r : ℕ) → AreReferences t qs → r < length (heap_values t) → places ≡ qs ++ r ∷ []
    → AreReferences t places
name_sound t qs places r a h e = grind (arith, values_push, below_append, append_assoc)

pub name_values : (t : Heap) (qs : List ℕ) (places : List ℕ) (r : ℕ) → places ≡ qs ++ r ∷ []
    → reference_values t places ≡ reference_values t qs ++ value (value_in (heap_values t) r) ∷ []
name_values t qs places r e = ap (λ rs. named (heap_values t) rs) e ∙ ap (λ vs. error ∷ vs) (values_push (heap_values t) qs r)

-- ---- the results of calls

pub appended : (vs : List ValueOrError) (v : Value) → is_appended v ≡ true → (place vs v ≡ length vs) × (placed vs v ≡ vs ++ value v ∷ [])
appended vs v e = grind arith

-- the value that a call adds is the one that is due, after the last one
abbrev pub Appends : Option Value → Type 0
Appends due = IfSome due (λ v. is_appended v ≡ true)

pub record Due (given due : Option Value) : Type 0 where
  pub same : given ≡ due
  pub appends : Appends due

-- ---- a call that reserves capacity first

module _ {t h : Heap} {qs mid ps : List ℕ} where
  pub added_some : {v : Value} {i : ℕ} → AreReferences t qs → Gains t (Some v) (Ok i) h → mid ≡ qs → ps ≡ mid ++ i ∷ []
      → AreReferences h ps
  added_some {v} {i} a g still e =
      let grows = grows_by t qs h (v ∷ []) a g.heap g.added.1 in
      let p = place_added (heap_values t) (heap_values h) v i g.added in
      name_sound h qs ps i grows.sound p.0 (e ∙ ap (λ rs. rs ++ i ∷ []) still)

  pub added_sound : {given due : Option Value} {i : ℕ} → Due given due → IsSome given → AreReferences t qs
      → Gains t due (Ok i) h → mid ≡ qs → ps ≡ mid ++ i ∷ [] → AreReferences h ps
  added_sound {due = None} d is a g still e = absurd (let same = d.same in cc)
  added_sound {due = Some v} d is a g still e = added_some a g still e

pub added_placed : (t h : Heap) (qs mid ps : List ℕ) (old : List ValueOrError) (v : Value) (i j : ℕ) → reference_values t qs ≡ old → AreReferences t qs
    → is_appended v ≡ true → Gains t (Some v) (Ok i) h → mid ≡ qs → ps ≡ mid ++ i ∷ [] → j ≡ length mid → Places old v (Ok (j + 1)) (reference_values h ps)
added_placed t h qs mid ps old v i j before a appends g still e at =
    let grows = grows_by t qs h (v ∷ []) a g.heap g.added.1 in
    let p = place_added (heap_values t) (heap_values h) v i g.added in
    let all = e ∙ ap (λ rs. rs ++ i ∷ []) still in
    let n = appended old v appends in
    grind (arith, count_named, name_values)

-- one more reference, to an existing cell
pub unplaced : (bs : Backings) (vs : List Value) (c : Content) → reference_of c ≡ None → is_appended (meaning bs vs c) ≡ true
unplaced bs vs c e = grind arith

pub named_part : (t : Heap) (qs : List ℕ) (old : List ValueOrError) (ps : List ℕ) (given : Option Value) (i r : ℕ) → reference_values t qs ≡ old
    → given ≡ Some (value_in (heap_values t) i)
    → is_appended (value_in (heap_values t) i) ≡ true → r ≡ length qs + 1 → ps ≡ qs ++ i ∷ [] → IfSome given (λ v. Places old v (Ok r) (reference_values t ps))
named_part t qs old ps given i r before is a at e =
    let n = appended old (value_in (heap_values t) i) a in
    grind (arith, count_named, name_values)

-- ---- calls by reference agree with calls by place

-- the value of a reference that has a place
pub standing : (t : Heap) (qs : List ℕ) (old : List ValueOrError) (h p : ℕ) → reference_values t qs ≡ old → IsPlace t qs h p
    → slice_get old h ≡ Some (value (value_in (heap_values t) p))
standing t qs old h p e a = ap (λ vs. slice_get vs h) (sym e) ∙ a.value_is

pub push_due : {t : Heap} {qs : List ℕ} {old : List ValueOrError} {l x p q : ℕ} → reference_values t qs ≡ old → IsPlace t qs l p → IsPlace t qs x q
    → Due (pushed (slice_get old l) (slice_get old x)) (push_of (value_in (heap_values t) p) (value_in (heap_values t) q))
push_due e a b = record { same = ap₂ pushed (standing _ _ _ _ _ e a) (standing _ _ _ _ _ e b); appends = grind arith }

pub join_due : {t : Heap} {qs : List ℕ} {old : List ValueOrError} {a b p q : ℕ} → reference_values t qs ≡ old → IsPlace t qs a p → IsPlace t qs b q
    → Due (joined (slice_get old a) (slice_get old b)) (join_of (value_in (heap_values t) p) (value_in (heap_values t) q))
join_due e a b = record { same = ap₂ joined (standing _ _ _ _ _ e a) (standing _ _ _ _ _ e b); appends = grind arith }

-- the part of a list or map by reference
pub part_is : (t : Heap) (qs : List ℕ) (old : List ValueOrError) (h p i : ℕ) (part : Option Value) → reference_values t qs ≡ old → IsPlace t qs h p
    → slice_get (parts_of (value_in (heap_values t) p)) i ≡ part → part_at (slice_get old h) i ≡ part
part_is t qs old h p i part e a k = ap (λ o. part_at o i) (standing t qs old h p e a) ∙ k

-- the value of a reference that has no place
pub none_at : (t : Heap) (qs : List ℕ) (h : ℕ) → (h ≡ 0 → ⊥) → place_at qs h ≡ None → slice_get (reference_values t qs) h ≡ None
none_at t qs h n e = grind (arith, values_get)

pub no_text : (t : Heap) (qs : List ℕ) (h : ℕ) → place_at qs h ≡ None → text_at (slice_get (reference_values t qs) h) ≡ None
no_text t qs h e = grind (arith, values_get)

within : (vs : List Value) (rs : List ℕ) (h : ℕ) → h < length (values_at vs rs) → slice_get rs h ≡ None → ⊥
within vs [] h l e = absurd (omega arith)
within vs (r ∷ rs) zero l e = absurd (cc)
within vs (r ∷ rs) (suc h) l e = within vs rs h (omega arith) e

-- a reference without a place is the error's
pub no_place : (t : Heap) (qs : List ℕ) (h : ℕ) → h < length (reference_values t qs) → place_at qs h ≡ None → slice_get (reference_values t qs) h ≡ Some error
no_place t qs h l e = grind (arith, within)

pub no_depth : (t : Heap) (qs : List ℕ) (h : ℕ) → h < length (reference_values t qs) → place_at qs h ≡ None
    → Some 0 ≡ option_map result_depth (slice_get (reference_values t qs) h)
no_depth t qs h l e = ap (option_map result_depth) (sym (no_place t qs h l e))

module _ {t : Heap} {qs : List ℕ} {old : List ValueOrError} where
  -- the key of a map by reference
  pub key_due : {h p : ℕ} (i : ℕ) (s : List ℕ) → reference_values t qs ≡ old → IsPlace t qs h p
      → key_in (value_in (heap_values t) p) i ≡ Some s → Due (key_at (slice_get old h) i) (Some (kind.text s))
  key_due i s e a k = record { same = ap (λ o. key_at o i) (standing _ _ _ _ _ e a) ∙ ap (option_map kind.text) k; appends = refl }

  -- ---- maps

  pub put_due : {m k x p q r : ℕ} → reference_values t qs ≡ old → IsPlace t qs m p → IsPlace t qs k q
      → IsPlace t qs x r → Due (put_in (slice_get old m) (slice_get old k) (slice_get old x))
      (put_values (value_in (heap_values t) p) (value_in (heap_values t) q) (value_in (heap_values t) r))
  put_due e a b c = record { same = rw (standing _ _ _ _ _ e a, standing _ _ _ _ _ e b, standing _ _ _ _ _ e c); appends = grind arith }
