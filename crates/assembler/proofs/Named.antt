-- A map from each label, defined by one line, to the number of slots before that line.
use Rattle.assembler.proofs.Prelude.{◌≡◌, ℕ, ◌+◌, List, [], ◌∷◌, ◌++◌, Option, Some, None, refl, ◌∙◌, arith, true, rules, zero-add, ◌≤◌, sym, ap, subst, append_assoc, append-nil, length, Bool, if◌then◌else◌, bytes_eq-Decides, HasSlots, IsFreeIn, SourceItem, statement, label, jump, item_slots, slots_of, IsFree, names, label_slot_from, label_slot, GivesSlots, NamedAfter}
use Rattle.std.specs.Prelude.{bytes_eq}
use Rattle.assembler.proofs.Ends.{either}

pub free_of : (before : List SourceItem) (labels : List ℕ → Option ℕ) (i : SourceItem) → HasSlots labels before → IsFreeIn labels i → IsFree before i
free_of before labels h0 has free = grind arith

pub slots_snoc : (before : List SourceItem) (i : SourceItem) → slots_of (before ++ (i ∷ [])) ≡ slots_of before + item_slots i
slots_snoc [] i = omega arith
slots_snoc (x ∷ xs) i = let e = slots_snoc xs i in omega (arith, e)

-- the first one that is present
abbrev pub or_else : Option ℕ → Option ℕ → Option ℕ
or_else (Some x) y = Some x
or_else None y = y

abbrev pub slot_if : Bool → ℕ → Option ℕ
slot_if b slot = if b then Some slot else None

pub label_slot_append : (before later : List SourceItem) (slot : ℕ) (q : List ℕ)
    → label_slot_from slot (before ++ later) q ≡ or_else (label_slot_from slot before q) (label_slot_from (slot + slots_of before) later q)
label_slot_append [] later slot q = let e : slot + 0 ≡ slot = omega arith in rw e refl
label_slot_append (x ∷ xs) later slot q = grind (arith, label_slot_append xs later (slot + item_slots x) q)

pub same_name : (name q : List ℕ) → bytes_eq name q ≡ true → name ≡ q
same_name name q e = let h = bytes_eq-Decides name q in search (rules, h, e)

or_none : (o : Option ℕ) → o ≡ or_else o None
or_none h0 = grind (arith, Some)

-- a label that was free gets its slot
named_last : (before : Option ℕ) (i : SourceItem) (q : List ℕ) (labels : List ℕ → Option ℕ) (slot : ℕ) → labels q ≡ before → IsFreeIn labels i
    → (if names i q then Some slot else labels q) ≡ or_else before (slot_if (names i q) slot)
named_last before (statement x) q labels slot e free = e ∙ or_none before
named_last before (jump j name) q labels slot e free = e ∙ or_none before
named_last before (label name) q labels slot e free = search (rules, either, same_name, or_none)

pub slots_after_label : (before : List SourceItem) (i : SourceItem) (old new : List ℕ → Option ℕ) (slot : ℕ) → slot ≡ slots_of before → HasSlots old before
    → IsFreeIn old i → ((q : List ℕ) → new q ≡ (if names i q then Some slot else old q)) → HasSlots new (before ++ (i ∷ []))
slots_after_label before i old new slot s has free step q = grind (arith, named_last, zero-add, label_slot_append)

names_itself : (name : List ℕ) → bytes_eq name name ≡ true
names_itself name = let h = bytes_eq-Decides name name in search (rules, h)

same_label : (i : SourceItem) (q : List ℕ) → names i q ≡ true → i ≡ label q
same_label (statement x) q e = absurd cc
same_label (jump j name) q e = absurd cc
same_label (label name) q e = ap label (same_name name q e)

-- a label with a slot is defined by a line with that many slots before it
pub found : (items : List SourceItem) (from : ℕ) (q : List ℕ) (slot : ℕ) → label_slot_from from items q ≡ Some slot
    → (before : List SourceItem) × NamedAfter items q before × (slot ≡ from + slots_of before)
found [] from q slot e = absurd cc
found (i ∷ is) from q slot e = either (names i q)
    (λ is_it. let here : Some from ≡ Some slot = rw is_it at e in ([], (is, ap (λ x. x ∷ is) (same_label i q is_it)), (let same : from ≡ slot = cc in omega (arith, same))))
    (λ other. let rest = found is (from + item_slots i) q slot (rw other at e) in (i ∷ rest.0, (rest.1.0, ap (λ x. i ∷ x) rest.1.1), (let k = rest.2 in omega (arith, k))))

-- no line defines a label without a slot
pub none_named : (before later : List SourceItem) (from : ℕ) (name : List ℕ) → label_slot_from from (before ++ label name ∷ later) name ≡ None → ⊥
none_named [] later from name e = let k = rw (names_itself name) at e in cc
none_named (i ∷ is) later from name e = either (names i name)
    (λ is_it. let k = rw is_it at e in cc)
    (λ other. none_named is later (from + item_slots i) name (rw other at e))

pub named_none : (items before : List SourceItem) (name : List ℕ) → NamedAfter items name before → label_slot items name ≡ None → ⊥
named_none items before name n e = none_named before n.0 0 name (rw (n.1) at e)

-- the slot of a label that no earlier line defines is the number of slots before its line
pub first_named : (before later : List SourceItem) (name : List ℕ) → label_slot before name ≡ None → label_slot (before ++ label name ∷ later) name ≡ Some (slots_of before)
first_named before later name free = grind (arith, label_slot_append, or_else, zero-add, names_itself)

-- no label is defined twice
abbrev pub Once : List SourceItem → List SourceItem → Type 0
Once before [] = Unit {0}
Once before (i ∷ is) = IsFree before i × Once (before ++ (i ∷ [])) is

pub once_at : (front before later : List SourceItem) (name : List ℕ) → Once front (before ++ label name ∷ later) → label_slot (front ++ before) name ≡ None
once_at front [] later name once = rw (append-nil front) once.0
once_at front (i ∷ before) later name once = let k = once_at (front ++ (i ∷ [])) before later name once.1 in rw append_assoc at k

-- two lines that define a label, each the first to do so, are the same line
same_front : (before again later other : List SourceItem) (from : ℕ) (name : List ℕ) → before ++ label name ∷ later ≡ again ++ label name ∷ other
    → label_slot_from from before name ≡ None → label_slot_from from again name ≡ None → before ≡ again
same_front [] [] later other from name e f g = refl
same_front [] (j ∷ again) later other from name e f g = search (rules, none_named)
same_front (i ∷ before) [] later other from name e f g = search (rules, none_named)
same_front (i ∷ before) (j ∷ again) later other from name e f g =
    let head : i ≡ j = cc in
    let tail : before ++ label name ∷ later ≡ again ++ label name ∷ other = cc in
    let g_i : label_slot_from from (i ∷ again) name ≡ None = subst (λ x. label_slot_from from (x ∷ again) name ≡ None) (sym head) g in
    either (names i name)
    (λ is_it. absurd (let k = rw is_it at f in cc))
    (λ not_it. ap (λ x. x ∷ before) head ∙ ap (λ x. j ∷ x) (same_front before again later other (from + item_slots i) name tail (rw not_it at f) (rw not_it at g_i)))

free_at : (items before : List SourceItem) (name : List ℕ) → Once [] items → NamedAfter items name before → label_slot before name ≡ None
free_at items before name once n = once_at [] before n.0 name (subst (λ x. Once [] x) n.1 once)

-- the slots of labels that are defined once are such a map
pub gives_slots : (items : List SourceItem) → Once [] items → GivesSlots (label_slot items) items
gives_slots items once = record {
  gives = λ name before n. ap (λ x. label_slot x name) n.1 ∙ first_named before n.0 name (free_at items before name once n);
  once = λ name before again n m. same_front before again n.0 m.0 0 name (sym n.1 ∙ m.1) (free_at items before name once n) (free_at items again name once m);
  named = λ name slot e. let h = found items 0 name slot e in (h.0, h.1);
}

longer : (before later : List SourceItem) (i : SourceItem) → length before ≡ length (before ++ i ∷ later) → ⊥
longer [] later i e = cc
longer (x ∷ before) later i e = longer before later i (omega (arith, e))

free_from : (labels : List ℕ → Option ℕ) (items front is : List SourceItem) (name : List ℕ) (o : Option ℕ) → GivesSlots labels items
    → items ≡ front ++ label name ∷ is → label_slot front name ≡ o → o ≡ None
free_from labels items front is name None g e p = refl
free_from labels items front is name (Some slot) g e p =
    let h = found front 0 name slot p in
    let again : NamedAfter items name h.0 = (h.1.0 ++ label name ∷ is, e ∙ ap (λ x. x ++ label name ∷ is) h.1.1 ∙ append_assoc h.0 (label name ∷ h.1.0) (label name ∷ is)) in
    let same : h.0 ≡ front = g.once name h.0 front again (is, e) in
    absurd (longer h.0 h.1.0 (label name) (ap (λ x. length x) (same ∙ h.1.1)))

pub free_of_map : (labels : List ℕ → Option ℕ) (items front is : List SourceItem) (i : SourceItem) → GivesSlots labels items → items ≡ front ++ i ∷ is → IsFree front i
free_of_map labels items front is i g e = grind (arith, free_from)

-- if there is such a map, no label is defined twice
pub once_of : (labels : List ℕ → Option ℕ) (items front is : List SourceItem) → GivesSlots labels items → items ≡ front ++ is → Once front is
once_of labels items front [] g e = tt
once_of labels items front (i ∷ is) g e = (free_of_map labels items front is i g e, once_of labels items (front ++ (i ∷ [])) is g (e ∙ sym (append_assoc front (i ∷ []) is)))

same_place : (labels : List ℕ → Option ℕ) (items : List SourceItem) (q : List ℕ) (o p : Option ℕ) → GivesSlots labels items → labels q ≡ o → label_slot items q ≡ p → o ≡ p
same_place labels items q None None g e f = refl
same_place labels items q (Some s) None g e f = let n = g.named q s e in absurd (named_none items n.0 q n.1 f)
same_place labels items q o (Some slot) g e f = grind (arith, found, zero-add)

-- the map has the slots of the labels
pub has_slots : (labels : List ℕ → Option ℕ) (items : List SourceItem) → GivesSlots labels items → HasSlots labels items
has_slots labels items g q = same_place labels items q (labels q) (label_slot items q) g refl refl

pub slots_append : (before later : List SourceItem) → slots_of (before ++ later) ≡ slots_of before + slots_of later
slots_append [] later = sym (zero-add (slots_of later))
slots_append (i ∷ before) later = let e = slots_append before later in omega (arith, e)

-- no slot is past the last
pub label_slot_bound : (items : List SourceItem) (q : List ℕ) (slot : ℕ) → label_slot items q ≡ Some slot → slot ≤ slots_of items
label_slot_bound items q slot e = grind (arith, found, slots_append)
