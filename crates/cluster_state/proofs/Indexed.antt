-- Bindings that are found by the names of their policies.
use Rattle.cluster_state.proofs.Prelude.{◌≡◌, ◌∙◌, ◌+◌, ◌++◌, ◌∷◌, ℕ, Bool, true, false, List, [], Option, None, Some, ap, append-nil, bytes_eq, cond, map, option_map_or, refl, sym, Binding, Bor, CodeBinding, binding_view, if◌then◌else◌}
use Rattle.std.proofs.Common.{◌<◌, append_assoc, drop, get_or, length, take}
use Rattle.std.proofs.lemmas.List.{drop_more}
use Rattle.std.proofs.lemmas.List.Elements.{filter-append, filter_map-append}
use Rattle.std.proofs.lemmas.Option.{slice_get-get_or}
use Rattle.std.proofs.lemmas.Slice.Eq.{bytes_eq-Decides}
use Rattle.std.specs.BTreeMap.{BTreeMap}
use Rattle.std.specs.List.{filter_map}
use Rattle.std.specs.Prelude.{Vec, slice_get}
use Rattle.std.specs.declared.alloc.Global.{Global}
use Rattle.cluster_state.proofs.Named.{front_next}
use Rattle.cluster_state.proofs.Placed.{refilled}
use Rattle.cluster_state.specs.Bindings.{bindings_of}
use Rattle.cluster_state.specs.Indexes.{FindsBindings, bindings_at, bound_to, places_for}

same_text : (a b : List ℕ) → bytes_eq a b ≡ true → a ≡ b
same_text a b e = (bytes_eq-Decides a b).0 e

-- ---- places

-- a name as a key of the index
abbrev pub lent_name : List ℕ → Bor (List ℕ)
lent_name name = record { ref_ptr = (0, 0); now = name }

one_more : (b : Bool) (name n : List ℕ) (places : List ℕ → List ℕ) (place : ℕ) (items : List ℕ) → (b ≡ true → name ≡ n) → items ≡ places name ++ place ∷ []
    → (if b then items else places n) ≡ (if b then places n ++ place ∷ [] else places n)
one_more true name n places place items same are = are ∙ ap (λ m. places m ++ place ∷ []) (same refl)
one_more false name n places place items same are = refl

-- a place is added for a name
pub place_added : (name n : List ℕ) (before : BTreeMap (Bor (List ℕ)) (Vec ℕ Global)) (place : ℕ) (w : Vec ℕ Global) (o p q : Option (Vec ℕ Global))
    → q ≡ cond (bytes_eq name n) (Some w) p → p ≡ cond (bytes_eq name n) None o → option_map_or (λ v. v.items) o [] ≡ places_for before n
    → w.items ≡ places_for before name ++ place ∷ []
    → option_map_or (λ v. v.items) q [] ≡ (if bytes_eq name n then places_for before n ++ place ∷ [] else places_for before n)
place_added name n before place w o p q e h old are =
    refilled (λ v. v.items) (bytes_eq name n) w o p q e h
    ∙ ap (λ ps. if bytes_eq name n then w.items else ps) old
    ∙ one_more (bytes_eq name n) name n (places_for before) place w.items (same_text name n) are

-- ---- bindings

kept : (b : Bool) (x : CodeBinding) (xs : List CodeBinding) (ys : List Binding) → map binding_view xs ≡ ys
    → map binding_view (if b then x ∷ xs else xs) ≡ (if b then binding_view x ∷ ys else ys)
kept true x xs ys e = ap (λ l. binding_view x ∷ l) e
kept false x xs ys e = e

pub bound_view : (name : List ℕ) (bs : List CodeBinding) → map binding_view (bound_to name bs) ≡ bindings_of name (map binding_view bs)
bound_view name [] = refl
bound_view name (b ∷ bs) = kept (bytes_eq b.policy_name.now name) b (bound_to name bs) (bindings_of name (map binding_view bs)) (bound_view name bs)

pub seen_view : (bs : List (Bor CodeBinding)) → map (λ b. binding_view b.now) bs ≡ map binding_view (map (λ b. b.now) bs)
seen_view [] = refl
seen_view (b ∷ bs) = ap (λ l. binding_view b.now ∷ l) (seen_view bs)

-- ---- bindings at places

-- the bindings of one place more
pub next_place : (all : List CodeBinding) (places : List ℕ) (i d : ℕ) (acc more total : List CodeBinding) → i < length places
    → acc ++ bindings_at all (drop i places) ≡ total → more ≡ bindings_at all (get_or places i d ∷ []) → (acc ++ more) ++ bindings_at all (drop (i + 1) places) ≡ total
next_place all places i d acc more total within go are =
    let rest = drop (i + 1) places in
    let p = get_or places i d in
    append_assoc acc more (bindings_at all rest)
    ∙ ap (λ m. acc ++ (m ++ bindings_at all rest)) are
    ∙ ap (λ l. acc ++ l) (sym (filter_map-append (slice_get all) (p ∷ []) rest))
    ∙ ap (λ ps. acc ++ bindings_at all ps) (sym (drop_more places i d within))
    ∙ go

-- ---- the index

found_more : (all front : List CodeBinding) (places : List ℕ) (i : ℕ) (x : CodeBinding) (n : List ℕ) (b : Bool) → bytes_eq x.policy_name.now n ≡ b
    → slice_get all i ≡ Some x → bindings_at all places ≡ bound_to n front
    → bindings_at all (if b then places ++ i ∷ [] else places) ≡ bound_to n (front ++ x ∷ [])
found_more all front places i x n true e at has =
    let one : filter_map (slice_get all) (i ∷ []) ≡ x ∷ [] = rw at refl in
    let last : bound_to n (x ∷ []) ≡ x ∷ [] = rw e refl in
    filter_map-append (slice_get all) places (i ∷ []) ∙ ap (λ l. bindings_at all places ++ l) one ∙ ap (λ l. l ++ x ∷ []) has
    ∙ sym (filter-append (λ (b : CodeBinding). bytes_eq b.policy_name.now n) front (x ∷ []) ∙ ap (λ l. bound_to n front ++ l) last)
found_more all front places i x n false e at has =
    let last : bound_to n (x ∷ []) ≡ [] = rw e refl in
    has
    ∙ sym (filter-append (λ (b : CodeBinding). bytes_eq b.policy_name.now n) front (x ∷ []) ∙ ap (λ l. bound_to n front ++ l) last ∙ append-nil (bound_to n front))

-- the index finds one more binding
pub finds_more : (all : List CodeBinding) (i : ℕ) (x : CodeBinding) (before after : BTreeMap (Bor (List ℕ)) (Vec ℕ Global)) → i < length all → x ≡ get_or all i x
    → FindsBindings before all (take i all)
    → ((n : List ℕ) → places_for after n ≡ (if bytes_eq x.policy_name.now n then places_for before n ++ i ∷ [] else places_for before n))
    → FindsBindings after all (take (i + 1) all)
finds_more all i x before after within is finds added n =
    rw (added n, front_next all i x within is)
    (found_more all (take i all) (places_for before n) i x n (bytes_eq x.policy_name.now n) refl (slice_get-get_or all i x within ∙ ap Some (sym is)) (finds n))
