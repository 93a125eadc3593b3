-- What the items of a state show of the kinds of params.
use Rattle.cluster_state.proofs.Prelude.{◌≡◌, ◌∙◌, ◌∷◌, ◌++◌, ◌+◌, ◌&&◌, ◌||◌, ℕ, Bool, true, false, not, List, [], Option, Some, None, ap, bytes_eq, codes, cond, get_by, is_at, is_eq, is_eq-slice_cmp, is_some, length, list_any, lookup, map, map-append, nat_cmp, ordering_then, refl, scope_by, slice_cmp, sym, Bor, CodeItem, Item, Named, Objects, ParamKind, item_view, if◌then◌else◌}
use Rattle.std.proofs.Common.{◌<◌, ◌==◌, get_or, take}
use Rattle.std.proofs.lemmas.Bool.{and_parts, true≢false}
use Rattle.std.proofs.lemmas.List.{take_more}
use Rattle.std.proofs.lemmas.Slice.Eq.{bytes_eq-Decides}
use Rattle.std.specs.BTreeMap.{IsEmpty}
use Rattle.json_fields.specs.Fields.{field, field_of}
use Rattle.cluster_state.specs.Items.{group_in}
use Rattle.cluster_state.specs.Params.{KnownKind, if_placed, is_in_namespace, is_of_kind, known_kind, scope_by_items, scope_of, serves, with_scope}
use Rattle.cluster_state.specs.Shapes.{Shapes, ShowAll, Shows, differs_from, is_item_in_namespace, is_item_of, is_item_of_other_version, is_of_group, is_spaced, shape_cmp, shape_of, shape_with}
use Rattle.cluster_state.specs.Scopes.{first_scope}
use Rattle.cluster_state.specs.ShapedScopes.{kind_from, scope_or_shown, scope_shown}
use Rattle.cluster_state.specs.State.{definitions}
use Rattle.cluster_state.specs.declared.param_scope.ParamScope.{ParamScope}
use Rattle.cluster_state.specs.declared.param_scope.ParamScope.TheVariants.{Namespaced, Cluster}
use Rattle.std.specs.Option.{option_or}
use Rattle.cluster_state.specs.declared.shape.Shape.{Shape}
use Rattle.cluster_state.proofs.Placed.{two_then}

-- ---- keys

-- a group and a kind as a key of the code's map
abbrev pub lent_place : ParamKind → Bor (List ℕ) × Bor (List ℕ)
lent_place k = (record { ref_ptr = (0, 0); now = group_in k.api_version }, record { ref_ptr = (0, 0); now = k.kind })

-- the order of keys finds the place of an item
pub is_group : (k : ParamKind) (i : CodeItem)
    → is_eq (ordering_then (slice_cmp nat_cmp (group_in i.api_version.now) (group_in k.api_version)) (slice_cmp nat_cmp i.kind.now k.kind)) ≡ is_of_group k i
is_group k i =
    two_then (slice_cmp nat_cmp (group_in i.api_version.now) (group_in k.api_version)) (slice_cmp nat_cmp i.kind.now k.kind)
    ∙ rw (is_eq-slice_cmp (group_in i.api_version.now) (group_in k.api_version), is_eq-slice_cmp i.kind.now k.kind) refl

same_text : (a b : List ℕ) → bytes_eq a b ≡ true → a ≡ b
same_text a b e = (bytes_eq-Decides a b).0 e

same_place : (m : Shapes) (g h a b : List ℕ) → (bytes_eq g h && bytes_eq a b) ≡ true → get_by (shape_cmp g a) m ≡ get_by (shape_cmp h b) m
same_place m g h a b e =
    let parts = and_parts (bytes_eq g h) (bytes_eq a b) e in
    ap (λ x. get_by (shape_cmp x a) m) (same_text g h parts.0) ∙ ap (λ x. get_by (shape_cmp h x) m) (same_text a b parts.1)

kept_or : (b : Bool) (s : Shape) (i : CodeItem) (o here : Option Shape) → s ≡ shape_with here i → (b ≡ true → here ≡ o)
    → cond b (Some s) o ≡ (if b then Some (shape_with o i) else o)
kept_or true s i o here e same = ap Some (e ∙ ap (λ x. shape_with x i) (same refl))
kept_or false s i o here e same = refl

-- an item is added to what is kept
pub item_added : (k : ParamKind) (i : CodeItem) (m : Shapes) (s : Shape) (new : Option Shape) → new ≡ cond (is_of_group k i) (Some s) (shape_of m k)
    → s ≡ shape_with (get_by (shape_cmp (group_in i.api_version.now) i.kind.now) m) i
    → new ≡ (if is_of_group k i then Some (shape_with (shape_of m k) i) else shape_of m k)
item_added k i m s new is e =
    is ∙ kept_or (is_of_group k i) s i (shape_of m k) (get_by (shape_cmp (group_in i.api_version.now) i.kind.now) m) e
    (same_place m (group_in i.api_version.now) (group_in k.api_version) i.kind.now k.kind)

-- ---- what one more item shows

or_false : (b : Bool) → (b || false) ≡ b
or_false true = refl
or_false false = refl

or_true : (b : Bool) → (b || true) ≡ true
or_true true = refl
or_true false = refl

or_left : (a b c : Bool) → ((a || b) || c) ≡ (a || (b || c))
or_left true b c = refl
or_left false b c = refl

any_last : (p : Item → Bool) (is : List Item) (i : Item) → list_any p (is ++ i ∷ []) ≡ (list_any p is || p i)
any_last p [] i = or_false (p i)
any_last p (j ∷ js) i = ap (λ b. p j || b) (any_last p js i) ∙ sym (or_left (p j) (list_any p js) (p i))

-- the tests of an item, by whether its group, name and version are those of the kind
not_here : (g n v : Bool) → (v ≡ true → g ≡ true) → (g && n) ≡ false → (v && n) ≡ false
not_here g n false h e = refl
not_here g false true h e = refl
not_here g true true h e = absurd (true≢false (sym (ap (λ x. x && true) (h refl)) ∙ e))

not_other : (g n v : Bool) → (g && n) ≡ false → (g && n && not v) ≡ false
not_other false n v e = refl
not_other true false v e = refl
not_other true true v e = absurd (true≢false e)

is_other : (g n v : Bool) → (g && n) ≡ true → (g && n && not v) ≡ not v
is_other true true v e = refl
is_other true false v e = absurd (true≢false (sym e))
is_other false n v e = absurd (true≢false (sym e))

right_of : (g n : Bool) → (g && n) ≡ true → n ≡ true
right_of g n e = (and_parts g n e).1

group_by_version : (a b : List ℕ) → bytes_eq a b ≡ true → bytes_eq (group_in a) (group_in b) ≡ true
group_by_version a b e = (bytes_eq-Decides (group_in a) (group_in b)).1 (ap group_in (same_text a b e))

-- a version that differs from the last or from the kind
differs_by : (b d : Bool) (s i k : List ℕ) → bytes_eq i k ≡ b → ((d || not (bytes_eq s k)) || not (bytes_eq i k)) ≡ ((d || not (bytes_eq s i)) || not (bytes_eq i k))
differs_by true d s i k e = ap (λ x. (d || not (bytes_eq s x)) || not (bytes_eq i k)) (sym (same_text i k e))
differs_by false d s i k e =
    ap (λ b. (d || not (bytes_eq s k)) || not b) e ∙ or_true (d || not (bytes_eq s k)) ∙ sym (or_true (d || not (bytes_eq s i)))
    ∙ sym (ap (λ b. (d || not (bytes_eq s i)) || not b) e)

differs_with : (k : ParamKind) (i : CodeItem) (o : Option Shape) → (differs_from k o || not (bytes_eq i.api_version.now k.api_version)) ≡ differs_from k (Some (shape_with o i))
differs_with k i (Some s) = differs_by (bytes_eq i.api_version.now k.api_version) s.differs s.api_version.now i.api_version.now k.api_version refl
differs_with k i None = refl

both_false : (a b : Bool) → (a || b) ≡ false → (a ≡ false) × (b ≡ false)
both_false false b e = (refl, e)
both_false true b e = absurd (true≢false e)

not_false : (b : Bool) → not b ≡ false → b ≡ true
not_false true e = refl
not_false false e = absurd (true≢false e)

spaced_with : (o : Option Shape) (i : CodeItem) → (is_spaced o || not (length i.namespace.now == 0)) ≡ is_spaced (Some (shape_with o i))
spaced_with (Some s) i = refl
spaced_with None i = refl

-- an item of another group or name shows nothing
shows_other : (k : ParamKind) (is : List Item) (i : CodeItem) (o : Option Shape) → Shows k is o → is_of_group k i ≡ false → Shows k (is ++ item_view i ∷ []) o
shows_other k is i o shows apart =
    let g : Bool = bytes_eq (group_in i.api_version.now) (group_in k.api_version) in
    let n : Bool = bytes_eq i.kind.now k.kind in
    let v : Bool = bytes_eq i.api_version.now k.api_version in
    let away : (v && n) ≡ false = not_here g n v (group_by_version i.api_version.now k.api_version) apart in (
      any_last (is_item_of_other_version k) is (item_view i) ∙ ap (λ b. list_any (is_item_of_other_version k) is || b) (not_other g n v apart)
          ∙ or_false (list_any (is_item_of_other_version k) is) ∙ shows.0,
      λ e.
          any_last (is_item_of k) is (item_view i) ∙ ap (λ b. list_any (is_item_of k) is || b) away ∙ or_false (list_any (is_item_of k) is) ∙ shows.1 e,
      λ e.
          any_last (is_item_in_namespace k) is (item_view i) ∙ ap (λ b. list_any (is_item_in_namespace k) is || (b && not (length i.namespace.now == 0))) away
          ∙ or_false (list_any (is_item_in_namespace k) is) ∙ shows.2 e,
    )

-- an item of the group and name shows its version, and whether it is in a namespace
shows_same : (k : ParamKind) (is : List Item) (i : CodeItem) (o : Option Shape) → Shows k is o → is_of_group k i ≡ true
    → Shows k (is ++ item_view i ∷ []) (Some (shape_with o i))
shows_same k is i o shows same =
    let g : Bool = bytes_eq (group_in i.api_version.now) (group_in k.api_version) in
    let n : Bool = bytes_eq i.kind.now k.kind in
    let v : Bool = bytes_eq i.api_version.now k.api_version in
    let parts : differs_from k (Some (shape_with o i)) ≡ false → (differs_from k o ≡ false) × (not v ≡ false) =
    λ e. both_false (differs_from k o) (not v) (differs_with k i o ∙ e) in
    let both : differs_from k (Some (shape_with o i)) ≡ false → (v && n) ≡ true =
    λ e. ap (λ x. x && n) (not_false v (parts e).1) ∙ right_of g n same in (
      any_last (is_item_of_other_version k) is (item_view i) ∙ ap (λ b. list_any (is_item_of_other_version k) is || b) (is_other g n v same)
          ∙ ap (λ b. b || not v) shows.0 ∙ differs_with k i o,
      λ e.
          any_last (is_item_of k) is (item_view i) ∙ ap (λ b. list_any (is_item_of k) is || b) (both e) ∙ or_true (list_any (is_item_of k) is),
      λ e.
          any_last (is_item_in_namespace k) is (item_view i) ∙ ap (λ b. list_any (is_item_in_namespace k) is || (b && not (length i.namespace.now == 0))) (both e)
          ∙ ap (λ b. b || not (length i.namespace.now == 0)) (shows.2 (parts e).0) ∙ spaced_with o i,
    )

shows_either : (b : Bool) (k : ParamKind) (is : List Item) (i : CodeItem) (o : Option Shape) → is_of_group k i ≡ b → Shows k is o
    → Shows k (is ++ item_view i ∷ []) (if b then Some (shape_with o i) else o)
shows_either true k is i o e shows = shows_same k is i o shows e
shows_either false k is i o e shows = shows_other k is i o shows e

-- what is kept shows the items up to the next
pub shows_more : (all : List CodeItem) (n : ℕ) (i : CodeItem) (before after : Shapes) → n < length all → i ≡ get_or all n i → ShowAll before (take n all)
    → ((k : ParamKind) → shape_of after k ≡ (if is_of_group k i then Some (shape_with (shape_of before k) i) else shape_of before k))
    → ShowAll after (take (n + 1) all)
shows_more all n i before after within is shows added k =
    let front : take (n + 1) all ≡ take n all ++ i ∷ [] = take_more all n i within ∙ ap (λ y. take n all ++ y ∷ []) (sym is) in
    rw (added k, front, map-append item_view (take n all) (i ∷ []))
    (shows_either (is_of_group k i) k (map item_view (take n all)) i (shape_of before k) refl (shows k))

pub shows_none : (m : Shapes) → IsEmpty m → ShowAll m []
shows_none m e k =
    let none : shape_of m k ≡ None = ap (λ es. lookup (is_at (shape_cmp (group_in k.api_version) k.kind)) es) e in
    rw none (refl, λ h. refl, λ h. refl)

-- ---- the kind

scope_items : (k : ParamKind) (is : List Item) (t : Option Shape) → list_any (is_of_kind k) is ≡ is_some t → list_any (is_in_namespace k) is ≡ is_spaced t
    → scope_shown t ≡ scope_by_items k is
scope_items k is (Some s) here space =
    ap (λ b. if b then Some Namespaced else Some Cluster) (sym space)
    ∙ sym (ap (λ b. if list_any (is_in_namespace k) is then Some Namespaced else (if b then Some Cluster else None)) here)
scope_items k is None here space =
    sym (ap (λ b. if b then Some Namespaced else (if list_any (is_of_kind k) is then Some Cluster else None)) space ∙ ap (λ b. if b then Some Cluster else None) here)

scope_either : (b : Bool) (x : Option ParamScope) (r : Option (Option ParamScope)) (s : Option Shape)
    → scope_or_shown (option_or (if b then Some x else None) r) s ≡ (if b then x else scope_or_shown r s)
scope_either true x r s = refl
scope_either false x r s = refl

module _ (k : ParamKind) (is : List Item) (s : Option Shape) (shows : Shows k is s) where
  scope_same : differs_from k s ≡ false → (os : Named) → scope_or_shown (first_scope k os) s ≡ scope_by k is os
  scope_same same [] = scope_items k is s (shows.1 same) (shows.2 same)
  scope_same same (o ∷ os) =
      let scope : Option ParamScope = scope_of (field_of (codes "scope") (field (codes "spec") o.1)) in
      scope_either (serves k o.1) scope (first_scope k os) s ∙ ap (λ x. if serves k o.1 then scope else x) (scope_same same os)

unless : (b : Bool) (x y : Option KnownKind) → (b ≡ false → x ≡ y) → (if b then None else x) ≡ (if b then None else y)
unless true x y e = refl
unless false x y e = e refl

-- the kind that the items and the definitions show
pub kind_shown : (k : ParamKind) (is : List Item) (objects : Objects) (s : Option Shape) → Shows k is s
    → kind_from k s (first_scope k (objects definitions)) ≡ known_kind k is objects
kind_shown k is objects s shows =
    let scope : Option ParamScope = scope_by k is (objects definitions) in
    let spaced : Bool = list_any (is_in_namespace k) is in
    unless (differs_from k s) (with_scope k (if_placed (is_spaced s) (scope_or_shown (first_scope k (objects definitions)) s))) (with_scope k (if_placed spaced scope))
    (λ e. ap (λ x. with_scope k (if_placed (is_spaced s) x)) (scope_same k is s shows e (objects definitions)) ∙ ap (λ b. with_scope k (if_placed b scope)) (sym (shows.2 e)))
    ∙ ap (λ b. if b then None else with_scope k (if_placed spaced scope)) (sym shows.0)
