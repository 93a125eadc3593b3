-- States whose items are in another order.
use Rattle.cluster_state.proofs.Prelude.{◌≡◌, ◌∙◌, ◌∷◌, ◌++◌, Bool, true, false, List, Result, Ok, Err, ap, refl, sym, Binding, Item, Objects, BoundPolicy, Refusal, ClusterState, bindings, bindings_in, bindings_then, items_then, no_objects, policies, policies_in, policies_then, state_with, with_items}
use Rattle.std.proofs.Common.{[], None, Some, codes, if◌then◌else◌, true≢false, ◌||◌}
use Rattle.std.specs.List.{list_any}
use Rattle.json_fields.specs.Fields.{field, field_of}
use Rattle.cluster_state.specs.Objects.{Named}
use Rattle.cluster_state.specs.Params.{if_placed, is_in_namespace, is_of_kind, is_of_other_version, known_kind, scope_by, scope_by_items, scope_of, serves, with_scope}
use Rattle.cluster_state.specs.Policies.{ParamKind}
use Rattle.cluster_state.specs.declared.param_scope.ParamScope.TheVariants.{Cluster, Namespaced}
use Rattle.cluster_state.specs.Laws.{IsReordered}
use Rattle.cluster_state.specs.State.{definitions, if_has_namespace, objects_of}
use Rattle.cluster_state.proofs.Orders.{items_swap, or_swaps}

-- the same state with other items
abbrev reordered : List Item → Result ClusterState Refusal → Result ClusterState Refusal
reordered items (Ok s) = Ok (record s { items = items })
reordered items (Err e) = Err e

with_moved : (items others : List Item) (o : Objects) (bs : List Binding) (ps : Result (List BoundPolicy) Refusal)
    → state_with others o bs ps ≡ reordered others (state_with items o bs ps)
with_moved items others o bs (Ok ps) = refl
with_moved items others o bs (Err e) = refl

then_moved : (items others : List Item) (o : Objects) (bs : Result (List Binding) Refusal)
    → policies_then others o bs ≡ reordered others (policies_then items o bs)
then_moved items others o (Ok bs) = with_moved items others o bs (policies_in bs (o policies))
then_moved items others o (Err e) = refl

moved : (items others : List Item) (o : Result Objects Refusal) → bindings_then others o ≡ reordered others (bindings_then items o)
moved items others (Ok o) = then_moved items others o (bindings_in (o bindings))
moved items others (Err e) = refl

abbrev is_state : Result ClusterState Refusal → Bool
is_state (Ok s) = true
is_state (Err e) = false

-- an item passes, in either order
same_any : (p : Item → Bool) (before : List Item) (i j : Item) (after : List Item)
    → list_any p (before ++ i ∷ j ∷ after) ≡ list_any p (before ++ j ∷ i ∷ after)
same_any p [] i j after = or_swaps (p i) (p j) (list_any p after)
same_any p (b ∷ bs) i j after = ap (λ r. p b || r) (same_any p bs i j after)

same_scope : (k : ParamKind) (items others : List Item) (os : Named) → scope_by_items k items ≡ scope_by_items k others
    → scope_by k items os ≡ scope_by k others os
same_scope k items others [] e = e
same_scope k items others (o ∷ os) e =
    ap (λ z. if serves k o.1 then scope_of (field_of (codes "scope") (field (codes "spec") o.1)) else z) (same_scope k items others os e)

same_kinds : (k : ParamKind) (before : List Item) (i j : Item) (after : List Item) (o : Objects)
    → known_kind k (before ++ i ∷ j ∷ after) o ≡ known_kind k (before ++ j ∷ i ∷ after) o
same_kinds k before i j after o =
    let spaced : List Item → Bool = list_any (is_in_namespace k) in
    ap (λ z. if z then None else with_scope k (if_placed (spaced (before ++ i ∷ j ∷ after)) (scope_by k (before ++ i ∷ j ∷ after) (o definitions))))
    (same_any (is_of_other_version k) before i j after)
    ∙ ap (λ z. if list_any (is_of_other_version k) (before ++ j ∷ i ∷ after) then None else with_scope k (if_placed z (scope_by k (before ++ i ∷ j ∷ after) (o definitions))))
    (same_any (is_in_namespace k) before i j after)
    ∙ ap (λ z. if list_any (is_of_other_version k) (before ++ j ∷ i ∷ after) then None else with_scope k (if_placed (spaced (before ++ j ∷ i ∷ after)) z))
    (same_scope k (before ++ i ∷ j ∷ after) (before ++ j ∷ i ∷ after) (o definitions)
    (ap (λ z. if z then Some Namespaced else (if list_any (is_of_kind k) (before ++ i ∷ j ∷ after) then Some Cluster else None)) (same_any (is_in_namespace k) before i j after)
    ∙ ap (λ z. if list_any (is_in_namespace k) (before ++ j ∷ i ∷ after) then Some Namespaced else (if z then Some Cluster else None)) (same_any (is_of_kind k) before i j after)))

-- the items of a state are those it was read from
abbrev items_in_state : List Item → Result ClusterState Refusal → List Item
items_in_state items (Ok s) = s.items
items_in_state items (Err e) = items

held_with : (items : List Item) (o : Objects) (bs : List Binding) (ps : Result (List BoundPolicy) Refusal) → items_in_state items (state_with items o bs ps) ≡ items
held_with items o bs (Ok ps) = refl
held_with items o bs (Err e) = refl

held_then : (items : List Item) (o : Objects) (bs : Result (List Binding) Refusal) → items_in_state items (policies_then items o bs) ≡ items
held_then items o (Ok bs) = held_with items o bs (policies_in bs (o policies))
held_then items o (Err e) = refl

held : (items : List Item) (o : Result Objects Refusal) → items_in_state items (bindings_then items o) ≡ items
held items (Ok o) = held_then items o (bindings_in (o bindings))
held items (Err e) = refl

own_items : (before : List Item) (i j : Item) (after : List Item) (s : ClusterState) → items_then (Ok (before ++ i ∷ j ∷ after)) ≡ Ok s
    → before ++ i ∷ j ∷ after ≡ s.items
own_items before i j after s h =
    sym (held (before ++ i ∷ j ∷ after) (objects_of (before ++ i ∷ j ∷ after))) ∙ ap (items_in_state (before ++ i ∷ j ∷ after)) h

pub items_have_no_order : (before : List Item) (i j : Item) (after : List Item) (s : ClusterState) → items_then (Ok (before ++ i ∷ j ∷ after)) ≡ Ok s
    → (t : ClusterState) × (items_then (Ok (before ++ j ∷ i ∷ after)) ≡ Ok t) × IsReordered s t
items_have_no_order before i j after s h = by (with_items no_objects (before ++ i ∷ j ∷ after)) refl
  where
    by : (w : Result Objects Refusal) → with_items no_objects (before ++ i ∷ j ∷ after) ≡ w
        → (t : ClusterState) × (items_then (Ok (before ++ j ∷ i ∷ after)) ≡ Ok t) × IsReordered s t
    by (Err e) w = absurd (true≢false (sym (ap is_state (sym (ap (λ x. bindings_then (before ++ i ∷ j ∷ after) (if_has_namespace x)) w) ∙ h))))
    by (Ok r) w = (
      record s { items = before ++ j ∷ i ∷ after },
      ap (λ x. bindings_then (before ++ j ∷ i ∷ after) (if_has_namespace x)) (items_swap before no_objects i j after r w)
          ∙ moved (before ++ i ∷ j ∷ after) (before ++ j ∷ i ∷ after) (if_has_namespace (Ok r))
          ∙ ap (reordered (before ++ j ∷ i ∷ after)) (sym (ap (λ x. bindings_then (before ++ i ∷ j ∷ after) (if_has_namespace x)) w) ∙ h),
      record {
        objects = λ c. refl;
        bindings = refl;
        policies = refl;
        kinds = λ k. sym (same_kinds k before i j after s.objects) ∙ ap (λ z. known_kind k z s.objects) (own_items before i j after s h);
      },
    )
