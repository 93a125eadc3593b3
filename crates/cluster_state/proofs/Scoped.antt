-- The scopes of kinds, in an index.
use Rattle.cluster_state.proofs.Prelude.{◌≡◌, ◌∙◌, ◌∷◌, ◌+◌, ◌&&◌, ◌||◌, ℕ, Bool, true, false, List, [], Option, Some, None, ap, bytes_eq, cond, drop, get_by, is_eq, is_eq-slice_cmp, is_at, is_some, items_view, length, lookup, nat_cmp, option_map, option_map_or, ordering_then, refl, slice_cmp, some_item, sym, Bor, Named, ParamKind, Value, view, if◌then◌else◌}
use Rattle.std.proofs.Common.{◌<◌, get_or}
use Rattle.std.proofs.lemmas.Bool.{and_parts, true≢false}
use Rattle.std.proofs.lemmas.List.{drop_more}
use Rattle.std.proofs.lemmas.Slice.Eq.{bytes_eq-Decides}
use Rattle.std.specs.BTreeMap.{IsEmpty}
use Rattle.std.specs.Option.{option_or}
use Rattle.std.specs.Prelude.{codes}
use Rattle.serde_json.specs.Data as json
use Rattle.json_fields.specs.Fields.{field, field_of, text_of}
use Rattle.value_store.specs.Documents.{equals_string}
use Rattle.cluster_state.specs.Items.{group_in}
use Rattle.cluster_state.specs.Scopes.{Scopes, Versions, first_scope, is_served_kind, items_of, scope_at, scope_by_spec, serves_version, serves_with, version_at, version_if}
use Rattle.cluster_state.specs.Serving.{is_served, is_true, scope_of, serves_in, some_in, version_in}
use Rattle.cluster_state.specs.Shapes.{shape_cmp}
use Rattle.cluster_state.specs.declared.param_scope.ParamScope.{ParamScope}
use Rattle.cluster_state.specs.declared.scopes.ServedKind.{ServedKind}
use Rattle.cluster_state.proofs.Placed.{two_then}

-- ---- options

pub or_none : {A : Type 0} (o : Option A) → option_or o None ≡ o
or_none None = refl
or_none (Some x) = refl

or_or : {A : Type 0} (a b c : Option A) → option_or (option_or a b) c ≡ option_or a (option_or b c)
or_or None b c = refl
or_or (Some x) b c = refl

or_either : {A : Type 0} (b c : Bool) (x : A) → option_or (if b then Some x else None) (if c then Some x else None) ≡ (if b || c then Some x else None)
or_either true c x = refl
or_either false c x = refl

-- if nothing is served, nothing is added
pub or_unless : {A : Type 0} (b : Bool) (o : Option A) (x : A) → b ≡ false → o ≡ option_or o (if b then Some x else None)
or_unless b o x e = sym (ap (λ c. option_or o (if c then Some x else None)) e ∙ or_none o)

pub and_false : (b : Bool) → (b && false) ≡ false
and_false true = refl
and_false false = refl

-- ---- texts

pub by_text : (o : Option json.Data) (t : List ℕ) → equals_string o t ≡ option_map_or (λ s. bytes_eq s t) (text_of o) false
by_text None t = refl
by_text (Some json.null) t = refl
by_text (Some (json.boolean b)) t = refl
by_text (Some (json.number n)) t = refl
by_text (Some (json.string s)) t = refl
by_text (Some (json.array ds)) t = refl
by_text (Some (json.object ms)) t = refl

pub by_items : (p : json.Data → Bool) (o : Option json.Data) → some_in p o ≡ option_map_or (some_item p) (items_of o) false
by_items p None = refl
by_items p (Some json.null) = refl
by_items p (Some (json.boolean b)) = refl
by_items p (Some (json.number n)) = refl
by_items p (Some (json.string s)) = refl
by_items p (Some (json.array ds)) = refl
by_items p (Some (json.object ms)) = refl

same_text : (a b : List ℕ) → bytes_eq a b ≡ true → a ≡ b
same_text a b e = (bytes_eq-Decides a b).0 e

-- ---- a version

pub seen_name : (r : Option (Bor (List ℕ))) (v : List ℕ) → option_map_or (λ s. bytes_eq s.now v) r false ≡ option_map_or (λ s. bytes_eq s v) (option_map (λ s. s.now) r) false
seen_name None v = refl
seen_name (Some s) v = refl

and_true : (b : Bool) → (b && true) ≡ b
and_true true = refl
and_true false = refl

-- the name of a version that is served
pub name_served : (d : json.Data) (v : List ℕ) (t : Option (List ℕ)) → t ≡ text_of (field (codes "name") d) → is_true (field (codes "served") d) ≡ true
    → option_map_or (λ s. bytes_eq s v) t false ≡ is_served v d
unfolding is_served
name_served d v t name served =
    ap (λ x. option_map_or (λ s. bytes_eq s v) x false) name ∙ sym (by_text (field (codes "name") d) v)
    ∙ sym (ap (λ b. equals_string (field (codes "name") d) v && b) served ∙ and_true (equals_string (field (codes "name") d) v))

pub not_served : (d : json.Data) (v : List ℕ) → is_true (field (codes "served") d) ≡ false → false ≡ is_served v d
unfolding is_served
not_served d v served = sym (ap (λ b. equals_string (field (codes "name") d) v && b) served ∙ and_false (equals_string (field (codes "name") d) v))

-- a name as a key of the code's map
abbrev pub lent_version : List ℕ → Bor (List ℕ)
lent_version name = record { ref_ptr = (0, 0); now = name }

some_or : {A : Type 0} (o p : Option A) → is_some o ≡ true → o ≡ option_or o p
some_or (Some x) p e = refl
some_or None p e = absurd (true≢false (sym e))

kept_by : (b : Bool) (name v : List ℕ) (m : Versions) (scope : Option ParamScope) → (b ≡ true → name ≡ v) → is_some (version_at m name) ≡ true
    → version_at m v ≡ option_or (version_at m v) (if b then Some scope else None)
kept_by true name v m scope same has = some_or (version_at m v) (Some scope) (ap (λ n. is_some (version_at m n)) (sym (same refl)) ∙ has)
kept_by false name v m scope same has = sym (or_none (version_at m v))

-- a name that has a scope keeps it
pub name_kept : (name v : List ℕ) (m : Versions) (scope : Option ParamScope) → is_some (version_at m name) ≡ true
    → version_at m v ≡ option_or (version_at m v) (if bytes_eq name v then Some scope else None)
name_kept name v m scope has = kept_by (bytes_eq name v) name v m scope (same_text name v) has

none_or : {A : Type 0} (o p : Option A) → is_some o ≡ false → p ≡ option_or o p
none_or (Some x) p e = absurd (true≢false e)
none_or None p e = refl

added_by : (b : Bool) (name v : List ℕ) (m : Versions) (scope : Option ParamScope) → (b ≡ true → name ≡ v) → is_some (version_at m name) ≡ false
    → cond b (Some scope) (version_at m v) ≡ option_or (version_at m v) (if b then Some scope else None)
added_by true name v m scope same has = none_or (version_at m v) (Some scope) (ap (λ n. is_some (version_at m n)) (sym (same refl)) ∙ has)
added_by false name v m scope same has = sym (or_none (version_at m v))

-- a name that has none gets it
pub name_added : (name v : List ℕ) (m : Versions) (scope : Option ParamScope) (new : Option (Option ParamScope)) → is_some (version_at m name) ≡ false
    → new ≡ cond (is_eq (slice_cmp nat_cmp name v)) (Some scope) (version_at m v)
    → new ≡ option_or (version_at m v) (if bytes_eq name v then Some scope else None)
name_added name v m scope new has is =
    is ∙ ap (λ b. cond b (Some scope) (version_at m v)) (is_eq-slice_cmp name v) ∙ added_by (bytes_eq name v) name v m scope (same_text name v) has

-- one more version of a list
pub version_more : (vs : List Value) (i : ℕ) (d : Value) (v : List ℕ) (scope : Option ParamScope) (m new : Option (Option ParamScope)) (total : Option (Option ParamScope))
    → i < length vs → d ≡ get_or vs i d
    → option_or m (if some_item (is_served v) (items_view (drop i vs)) then Some scope else None) ≡ total
    → new ≡ option_or m (if is_served v (view d) then Some scope else None)
    → option_or new (if some_item (is_served v) (items_view (drop (i + 1) vs)) then Some scope else None) ≡ total
version_more vs i d v scope m new total within is go added =
    let rest = some_item (is_served v) (items_view (drop (i + 1) vs)) in
    let first : items_view (drop i vs) ≡ json.item (view d) (items_view (drop (i + 1) vs)) =
    ap items_view (drop_more vs i d within ∙ ap (λ x. x ∷ drop (i + 1) vs) (sym is)) in
    ap (λ o. option_or o (if rest then Some scope else None)) added
    ∙ or_or m (if is_served v (view d) then Some scope else None) (if rest then Some scope else None)
    ∙ ap (option_or m) (or_either (is_served v (view d)) rest scope)
    ∙ ap (λ ds. option_or m (if some_item (is_served v) ds then Some scope else None)) (sym first)
    ∙ go

-- ---- a kind

-- a group and a kind as a key of the code's map
abbrev pub lent_group : List ℕ → List ℕ → Bor (List ℕ) × Bor (List ℕ)
lent_group group kind = (record { ref_ptr = (0, 0); now = group }, record { ref_ptr = (0, 0); now = kind })

-- the order of keys finds the place of a group and kind
is_place : (g n group kind : List ℕ) → is_eq (ordering_then (slice_cmp nat_cmp g group) (slice_cmp nat_cmp n kind)) ≡ (bytes_eq g group && bytes_eq n kind)
is_place g n group kind =
    two_then (slice_cmp nat_cmp g group) (slice_cmp nat_cmp n kind) ∙ rw (is_eq-slice_cmp g group, is_eq-slice_cmp n kind) refl

same_place : (m : Scopes) (g h a b : List ℕ) → (bytes_eq g h && bytes_eq a b) ≡ true → get_by (shape_cmp g a) m ≡ get_by (shape_cmp h b) m
same_place m g h a b e =
    let parts = and_parts (bytes_eq g h) (bytes_eq a b) e in
    ap (λ x. get_by (shape_cmp x a) m) (same_text g h parts.0) ∙ ap (λ x. get_by (shape_cmp h x) m) (same_text a b parts.1)

refilled : (b c : Bool) (v : List ℕ) (scope : Option ParamScope) (w : Versions) (here o p q : Option Versions)
    → q ≡ cond b (Some w) p → p ≡ cond b None o → (b ≡ true → here ≡ o)
    → version_at w v ≡ option_or (version_if here v) (if c then Some scope else None)
    → version_if q v ≡ option_or (version_if o v) (if b && c then Some scope else None)
refilled true c v scope w here o p q put taken same are =
    ap (λ x. version_if x v) put ∙ are ∙ ap (λ x. option_or (version_if x v) (if c then Some scope else None)) (same refl)
refilled false c v scope w here o p q put taken same are = ap (λ x. version_if x v) (put ∙ taken) ∙ sym (or_none (version_if o v))

and_right : (a b c : Bool) → ((a && b) && c) ≡ (a && b && c)
and_right true b c = refl
and_right false b c = refl

-- a specification without a group, a kind or versions serves no kind
pub no_group : (k : ParamKind) (spec : Option json.Data) → text_of (field_of (codes "group") spec) ≡ None → false ≡ serves_in k spec
unfolding serves_in
no_group k spec e =
    sym (ap (λ b. b && equals_string (field_of (codes "kind") (field_of (codes "names") spec)) k.kind && serves_version k (field_of (codes "versions") spec))
    (by_text (field_of (codes "group") spec) (group_in k.api_version) ∙ ap (λ t. option_map_or (λ s. bytes_eq s (group_in k.api_version)) t false) e))

pub no_kind : (a r : Bool) (o : Option json.Data) (t : List ℕ) → text_of o ≡ None → false ≡ (a && equals_string o t && r)
no_kind a r o t e =
    sym (ap (λ b. a && b && r) (by_text o t ∙ ap (λ x. option_map_or (λ s. bytes_eq s t) x false) e) ∙ ap (λ b. b && r) (and_false a))

pub no_versions : (a b : Bool) (p : json.Data → Bool) (o : Option json.Data) → items_of o ≡ None → false ≡ (a && b && some_in p o)
no_versions a b p o e =
    sym (ap (λ x. a && b && x) (by_items p o ∙ ap (λ x. option_map_or (some_item p) x false) e) ∙ and_false (a && b))

-- its group, its kind and its versions
pub of_group : (k : ParamKind) (spec : Option json.Data) (group : List ℕ) → text_of (field_of (codes "group") spec) ≡ Some group
    → serves_with k group spec ≡ serves_in k spec
unfolding serves_in
of_group k spec group e =
    ap (λ b. b && equals_string (field_of (codes "kind") (field_of (codes "names") spec)) k.kind && serves_version k (field_of (codes "versions") spec))
    (sym (by_text (field_of (codes "group") spec) (group_in k.api_version) ∙ ap (λ t. option_map_or (λ s. bytes_eq s (group_in k.api_version)) t false) e))

pub of_kind : (a r : Bool) (o : Option json.Data) (t kind : List ℕ) → text_of o ≡ Some kind → (a && bytes_eq kind t && r) ≡ (a && equals_string o t && r)
of_kind a r o t kind e = ap (λ b. a && b && r) (sym (by_text o t ∙ ap (λ x. option_map_or (λ s. bytes_eq s t) x false) e))

pub of_versions : (group text due : List ℕ) (b : Bool) (p : json.Data → Bool) (o : Option json.Data) (vs : json.Items) → group ≡ text → items_of o ≡ Some vs
    → (bytes_eq group due && b && some_item p vs) ≡ (bytes_eq text due && b && some_in p o)
of_versions group text due b p o vs e are =
    ap (λ t. bytes_eq t due && b && some_item p vs) e
    ∙ ap (λ x. bytes_eq text due && b && x) (sym (by_items p o ∙ ap (λ x. option_map_or (some_item p) x false) are))

-- the scope of what a specification serves is added
pub spec_added : (k : ParamKind) (spec : Option json.Data) (old new : Option (Option ParamScope)) (here : Bool) (scope : Option ParamScope) → here ≡ serves_in k spec
    → scope ≡ scope_of (field_of (codes "scope") spec) → new ≡ option_or old (if here then Some scope else None) → new ≡ option_or old (scope_by_spec k spec)
spec_added k spec old new here scope serves is added =
    added ∙ ap (λ b. option_or old (if b then Some scope else None)) serves ∙ ap (λ s. option_or old (if serves_in k spec then Some s else None)) is

-- the versions of a kind are added
pub kind_added : (k : ParamKind) (s : ServedKind) (scope : Option ParamScope) (m : Scopes) (w : Versions) (p q : Option Versions)
    → q ≡ cond (is_eq (ordering_then (slice_cmp nat_cmp s.group.now (group_in k.api_version)) (slice_cmp nat_cmp s.kind.now k.kind))) (Some w) p
    → p ≡ cond (is_eq (ordering_then (slice_cmp nat_cmp s.group.now (group_in k.api_version)) (slice_cmp nat_cmp s.kind.now k.kind))) None (get_by (shape_cmp (group_in k.api_version) k.kind) m)
    → ((v : List ℕ) → version_at w v ≡ option_or (version_if (get_by (shape_cmp s.group.now s.kind.now) m) v) (if some_item (is_served v) (items_view s.versions.now.items) then Some scope else None))
    → version_if q (version_in k.api_version) ≡ option_or (scope_at m k) (if is_served_kind k s then Some scope else None)
kind_added k s scope m w p q put taken are =
    let here : Bool = bytes_eq s.group.now (group_in k.api_version) && bytes_eq s.kind.now k.kind in
    let served : Bool = some_item (is_served (version_in k.api_version)) (items_view s.versions.now.items) in
    let at = is_place s.group.now s.kind.now (group_in k.api_version) k.kind in
    refilled here served (version_in k.api_version) scope w (get_by (shape_cmp s.group.now s.kind.now) m) (get_by (shape_cmp (group_in k.api_version) k.kind) m) p q
    (put ∙ ap (λ b. cond b (Some w) p) at)
    (taken ∙ ap (λ b. cond b None (get_by (shape_cmp (group_in k.api_version) k.kind) m)) at)
    (same_place m s.group.now (group_in k.api_version) s.kind.now k.kind)
    (are (version_in k.api_version))
    ∙ ap (λ b. option_or (scope_at m k) (if b then Some scope else None)) (and_right (bytes_eq s.group.now (group_in k.api_version)) (bytes_eq s.kind.now k.kind) served)

-- ---- definitions

-- the scopes by the definitions before `rest` are in the index
pub record ScopesGo (m : Scopes) (all rest : Named) : Type 0 where
  pub left : (k : ParamKind) → option_or (scope_at m k) (first_scope k rest) ≡ first_scope k all

pub scopes_none : (m : Scopes) → IsEmpty m → (k : ParamKind) → scope_at m k ≡ None
scopes_none m e k = ap (λ es. version_if (lookup (is_at (shape_cmp (group_in k.api_version) k.kind)) es) (version_in k.api_version)) e

pub scopes_begin : (m : Scopes) (all : Named) → IsEmpty m → ScopesGo m all all
scopes_begin m all e = record { left = λ k. ap (λ o. option_or o (first_scope k all)) (scopes_none m e k) }

pub scopes_more : (before after : Scopes) (all it rest : Named) (name : List ℕ) (d : json.Data) → ScopesGo before all it → it ≡ (name, d) ∷ rest
    → ((k : ParamKind) → scope_at after k ≡ option_or (scope_at before k) (scope_by_spec k (field (codes "spec") d))) → ScopesGo after all rest
scopes_more before after all it rest name d go is added = record {
  left =
      λ k.
      ap (λ o. option_or o (first_scope k rest)) (added k)
      ∙ or_or (scope_at before k) (scope_by_spec k (field (codes "spec") d)) (first_scope k rest)
      ∙ sym (ap (λ os. option_or (scope_at before k) (first_scope k os)) is)
      ∙ go.left k;
}

pub scopes_end : (m : Scopes) (all it : Named) → ScopesGo m all it → it ≡ [] → (k : ParamKind) → scope_at m k ≡ first_scope k all
scopes_end m all it go is k = sym (or_none (scope_at m k)) ∙ sym (ap (λ os. option_or (scope_at m k) (first_scope k os)) is) ∙ go.left k
