-- The scopes of the kinds that definitions serve, in an index.
use mathlib.Core.Bool.{Bool-set}
use mathlib.Core.HLevel.{collapsible→set}
use mathlib.Core.Path.{◌∙◌, ap, refl, sym}
use Rattle.std.specs.Prelude.{◌≡◌, ◌&&◌, ℕ, Bool, true, false, bytes_eq, List, [], ◌∷◌, Option, Some, None, codes, option_and_then, if◌then◌else◌}
use Rattle.std.specs.BTreeMap.{BTreeMap, get_by}
use Rattle.std.specs.Borrow.{Bor}
use Rattle.std.specs.Cmp.Lexicographic.{slice_cmp}
use Rattle.std.specs.Option.{option_or}
use Rattle.std.specs.Ordering.{nat_cmp}
use Rattle.serde_json.specs.Data as json
use Rattle.serde_json.specs.View.{items_view}
use Rattle.value_store.specs.Documents.{equals_string}
use Rattle.json_fields.specs.Fields.{field, field_of}
use Rattle.cluster_state.specs.Items.{group_in}
use Rattle.cluster_state.specs.Objects.{Named}
use Rattle.cluster_state.specs.Policies.{ParamKind}
use Rattle.cluster_state.specs.Serving.{is_served, scope_of, serves_in, some_in, some_item, version_in}
use Rattle.cluster_state.specs.Shapes.{shape_cmp}
use Rattle.cluster_state.specs.declared.param_scope.ParamScope.{ParamScope}
use Rattle.cluster_state.specs.declared.param_scope.ParamScope.TheVariants.{Namespaced, Cluster}
use Rattle.cluster_state.specs.declared.scopes.ServedKind.{ServedKind}

-- the scope with each version that is served; there is none if its name is not known
abbrev pub Versions : Type 0
Versions = BTreeMap (Bor (List ℕ)) (Option ParamScope)

-- the versions of each group and kind
abbrev pub Scopes : Type 0
Scopes = BTreeMap (Bor (List ℕ) × Bor (List ℕ)) Versions

-- the scope of a version
abbrev pub version_at : Versions → List ℕ → Option (Option ParamScope)
version_at m version = get_by (λ k. slice_cmp nat_cmp version k.now) m

-- the scope of a version in an index, if it has versions
abbrev pub version_if : Option Versions → List ℕ → Option (Option ParamScope)
version_if o version = option_and_then (λ m. version_at m version) o

-- the scope of a version of a group and kind
abbrev pub found_at : Scopes → List ℕ → List ℕ → List ℕ → Option (Option ParamScope)
found_at m group kind version = version_if (get_by (shape_cmp group kind) m) version

-- the scope that the index has for a kind
abbrev pub scope_at : Scopes → ParamKind → Option (Option ParamScope)
scope_at m k = found_at m (group_in k.api_version) k.kind (version_in k.api_version)

-- the scope of a kind by a definition with this specification, if it serves the kind
abbrev pub scope_by_spec : ParamKind → Option json.Data → Option (Option ParamScope)
scope_by_spec k spec = if serves_in k spec then Some (scope_of (field_of (codes "scope") spec)) else None

-- the scope of a kind by the first definition that serves it
abbrev pub first_scope : ParamKind → Named → Option (Option ParamScope)
first_scope k [] = None
first_scope k (o ∷ os) = option_or (scope_by_spec k (field (codes "spec") o.1)) (first_scope k os)

-- the items of an array
abbrev pub items_of : Option json.Data → Option json.Items
items_of (Some (json.array ds)) = Some ds
items_of _ = None

-- one of these versions is that of the kind, and served
abbrev pub serves_version : ParamKind → Option json.Data → Bool
serves_version k versions = some_in (is_served (version_in k.api_version)) versions

-- a specification that has this group serves the kind
abbrev pub serves_with : ParamKind → List ℕ → Option json.Data → Bool
serves_with k group spec =
    bytes_eq group (group_in k.api_version) && equals_string (field_of (codes "kind") (field_of (codes "names") spec)) k.kind
    && serves_version k (field_of (codes "versions") spec)

-- what a definition serves is this kind
abbrev pub is_served_kind : ParamKind → ServedKind → Bool
is_served_kind k s =
    bytes_eq s.group.now (group_in k.api_version) && bytes_eq s.kind.now k.kind
    && some_item (is_served (version_in k.api_version)) (items_view s.versions.now.items)

-- a scope as a bool, true if the objects of a kind are in namespaces, and back; so scopes have unique equality proofs
abbrev to_bool : ParamScope → Bool
to_bool Namespaced = true
to_bool Cluster = false

abbrev of_bool : Bool → ParamScope
of_bool true = Namespaced
of_bool false = Cluster

back : (s : ParamScope) → of_bool (to_bool s) ≡ s
back Namespaced = refl
back Cluster = refl

pub ParamScope-set : IsSet ParamScope
ParamScope-set =
    collapsible→set (λ x y p. sym (back x) ∙ ap of_bool (ap to_bool p) ∙ back y)
    (λ x y p q. ap (λ z. sym (back x) ∙ ap of_bool z ∙ back y) (Bool-set (to_bool x) (to_bool y) (ap to_bool p) (ap to_bool q)))

-- the index has the scopes by these definitions
abbrev pub AreScopes : Scopes → Named → Type 0
AreScopes m os = (k : ParamKind) → scope_at m k ≡ first_scope k os
