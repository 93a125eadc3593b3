-- Which kinds a definition of kinds (CustomResourceDefinition) serves, in which versions and with which scope.
use Rattle.std.specs.Prelude.{◌==◌, ◌&&◌, ◌||◌, ◌+◌, ℕ, Bool, false, List, Option, Some, None, bytes_eq, codes, drop, position, if◌then◌else◌}
use Rattle.serde_json.specs.Data as json
use Rattle.value_store.specs.Documents.{equals_string}
use Rattle.json_fields.specs.Fields.{field, field_of}
use Rattle.cluster_state.specs.Items.{group_in}
use Rattle.cluster_state.specs.Policies.{ParamKind}
use Rattle.cluster_state.specs.declared.param_scope.ParamScope.{ParamScope}
use Rattle.cluster_state.specs.declared.param_scope.ParamScope.TheVariants.{Namespaced, Cluster}

-- the version of an `apiVersion`: the part after its first slash
abbrev pub version_cut : Option ℕ → List ℕ → List ℕ
version_cut (Some at) t = drop (at + 1) t
version_cut None t = t

unfoldable pub version_in : List ℕ → List ℕ
version_in t = version_cut (position (λ c. c == 47) t) t

-- the value is true
abbrev pub is_true : Option json.Data → Bool
is_true (Some (json.boolean b)) = b
is_true _ = false

-- a version that is served
unfoldable pub is_served : List ℕ → json.Data → Bool
is_served version d = equals_string (field (codes "name") d) version && is_true (field (codes "served") d)

-- some item passes
abbrev pub some_item : (json.Data → Bool) → json.Items → Bool
some_item p json.no_items = false
some_item p (json.item d ds) = p d || some_item p ds

abbrev pub some_in : (json.Data → Bool) → Option json.Data → Bool
some_in p (Some (json.array ds)) = some_item p ds
some_in p _ = false

-- a CustomResourceDefinition's specification serves the kind
unfoldable pub serves_in : ParamKind → Option json.Data → Bool
serves_in k spec =
    equals_string (field_of (codes "group") spec) (group_in k.api_version)
    && equals_string (field_of (codes "kind") (field_of (codes "names") spec)) k.kind
    && some_in (is_served (version_in k.api_version)) (field_of (codes "versions") spec)

abbrev pub serves : ParamKind → json.Data → Bool
serves k d = serves_in k (field (codes "spec") d)

-- the scope with this name
abbrev pub scope_named : List ℕ → Option ParamScope
scope_named t =
    if bytes_eq t (codes "Namespaced") then Some Namespaced else (if bytes_eq t (codes "Cluster") then Some Cluster else None)

unfoldable pub scope_of : Option json.Data → Option ParamScope
scope_of (Some (json.string s)) = scope_named s
scope_of _ = None
