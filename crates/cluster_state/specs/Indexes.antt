-- Bindings by the names of their policies.
use Rattle.std.specs.Prelude.{◌≡◌, ℕ, Vec, List, [], bytes_eq, slice_get}
use Rattle.std.specs.BTreeMap.{BTreeMap, get_by}
use Rattle.std.specs.Borrow.{Bor}
use Rattle.std.specs.Cmp.Lexicographic.{slice_cmp}
use Rattle.std.specs.List.{filter, filter_map}
use Rattle.std.specs.Option.{option_map_or}
use Rattle.std.specs.Ordering.{nat_cmp}
use Rattle.std.specs.declared.alloc.Global.{Global}
use Rattle.cluster_state.specs.declared.binding.Binding.{Binding}

-- the places that an index has for a name
abbrev pub places_for : BTreeMap (Bor (List ℕ)) (Vec ℕ Global) → List ℕ → List ℕ
places_for index name = option_map_or (λ v. v.items) (get_by (λ k. slice_cmp nat_cmp name k.now) index) []

-- the bindings at these places
abbrev pub bindings_at : List Binding → List ℕ → List Binding
bindings_at bs places = filter_map (slice_get bs) places

-- the bindings of the policy with this name
abbrev pub bound_to : List ℕ → List Binding → List Binding
bound_to name bs = filter (λ b. bytes_eq b.policy_name.now name) bs

-- the index finds these of all bindings
abbrev pub FindsBindings : BTreeMap (Bor (List ℕ)) (Vec ℕ Global) → List Binding → List Binding → Type 0
FindsBindings index all some = (name : List ℕ) → bindings_at all (places_for index name) ≡ bound_to name some
