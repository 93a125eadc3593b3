-- The order of the params of a binding.
use Rattle.std.specs.Prelude.{◌≡◌, ℕ, List, Ok, Some, map}
use Rattle.std.specs.Cmp.Lexicographic.{slice_cmp}
use Rattle.std.specs.List.{All}
use Rattle.std.specs.List.Sorted.{IsStrictlySortedBy}
use Rattle.std.specs.Map.{keys_of}
use Rattle.std.specs.Ordering.{nat_cmp}
use Rattle.serde_json.specs.Data as json
use Rattle.cluster_state.specs.Bindings.{ParamRef}
use Rattle.cluster_state.specs.Objects.{Named, object_named}
use Rattle.cluster_state.specs.Params.{KnownKind, params_of, params_place}
use Rattle.cluster_state.specs.State.{ClusterState, state_of}

-- objects are in the order of their names (bytes in UTF-8), each name once
abbrev pub AreByName : Named → Type 0
AreByName os = IsStrictlySortedBy (slice_cmp nat_cmp) (keys_of os)

-- these are the documents of some of the objects, in the order of their names
pub record AreSomeByName (objects : Named) (ds : List json.Data) : Type 0 where
  pub some : Named
  pub are : ds ≡ map (λ o. o.1) some
  pub found : All (λ o. object_named o.0 objects ≡ Some o.1) some
  pub in_order : AreByName some

-- the params of a binding are taken in the order of their names, from the objects of their kind in one namespace
abbrev pub ParamsAreByName : Type 0
ParamsAreByName =
    (lists : List json.Data) (s : ClusterState) (k : KnownKind) (r : ParamRef) (own : List ℕ) (ds : List json.Data)
    → state_of lists ≡ Ok s → params_of s.objects k r own ≡ Ok ds
    → AreSomeByName (s.objects (params_place k.scope k.kind r.namespace own)) ds
