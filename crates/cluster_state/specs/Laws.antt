-- Laws of states.
use Rattle.std.specs.Prelude.{◌≡◌, List, ◌∷◌, ◌++◌, Ok}
use Rattle.cluster_state.specs.Items.{Item}
use Rattle.cluster_state.specs.Params.{known_kind}
use Rattle.cluster_state.specs.Policies.{ParamKind}
use Rattle.cluster_state.specs.State.{AreObjects, ClusterState, items_then}

-- two states that differ only in the order of their items
pub record IsReordered (s t : ClusterState) : Type 0 where
  pub objects : AreObjects s.objects t.objects
  pub bindings : t.bindings ≡ s.bindings
  pub policies : t.policies ≡ s.policies
  pub kinds : (k : ParamKind) → known_kind k t.items t.objects ≡ known_kind k s.items s.objects

-- two adjacent items may be exchanged
abbrev pub ItemsHaveNoOrder : Type 0
ItemsHaveNoOrder =
    (before : List Item) (i j : Item) (after : List Item) (s : ClusterState) → items_then (Ok (before ++ i ∷ j ∷ after)) ≡ Ok s
    → (t : ClusterState) × (items_then (Ok (before ++ j ∷ i ∷ after)) ≡ Ok t) × IsReordered s t
