-- Loop invariants of `scopes::add_versions`.
use Rattle.cluster_state.proofs.Prelude.{◌≡◌, ℕ, List, Some, None, drop, items_view, some_item, if◌then◌else◌}
use Rattle.std.specs.Option.{option_or}
use Rattle.cluster_state.specs.Scopes.{version_at}
use Rattle.cluster_state.specs.Serving.{is_served}
use Rattle.cluster_state.proofs.scopes.add_versions.Given as goal

abbrev pub invariant-loop-version : goal.invariant-loop-version
invariant-loop-version l = (v : List ℕ)
    → option_or (version_at l.served v) (if some_item (is_served v) (items_view (drop l.version-index l.version-items)) then Some l.scope else None)
    ≡ option_or (version_at l.initial.served v) (if some_item (is_served v) (items_view l.version-items) then Some l.scope else None)
