-- Proof obligations of `scopes::with_versions`.
use Rattle.cluster_state.proofs.Prelude.{bytes_eq, items_view, option_map, sym, view}
use Rattle.cluster_state.specs.Items.{group_in}
use Rattle.cluster_state.specs.Serving.{is_served, version_in}
use Rattle.cluster_state.proofs.Scoped.{no_versions, of_versions}
use Rattle.cluster_state.proofs.scopes.with_versions.Goals as goal

pub returns-in-None : goal.returns-in-None
returns-in-None c k =
    no_versions (bytes_eq c.args.group.now (group_in k.api_version)) (bytes_eq c.args.kind.now k.kind) (is_served (version_in k.api_version))
    (option_map (λ v. view v.now) c.args.versions) (sym c.in-None.ensures)

pub returns-in-Some : goal.returns-in-Some
returns-in-Some c k =
    of_versions c.as_bytes.result.now c.args.group.now (group_in k.api_version) (bytes_eq c.args.kind.now k.kind) (is_served (version_in k.api_version))
    (option_map (λ v. view v.now) c.args.versions) (items_view c.in-Some.versions.now.items) c.as_bytes.ensures.value (sym c.in-Some.ensures)
