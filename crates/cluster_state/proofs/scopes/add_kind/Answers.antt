-- Proof obligations of `scopes::add_kind`.
use Rattle.cluster_state.proofs.Prelude.{◌∙◌, Some, None, ap, items_view, some_item, if◌then◌else◌}
use Rattle.std.specs.Option.{option_or}
use Rattle.cluster_state.specs.Items.{group_in}
use Rattle.cluster_state.specs.Scopes.{version_if}
use Rattle.cluster_state.specs.Serving.{is_served}
use Rattle.cluster_state.proofs.Scoped.{kind_added, lent_group}
use Rattle.cluster_state.proofs.scopes.add_kind.Goals as goal

pub returns : goal.returns
returns c k =
    kind_added k c.args.kind c.args.scope c.args.scopes.now c.add_versions.new.served _ _
    (c.in_ok-_old.ensures.updates.0 (lent_group (group_in k.api_version) k.kind))
    (c.remove.ensures.updates.0 (lent_group (group_in k.api_version) k.kind))
    (λ v. c.in_ok-add_versions.ensures v
    ∙ ap (λ o. option_or o (if some_item (is_served v) (items_view c.args.kind.versions.now.items) then Some c.args.scope else None))
    (c.versions_or_none-served.ensures v ∙ ap (λ o. version_if o v) c.remove.ensures.value))
