-- Proof obligations of `scopes::add_version`.
use Rattle.cluster_state.proofs.Prelude.{◌∙◌, Some, None, ap, if◌then◌else◌}
use Rattle.std.specs.Option.{option_or}
use Rattle.cluster_state.specs.Scopes.{version_at}
use Rattle.cluster_state.proofs.scopes.add_version.Goals as goal

pub returns : goal.returns
returns c v =
    c.in_ok-add_named.ensures v
    ∙ ap (λ b. option_or (version_at c.args.served.now v) (if b then Some c.args.scope else None)) (c.served_name-name.ensures v)
