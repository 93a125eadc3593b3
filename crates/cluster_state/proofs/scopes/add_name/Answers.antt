-- Proof obligations of `scopes::add_name`.
use Rattle.cluster_state.proofs.Prelude.{◌∙◌, sym}
use Rattle.cluster_state.proofs.Scoped.{lent_version, name_added}
use Rattle.cluster_state.proofs.scopes.add_name.Goals as goal

pub returns-in_ok-_old : goal.returns-in_ok-_old
returns-in_ok-_old c v =
    name_added c.args.name.now v c.args.served.now c.args.scope _ (sym c.contains_key.ensures ∙ c.if-not-contains_key.true)
    (c.in_ok-_old.ensures.updates.0 (lent_version v))
