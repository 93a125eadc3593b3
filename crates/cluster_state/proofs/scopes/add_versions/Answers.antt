-- Proof obligations of `scopes::add_versions`.
use Rattle.cluster_state.proofs.Scoped.{version_more}
use Rattle.cluster_state.proofs.scopes.add_versions.Goals as goal

pub loop-version-preserved : goal.loop-version-preserved
loop-version-preserved c v =
    version_more c.deref-version-items.result.now c.loop-version.version-index c.version-item.result v c.args.scope _ _ _ c.loop-version-test.true c.version-item.is
    (c.loop-version.invariant v) (c.in_ok-add_version.ensures v)
