-- Proof obligations of `cluster::listed::add_one`.
use Rattle.gatekeeper_runner.proofs.Prelude.{◌∙◌, ◌+◌, Some, ap, unwrap_or}
use Rattle.std.proofs.Common.{cond}
use Rattle.std.specs.BTreeMap.{get_by}
use Rattle.gatekeeper_runner.specs.Cluster.Counts.{kind_cmp}
use Rattle.gatekeeper_runner.proofs.OfClusters.Counted.{is_kind, lent_kind, one_counted}
use Rattle.gatekeeper_runner.proofs.cluster.listed.add_one.Goals as goal

pub returns : goal.returns
returns c k =
    one_counted k c.args.version.now c.args.kind.now c.args.counts.now c.in_ok-count.count _
    (c.in_ok-_old.ensures.updates.0 (lent_kind k)
    ∙ ap (λ b. cond b (Some c.in_ok-count.count) (get_by (kind_cmp k) c.args.counts.now)) (is_kind k c.args.version.now c.args.kind.now))
    (c.in_ok-count.ensures ∙ ap (λ o. unwrap_or o 0 + 1) (c.copied.ensures ∙ c.get.ensures.value))
