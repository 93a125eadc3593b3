-- Proof obligations of `cluster::listing::read_lists`.
use Rattle.gatekeeper_runner.proofs.Prelude.{◌∙◌, refl, is_err}
use Rattle.gatekeeper_runner.specs.Cluster.Starting.{no_memory, none}
use Rattle.gatekeeper_runner.proofs.OfClusters.Lists.{lists_more, no_list_at}
use Rattle.gatekeeper_runner.proofs.cluster.listing.read_lists.Goals as goal

pub loop-name-init : goal.loop-name-init
loop-name-init g c = record { hold = rw c.new-lists.ensures.items none; known = refl }

pub returns-in_err-list-clause-lists : goal.returns-in_err-list-clause-lists
returns-in_err-list-clause-lists g c =
    rw (is_err c.from_residual.ensures.1)
    (no_list_at _ _ _ c.name-item.result _ c.loop-name-test.true c.name-item.is c.loop-name.invariant.hold _ (rw (c.as_str.ensures.value, c.loop-name.invariant.known) at c.in_err-list.ensures.list))

pub returns-in_err-push-clause-lists : goal.returns-in_err-push-clause-lists
returns-in_err-push-clause-lists g c =
    rw (is_err c.from_residual-in_err-push.ensures.1)
    (no_list_at _ _ _ c.name-item.result _ c.loop-name-test.true c.name-item.is c.loop-name.invariant.hold _ no_memory)

pub loop-name-preserved : goal.loop-name-preserved
loop-name-preserved g c = record {
  hold = lists_more _ _ _ c.name-item.result _ c.loop-name-test.true c.name-item.is c.loop-name.invariant.hold _ c.in_ok-list.list
      (rw (c.as_str.ensures.value, c.loop-name.invariant.known) at c.in_ok-list.ensures.list) c.in_ok-push.ensures.items;
  known = c.in_ok-list.ensures.known ∙ c.loop-name.invariant.known;
}
