-- Proof obligations of `cluster::telling::policies_text`.
use Rattle.gatekeeper_runner.proofs.Prelude.{◌∙◌, ◌++◌, ap, map}
use Rattle.serde_json.specs.View.{view}
use Rattle.gatekeeper_runner.specs.Cluster.Telling.{cause_of, none, note_lines, policy_line}
use Rattle.gatekeeper_runner.proofs.OfClusters.Told.{told_all, told_more}
use Rattle.gatekeeper_runner.proofs.cluster.telling.policies_text.Goals as goal

pub loop-gate-init : goal.loop-gate-init
loop-gate-init c l s of are = rw c.new-text.ensures.items none

pub loop-gate-preserved : goal.loop-gate-preserved
loop-gate-preserved c l s of are =
    told_more l _ s _ are _ _ (c.loop-gate.invariant l s of are) c.gate-item.result _ _ c.loop-gate-test.true c.gate-item.is
    (rw c.as_slice.ensures.value at c.in_ok-extend_from_slice.ensures.items)
    (λ p gate. c.in_ok-lines.ensures l s p of gate
    ∙ ap (λ lists. policy_line (map view lists) s p (cause_of c.gate-item.result.standing) ++ note_lines p.name c.gate-item.result.left_out.items) c.in_ok-listed.ensures)

pub returns : goal.returns
returns c l s of are = told_all l _ s _ are _ _ (c.loop-gate.invariant l s of are) c.loop-gate-test.false
