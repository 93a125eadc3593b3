-- Proof obligations of `cluster::telling::add_front`.
use Rattle.gatekeeper_runner.proofs.Prelude.{◌∙◌, ◌++◌, append_assoc}
use Rattle.gatekeeper_runner.specs.Cluster.Telling.{policy_front}
use Rattle.gatekeeper_runner.proofs.cluster.telling.add_front.Goals as goal

pub returns : goal.returns
unfolding policy_front
returns c =
    c.in_ok-extend_from_slice-2.ensures.items
    ∙ (λ i. c.in_ok-extend_from_slice.ensures.items i ++ c.as_bytes.ensures.value i)
    ∙ append_assoc c.args.line.now.items _ c.args.name.now
