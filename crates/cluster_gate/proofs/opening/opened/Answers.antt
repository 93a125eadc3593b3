-- Proof obligations of `opening::opened`.
use Rattle.cluster_gate.specs.Gates.{in_profile}
use Rattle.cluster_gate.proofs.Prelude.{IfOk-weaker, policy_view, refl}
use Rattle.cluster_gate.proofs.opening.opened.Goals as goal

pub returns-in-Profile : goal.returns-in-Profile
returns-in-Profile c =
    rw c.in-Profile.is
    (record {
      stands = c.in_ok-standing-in-Profile.ensures (policy_view c.args.policy.now) (rw (← c.as_slice.ensures.value) at c.in_ok-text.ensures);
      leaves = rw c.new.ensures.items (in_profile refl);
    })

pub returns : goal.returns
returns c =
    rw c.in-Wide.is
    (IfOk-weaker c.wide_standing.result _ _ (λ t h. h (policy_view c.args.policy.now) (rw (← c.as_slice-in-Wide.ensures.value) at c.in_ok-text.ensures)) c.wide_standing.ensures)
