-- Proofs of `policies::starting::gate_of`: the result meets the contract.

use Rattle.gatekeeper_runner.proofs.Prelude.{is_err}
use Rattle.gatekeeper_runner.proofs.OfPolicies.Opened.{unopened_by, untaken_by}
use Rattle.gatekeeper_runner.proofs.policies.starting.gate_of.Goals as goal

pub returns-in_err-gate-in-Profile : goal.returns-in_err-gate-in-Profile
returns-in_err-gate-in-Profile c = rw (c.in-Profile.is, is_err c.from_residual.ensures.1) (unopened_by _ _ c.in_err-gate-in-Profile.ensures.compiles)

pub returns-in_err-opened-in-Wide : goal.returns-in_err-opened-in-Wide
returns-in_err-opened-in-Wide c = rw (c.in-Wide.is, is_err c.from_residual-in_err-opened-in-Wide.ensures.1) (untaken_by _ _ _ c.in_err-opened-in-Wide.ensures.opens)

pub returns-in_ok-gate-in-Profile : goal.returns-in_ok-gate-in-Profile
returns-in_ok-gate-in-Profile c = rw c.in-Profile.is (c.in_ok-gate-in-Profile.ensures.compiles, c.in_ok-gate-in-Profile.ensures.one)

pub returns-in_ok-opened-in-Wide : goal.returns-in_ok-opened-in-Wide
returns-in_ok-opened-in-Wide c =
    let opens = c.in_ok-opened-in-Wide.ensures.opens in
    rw c.in-Wide.is (((_, opens.is_said), opens.compiled), c.in_ok-opened-in-Wide.ensures.one)
