-- Proofs of `policies::starting::open_file`: the result meets the contract.

use Rattle.gatekeeper_runner.proofs.Prelude.{unread, is_err}
use Rattle.gatekeeper_runner.specs.Policies.Starting.{no_memory}
use Rattle.gatekeeper_runner.proofs.policies.starting.open_file.Goals as goal

pub returns-in_err-document-clause-gate : goal.returns-in_err-document-clause-gate
returns-in_err-document-clause-gate g c = rw (is_err c.from_residual.ensures.1) (unread _ c.in_err-document.ensures.read)

pub returns-in_err-gate-clause-gate : goal.returns-in_err-gate-clause-gate
returns-in_err-gate-clause-gate g c =
    rw (is_err c.from_residual-in_err-gate.ensures.1) (c.in_err-gate.ensures _ _ (rw (← c.as_slice.ensures.value) at c.in_ok-document.ensures.read))

pub returns-in_err-label-clause-gate : goal.returns-in_err-label-clause-gate
returns-in_err-label-clause-gate g c = rw (is_err c.from_residual-in_err-label.ensures.1) no_memory

pub returns-clause-gate : goal.returns-clause-gate
returns-clause-gate g c =
    let opens = rw c.as_slice.ensures.value at c.in_ok-gate.ensures in (
      _,
      c.in_ok-document.ensures.read,
      record { policy = opens.0; image = opens.1; label = rw c.as_slice-2.ensures.value at (c.in_ok-label.ensures c.args.language) },
    )
