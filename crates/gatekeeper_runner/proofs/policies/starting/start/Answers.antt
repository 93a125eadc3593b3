-- Proofs of `policies::starting::start`: the result meets the contract.

use Rattle.gatekeeper_runner.proofs.Prelude.{no_namespace, no_params, no_policy, ready, is_err}
use Rattle.gatekeeper_runner.proofs.policies.starting.start.Goals as goal

pub returns-in_err-gates-clause-keeps : goal.returns-in_err-gates-clause-keeps
returns-in_err-gates-clause-keeps g c = rw (is_err c.from_residual.ensures.1) (no_policy (rw c.as_slice.ensures.value at c.in_err-gates.ensures.gates))

pub returns-in_err-namespace-clause-keeps : goal.returns-in_err-namespace-clause-keeps
returns-in_err-namespace-clause-keeps g c =
    let opened = rw c.as_slice.ensures.value at c.in_ok-gates.ensures.gates in
    rw (is_err c.from_residual-in_err-namespace.ensures.1) (no_namespace opened.2 (rw c.in_ok-gates.ensures.known at c.in_err-namespace.ensures.read))

pub returns-in_err-params-clause-keeps : goal.returns-in_err-params-clause-keeps
returns-in_err-params-clause-keeps g c =
    let opened = rw c.as_slice.ensures.value at c.in_ok-gates.ensures.gates in
    let namespace = rw c.in_ok-gates.ensures.known at c.in_ok-namespace.ensures.read in
    let params = rw (c.in_ok-namespace.ensures.known, c.in_ok-gates.ensures.known) at c.in_err-params.ensures.read in
    rw (is_err c.from_residual-in_err-params.ensures.1) (no_params _ opened.2 namespace params)

pub returns-clause-keeps : goal.returns-clause-keeps
returns-clause-keeps g c =
    let opened = rw c.as_slice.ensures.value at c.in_ok-gates.ensures.gates in
    let namespace = rw c.in_ok-gates.ensures.known at c.in_ok-namespace.ensures.read in
    let params = rw (c.in_ok-namespace.ensures.known, c.in_ok-gates.ensures.known) at c.in_ok-params.ensures.read in
    (opened.0, opened.1, rw (c.new-documents.ensures.namespace, c.new-documents.ensures.params) (ready opened.2 namespace params))
