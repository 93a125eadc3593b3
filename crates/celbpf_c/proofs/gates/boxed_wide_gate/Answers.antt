-- Proofs of `gates::boxed_wide_gate`: the result meets the contract.

use Rattle.admission.proofs.Results.{is_err}
use Rattle.celbpf_calls.proofs.WideGates.{gate_of}
use Rattle.celbpf_c.proofs.gates.boxed_wide_gate.Goals as goal

pub returns-in_err-opened : goal.returns-in_err-opened
returns-in_err-opened c = rw (is_err c.from_residual.ensures.1) c.in_err-opened.ensures.opens

pub returns-in-Ok : goal.returns-in-Ok
returns-in-Ok c = rw c.in-Ok.ensures (gate_of _ c.in_ok-opened.opened c.in_ok-opened.ensures.opens c.in_ok-opened.ensures.one)

pub returns : goal.returns
returns c = tt
