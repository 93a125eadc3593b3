-- Proofs of `without_gate::reviewed`: the result meets the contract.

use Rattle.admission.proofs.Standing.{of_one}
use Rattle.celbpf_calls.proofs.without_gate.reviewed.Goals as goal

pub returns-clause-reviews : goal.returns-clause-reviews
returns-clause-reviews c = c.decided_by.ensures.reviews _ _ c.in_ok-gate.ensures.compiles

pub returns-clause-runs : goal.returns-clause-runs
returns-clause-runs c = of_one _ _ _ _ _ _ _ c.in_ok-gate.ensures.compiles.0 c.in_ok-gate.ensures.one (c.decided_by.ensures.runs _ _ c.in_ok-gate.ensures.compiles)
