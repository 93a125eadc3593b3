-- Proofs of `policies::starting::open`: the result meets the contract.

use Rattle.gatekeeper_runner.proofs.policies.starting.open.Goals as goal

pub returns-in-Err-clause-gate : goal.returns-in-Err-clause-gate
returns-in-Err-clause-gate g c = record { fault = c.in-Err.fault; has = c.in-Err.ensures.gate; told = c.in_file.ensures }
