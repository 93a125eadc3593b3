-- Proofs of `without_gate::decide_wide`: the result meets the contract.

use Rattle.admission.proofs.Standing.{of_one}
use Rattle.celbpf_calls.specs.WideCalls.{answered}
use Rattle.celbpf_calls.proofs.WideGates.{gate_of, told_refusal}
use Rattle.celbpf_calls.proofs.without_gate.decide_wide.Goals as goal

pub returns-in-Ok : goal.returns-in-Ok
returns-in-Ok c =
    let gate = gate_of _ c.in-Ok.opened c.in-Ok.ensures.opens c.in-Ok.ensures.one in
    answered (
      _,
      c.decided_by-answer.ensures.reviews _ _ gate.0,
      of_one _ _ _ _ _ _ _ gate.0.0 gate.1 (c.decided_by-answer.ensures.runs _ _ gate.0),
      c.write_answer.ensures,
    )

pub returns-in-Err : goal.returns-in-Err
returns-in-Err c = told_refusal _ _ _ _ c.in-Err.refusal c.write_wide_refusal.ensures _ _ c.in-Err.ensures.opens
