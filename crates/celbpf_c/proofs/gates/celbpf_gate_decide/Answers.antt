-- Proofs of `gates::celbpf_gate_decide`: the result meets the contract.

use Rattle.celbpf_c.proofs.gates.celbpf_gate_decide.Goals as goal

pub returns-clause-answers : goal.returns-clause-answers
returns-clause-answers c language policy holds = rw (← c.of_steps.ensures) (c.decide.ensures.answers language policy holds)
