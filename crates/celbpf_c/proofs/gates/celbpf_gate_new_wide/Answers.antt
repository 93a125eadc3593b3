-- Proofs of `gates::celbpf_gate_new_wide`: the result meets the contract.

use Rattle.celbpf_c.proofs.WideGates.{left_refusal}
use Rattle.celbpf_c.proofs.gates.celbpf_gate_new_wide.Goals as goal

pub returns-in-Err : goal.returns-in-Err
returns-in-Err c = left_refusal _ _ _ _ c.in-Err.refusal c.write_wide_refusal.ensures _ _ c.in-Err.ensures
