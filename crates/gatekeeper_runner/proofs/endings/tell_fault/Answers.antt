-- Proof obligations of `endings::tell_fault`.
use Rattle.gatekeeper_runner.proofs.Prelude.{inl, inr}
use Rattle.gatekeeper_runner.proofs.endings.tell_fault.Goals as goal

pub returns-in-Ok : goal.returns-in-Ok
returns-in-Ok g c = inl (rw (c.as_slice.ensures.value, c.in-Ok.ensures) at c.tell_bytes.ensures)

pub returns-in-Err : goal.returns-in-Err
returns-in-Err g c = inr c.tell_memory.ensures
