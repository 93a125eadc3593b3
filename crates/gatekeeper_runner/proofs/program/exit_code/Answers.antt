-- Proof obligations of `program::exit_code`.
use Rattle.gatekeeper_runner.proofs.Prelude.{refl, sym}
use Rattle.gatekeeper_runner.specs.Program.{does, refuses, tells}
use Rattle.gatekeeper_runner.proofs.program.exit_code.Goals as goal

pub returns-in-Some : goal.returns-in-Some
returns-in-Some g c = tells (sym c.in-Some.ensures) refl refl (record {
  ending = _;
  does = rw c.as_bytes.ensures.value at c.tell_text.ensures;
  status_is = c.exit_with.ensures.status;
  says = c.exit_with.ensures.says;
})

pub returns-in-Ok : goal.returns-in-Ok
returns-in-Ok g c = does (sym c.in-None.ensures) c.in-Ok.ensures c.perform.ensures.known c.perform.ensures.does

pub returns-in-Err : goal.returns-in-Err
returns-in-Err g c = refuses (sym c.in-None.ensures) c.in-Err.ensures refl (rw c.from.ensures at c.end_start.ensures)
