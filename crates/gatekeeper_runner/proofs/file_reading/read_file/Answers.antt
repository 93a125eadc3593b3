-- Proofs of `file_reading::read_file`: the result meets the contract.

use Rattle.gatekeeper_runner.proofs.file_reading.read_file.Goals as goal

pub returns-in-Err-clause-read : goal.returns-in-Err-clause-read
returns-in-Err-clause-read g c = record {
  error = c.in-Err.error;
  reading = c.in-Err.ensures.read;
  told = rw c.from.ensures at c.in_file.ensures;
}
