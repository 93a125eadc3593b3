-- Proofs of `laws::starts_are_tables`: the result meets the contract.

use Rattle.bpf_machine.proofs.Starts.{starts_are_tables}
use Rattle.bpf_machine.proofs.laws.starts_are_tables.Goals as goal

pub returns : goal.returns
returns c = starts_are_tables
