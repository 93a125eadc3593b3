-- Proof obligations of `memory_rows_stand` (src/rows.rt).
use Rattle.std.proofs.Common.{rules}
use Rattle.guest_memory.specs.Access.{constants_of, read_of, write_of}
use Rattle.guest_memory.specs.Memory.{start_memory}
use Rattle.guest_memory.specs.RegionWords.{word_in}
use Rattle.machine_rows.proofs.rows.memory_rows_stand.Goals as goal

pub returns-clause-regions : goal.returns-clause-regions
unfolding constants_of read_of write_of start_memory word_in
returns-clause-regions c = search rules

pub returns-clause-access : goal.returns-clause-access
unfolding constants_of read_of write_of start_memory word_in
returns-clause-access c = search rules

pub returns-clause-faults : goal.returns-clause-faults
unfolding constants_of read_of write_of start_memory word_in
returns-clause-faults c = search rules
