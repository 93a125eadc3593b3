-- Proof obligations of `stream_rows_stand` (src/rows.rt).
use Rattle.std.proofs.Common.{arith, refl, rules}
use Rattle.streams.specs.Lines.{readable}
use Rattle.machine_rows.proofs.rows.stream_rows_stand.Goals as goal

pub returns-clause-streams : goal.returns-clause-streams
unfolding readable
returns-clause-streams c = record {
  half = refl;
  read_and_write_for_read = λ h. grind (arith, h);
  read_and_write_for_write = λ h. grind (arith, h);
  whole = refl;
}

pub returns-clause-texts : goal.returns-clause-texts
unfolding readable
returns-clause-texts c = search rules
