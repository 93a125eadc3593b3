-- Proofs of `laws::part_rows_hold`: the doubles compute.
use Rattle.std.proofs.Common.{rules}
use Rattle.durations.proofs.laws.part_rows_hold.Goals as goal
use lib.Count.{count_trailing_zeros}
use lib.Ieee.{add, climb, div, odd, of_int, round, size, span, sum, to_signed, units}

pub returns : goal.returns
unfolding add climb count_trailing_zeros div odd of_int round size span sum to_signed units
returns c = search rules
