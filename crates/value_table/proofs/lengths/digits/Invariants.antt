-- Loop invariants and the termination measures of `lengths::digits`.

use Rattle.value_table.proofs.Prelude.{◌≡◌, ◌<◌, ◌+◌, ◌^◌, length, decimal}
use Rattle.value_table.proofs.TextLengths.{rest_digits}
use Rattle.value_table.proofs.lengths.digits.Given as goal

abbrev pub invariant-loop-rest : goal.invariant-loop-rest
invariant-loop-rest l = record { counted : l.count + rest_digits l.rest ≡ length (decimal l.fn.n); small : l.rest < 2 ^ 64 }

abbrev pub decreases-loop-rest : goal.decreases-loop-rest
decreases-loop-rest l = l.rest
